use Rattle.std.proofs.Common.{ℕ, ap, subst, sym}
use Rattle.iso_desk.specs.Lines.{IsLineOf}
use Rattle.iso_desk.specs.Places.{IsFirst, TableView}
use Rattle.iso_desk.proofs.TableLemmas.{first_is}
use Rattle.iso_desk.proofs.table.Table.first.Goals as goal

pub returns : goal.returns
returns c =
    let ours = subst (λ (w : ℕ). IsLineOf w c.args.line) (sym (ap (λ (v : TableView). v.workers) c.self.view_is)) c.requires in
    subst (λ (v : TableView). IsFirst v.places c.args.line c.in_ok-ends.ends.first) c.self.view_is
    (first_is c.self.inside.workers c.self.inside.places.items c.self.inside.next.items c.self.inside.ends c.self.inside.clock c.args.line c.number.result c.get.result c.in_ok-ends.ends
    c.self.invariant.linked ours c.number.ensures c.get.ensures c.in_ok-ends.was)
