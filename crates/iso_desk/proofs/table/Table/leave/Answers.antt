use Rattle.std.proofs.Common.{◌≡◌, ℕ, ◌<◌, ◌∙◌, List, None, Option, ap, arith, get_or, length, subst, sym}
use Rattle.iso_desk.specs.Lines.{IsLineOf, line_number}
use Rattle.iso_desk.specs.Linked.{FirstBelow, mark_of, shorter}
use Rattle.iso_desk.specs.Places.{IsFirst, TableView}
use Rattle.iso_desk.specs.declared.ends.Ends.{Ends}
use Rattle.iso_desk.specs.declared.place.Place.{Place}
use Rattle.iso_desk.proofs.TableLemmas.{first_below, in_table, leaves_at, number_below, stands_marked, young_set}
use Rattle.iso_desk.proofs.table.Table.leave.Goals as goal
use Rattle.iso_desk.proofs.table.Table.leave.Goals.{After-get-ends}

ours : (c : After-get-ends) → IsLineOf c.self.inside.workers c.args.line
ours c = subst (λ (w : ℕ). IsLineOf w c.args.line) (sym (ap (λ (v : TableView). v.workers) c.self.view_is)) c.requires.line

read : (c : After-get-ends) → c.get-ends.result ≡ get_or c.self.inside.ends (line_number c.args.line) None
read c = c.get-ends.ensures ∙ ap (λ (k : ℕ). get_or c.self.inside.ends k None) c.number-number.ensures

pub shorter-requires : goal.shorter-requires
shorter-requires c =
    let d = goal.at.shorter-requires c in
    let below = number_below c.self.inside.workers c.args.line (ours d.After-get-ends) in
    let lines = c.self.invariant.linked.lines in
    let low : line_number c.args.line < length c.self.inside.ends = omega arith in
    subst (λ (ns : List ℕ). FirstBelow c.get-ends.result (length ns)) (sym c.deref.ensures.value)
    (subst (λ (e : Option Ends). FirstBelow e (length c.self.inside.next.items)) (sym (read d.After-get-ends))
    (first_below c.self.inside.workers c.self.inside.places.items c.self.inside.next.items c.self.inside.ends c.self.inside.clock (line_number c.args.line) c.self.invariant.linked low))

pub invariant_of-self : goal.invariant_of-self
invariant_of-self c =
    let d = goal.at.invariant_of-self c in
    let first = subst (λ (ps : List Place). IsFirst ps c.args.line c.args.node) (sym (ap (λ (v : TableView). v.places) c.self.view_is)) c.requires.first in
    let below = number_below c.self.inside.workers c.args.line (ours d.After-get-ends) in
    let lines = c.self.invariant.linked.lines in
    let number = c.number-number.ensures in
    let low : c.number-number.result < length c.self.inside.ends = omega arith in
    record {
      order = c.self.invariant.order;
      young = young_set c.self.inside.places.items c.args.node c.self.inside.front c.args.place
          (in_table c.self.inside.places.items c.args.node (stands_marked c.self.inside.places.items c.args.line c.args.node first.0)) (λ h. absurd (h (ap mark_of c.requires.place)))
          c.self.invariant.young;
      linked =
          rw c.set.ensures
          (leaves_at c.self.inside.workers c.self.inside.places.items c.self.inside.next.items c.self.inside.ends c.self.inside.clock c.args.line c.args.node c.args.place
          c.number-number.result c.get-ends.result c.shorter.result c.self.invariant.linked (ours d.After-get-ends) first c.requires.place
          (read d.After-get-ends) c.number-number.ensures (c.shorter.ensures ∙ ap (shorter c.get-ends.result) c.deref.ensures.value));
    }
