use Rattle.std.proofs.Common.{◌≡◌, ℕ, ◌+◌, ◌<◌, ◌∙◌, None, Option, ap, arith, get_or, length, subst, sym}
use Rattle.iso_desk.specs.Lines.{IsLineOf, line_number}
use Rattle.iso_desk.specs.Linked.{LastBelow}
use Rattle.iso_desk.specs.Places.{TableView, line_in, place_of}
use Rattle.iso_desk.specs.declared.ends.Ends.{Ends}
use Rattle.iso_desk.specs.declared.place.Place.TheVariants.{InLine}
use Rattle.iso_desk.proofs.TableLemmas.{last_below, number_below, lined_up_at, young_set}
use Rattle.iso_desk.proofs.table.Table.line_up.Goals as goal
use Rattle.iso_desk.proofs.table.Table.line_up.Goals.{After-get-ends}

ours : (c : After-get-ends) → IsLineOf c.self.inside.workers c.args.line
ours c = subst (λ (w : ℕ). IsLineOf w c.args.line) (sym (ap (λ (v : TableView). v.workers) c.self.view_is)) c.requires.line

read : (c : After-get-ends) → c.get-ends.result ≡ get_or c.self.inside.ends (line_number c.args.line) None
read c = c.get-ends.ensures ∙ ap (λ (k : ℕ). get_or c.self.inside.ends k None) c.number-number.ensures

pub link-requires : goal.link-requires
link-requires c =
    let d = goal.at.link-requires c in
    let below = number_below c.self.inside.workers c.args.line (ours d.After-get-ends) in
    let lines = c.self.invariant.linked.lines in
    let low : line_number c.args.line < length c.self.inside.ends = omega arith in
    subst (λ (e : Option Ends). LastBelow e (length c.self.inside.next.items)) (sym (read d.After-get-ends))
    (last_below c.self.inside.workers c.self.inside.places.items c.self.inside.next.items c.self.inside.ends c.self.inside.clock (line_number c.args.line) c.self.invariant.linked low)

pub invariant_of-self : goal.invariant_of-self
invariant_of-self c =
    let d = goal.at.invariant_of-self c in
    let same : length c.self.inside.places.items ≡ length c.args.self.now.places = ap (λ (v : TableView). length v.places) c.self.view_is in
    let here : c.args.node < length c.self.inside.places.items = omega (arith, c.requires.node) in
    let later : c.in-Some.clock ≡ c.self.inside.clock + 1 = omega arith in
    let below = number_below c.self.inside.workers c.args.line (ours d.After-get-ends) in
    let lines = c.self.invariant.linked.lines in
    let number = c.number-number.ensures in
    let low : c.number-number.result < length c.self.inside.ends = omega arith in
    record {
      order = let o = c.self.invariant.order in omega arith;
      young = young_set c.self.inside.places.items c.args.node c.self.inside.front (InLine (record { line = c.args.line; since = c.self.inside.clock })) here (λ h. c.self.invariant.order)
          c.self.invariant.young;
      linked =
          rw c.set.ensures
          (lined_up_at c.self.inside.workers c.self.inside.places.items c.self.inside.next.items c.self.inside.ends c.self.inside.clock c.args.line c.args.node c.link.new.next.items
          c.number-number.result c.in-Some.clock c.get-ends.result c.longer.result c.self.invariant.linked (ours d.After-get-ends) here
          (ap (λ (v : TableView). line_in (place_of v.places c.args.node)) c.self.view_is ∙ c.requires.free)
          (read d.After-get-ends) c.number-number.ensures c.link.ensures c.longer.ensures later);
    }
