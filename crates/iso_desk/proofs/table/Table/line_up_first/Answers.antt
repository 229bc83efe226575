use Rattle.std.proofs.Common.{◌≡◌, ℕ, ◌+◌, ◌<◌, ◌≤◌, ◌≢◌, ◌∙◌, None, ap, arith, get_or, length, subst, sym}
use Rattle.iso_desk.specs.Lines.{IsLineOf, line_number}
use Rattle.iso_desk.specs.Linked.{mark, since}
use Rattle.iso_desk.specs.Places.{TableView, line_in, place_of}
use Rattle.iso_desk.specs.declared.place.Place.TheVariants.{InLine}
use Rattle.iso_desk.proofs.TableLemmas.{led_at, number_below, young_set}
use Rattle.iso_desk.proofs.table.Table.line_up_first.Goals as goal
use Rattle.iso_desk.proofs.table.Table.line_up_first.Goals.{After-get-ends}

ours : (c : After-get-ends) → IsLineOf c.self.inside.workers c.args.line
ours c = subst (λ (w : ℕ). IsLineOf w c.args.line) (sym (ap (λ (v : TableView). v.workers) c.self.view_is)) c.requires.line

here : (c : After-get-ends) → c.args.node < length c.self.inside.places.items
here c =
    let same : length c.self.inside.places.items ≡ length c.args.self.now.places = ap (λ (v : TableView). length v.places) c.self.view_is in
    omega (arith, c.requires.node)

read : (c : After-get-ends) → c.get-ends.result ≡ get_or c.self.inside.ends (line_number c.args.line) None
read c = c.get-ends.ensures ∙ ap (λ (k : ℕ). get_or c.self.inside.ends k None) c.number-number.ensures

pub lead-requires : goal.lead-requires
lead-requires c =
    let d = goal.at.lead-requires c in
    let low = here d.After-get-ends in
    let nodes = c.self.invariant.linked.nodes in
    let small : c.args.node < length c.self.inside.next.items = omega arith in
    small

pub invariant_of-self : goal.invariant_of-self
invariant_of-self c =
    let d = goal.at.invariant_of-self c in
    let there = here d.After-get-ends in
    let fewer : c.in-Some.front + 1 ≡ c.self.inside.front = omega arith in
    let order = c.self.invariant.order in
    let early : c.in-Some.front < c.self.inside.clock = omega arith in
    let young : (m : ℕ) → mark c.self.inside.places.items m ≢ 0 → c.in-Some.front < since c.self.inside.places.items m = λ m h. let y = c.self.invariant.young m h in omega arith in
    let below = number_below c.self.inside.workers c.args.line (ours d.After-get-ends) in
    let lines = c.self.invariant.linked.lines in
    let number = c.number-number.ensures in
    let low : c.number-number.result < length c.self.inside.ends = omega arith in
    record {
      order = omega arith;
      young = young_set c.self.inside.places.items c.args.node c.in-Some.front (InLine (record { line = c.args.line; since = c.in-Some.front })) there
          (λ h. let self : c.in-Some.front ≤ c.in-Some.front = omega arith in self)
          (λ m h. let y = young m h in let z : c.in-Some.front ≤ since c.self.inside.places.items m = omega arith in z);
      linked =
          rw c.set.ensures
          (led_at c.self.inside.workers c.self.inside.places.items c.self.inside.next.items c.self.inside.ends c.self.inside.clock c.in-Some.front c.args.line c.args.node c.lead.new.next.items
          c.number-number.result c.get-ends.result c.wider.result c.self.invariant.linked (ours d.After-get-ends) there
          (ap (λ (v : TableView). line_in (place_of v.places c.args.node)) c.self.view_is ∙ c.requires.free) early young
          (read d.After-get-ends) c.number-number.ensures c.lead.ensures c.wider.ensures);
    }
