use Rattle.std.proofs.Common.{List, rules, subst}
use Rattle.std.proofs.lemmas.List.Sorted.{answers_always}
use Rattle.std.specs.List.Sorted.{IsPermutation}
use Rattle.iso_critical.specs.declared.body.Body.{Body}
use Rattle.iso_critical.proofs.OrderLemmas.{sorted, timed-sorted}
use Rattle.iso_critical.proofs.order.latest_first.Goals as goal

pub returns : goal.returns
returns c =
    let times = c.args.times.now in
    let after = c.sort_unstable_by_key.new.self.items in
    let in-turn = c.sort_unstable_by_key.ensures.sorted (λ b. (record { 0 = b.time.end }, b.place)) (answers_always _ _ _ (λ f a r g h. search rules)) in
    let moved = subst (λ (l : List Body). IsPermutation l after) c.in_ok-bodies.ensures c.sort_unstable_by_key.ensures.permutation in
    sorted times c.args.nodes after moved (timed-sorted times after in-turn)
