use Rattle.std.proofs.Common.{List, length, rules, subst}
use Rattle.std.proofs.lemmas.List.Sorted.{answers_always}
use Rattle.std.specs.List.Sorted.{IsPermutation}
use Rattle.iso_durations.specs.Times.{is_measured, measured, micros}
use Rattle.iso_durations.specs.declared.durations.Timed.{Timed}
use Rattle.iso_durations.proofs.SortLemmas.{sorted-is}
use Rattle.iso_durations.proofs.TimesLemmas.{those-differ}
use Rattle.iso_plan.specs.RowView.{tree_of}
use Rattle.iso_durations.proofs.durations.Durations.slowest.Goals as goal

pub returns : goal.returns
returns c =
    let tree = tree_of c.args.plan.now in
    let times = c.args.times.now in
    let after = c.sort_unstable_by_key.new.self.items in
    let sorted = c.sort_unstable_by_key.ensures.sorted (λ t. (record { 0 = t.micros }, t.node)) (answers_always _ _ _ (λ f a r g h. search rules)) in
    let moved = subst (λ (l : List Timed). IsPermutation l after) c.measured-timed.ensures c.sort_unstable_by_key.ensures.permutation in
    sorted-is (micros times) (measured tree times) after (those-differ (is_measured times) (length tree)) moved sorted
