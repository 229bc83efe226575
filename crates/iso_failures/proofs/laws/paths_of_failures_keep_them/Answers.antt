use Rattle.std.proofs.Common.{◌≡◌, ◌<◌, ℕ, zero, suc, true, sym, arith, true≢false}
use Rattle.iso_model.specs.declared.outcome.Outcome.{Outcome}
use Rattle.iso_plan.specs.RowView.{tree_of}
use Rattle.iso_failures.specs.Failures.{is_failure}
use Rattle.iso_failures.proofs.KeepLemmas.{paths-keep}
use Rattle.iso_failures.proofs.laws.paths_of_failures_keep_them.Goals as goal

-- the root is no failure
inner : (outcome : ℕ → Outcome) (n : ℕ) → is_failure outcome n ≡ true → 0 < n
inner outcome zero h = absurd (true≢false (sym h))
inner outcome (suc n) h = omega arith

pub returns : goal.returns
returns c = λ outcome n less fails. paths-keep (tree_of c.args.plan.now) c.nodes_are_a_tree.ensures (is_failure outcome) n (inner outcome n fails) less fails
