use Rattle.std.proofs.Common.{◌≡◌, ◌≤◌, ℕ, Bool, length}
use Rattle.iso_plan.specs.Paths.{column}
use Rattle.iso_plan.specs.KeptNodes.{number_among}
use Rattle.iso_selection.proofs.turns.places.Given as goal

abbrev pub invariant-nodes : goal.invariant-nodes
invariant-nodes l = record {
  few : l.place ≤ l.n;
  each : length l.places.items ≡ l.n;
  are : (test : ℕ → Bool) → l.passes ≡ column test (length l.passes) → l.places.items ≡ column (number_among test) l.n;
  next : (test : ℕ → Bool) → l.passes ≡ column test (length l.passes) → l.place ≡ number_among test l.n;
}
