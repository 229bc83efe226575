use Rattle.std.proofs.Common.{◌≡◌, ◌==◌, ℕ, false, get_or, length, take}
use Rattle.std.specs.List.{list_any}
use Rattle.iso_critical.proofs.marks.marks.Given as goal

abbrev pub invariant-loop-body : goal.invariant-loop-body
invariant-loop-body l = record {
  size : length l.marks.items ≡ l.places;
  found : (n : ℕ) → get_or l.marks.items n false ≡ list_any (λ b. b.place == n) (take l.body-index l.bodies);
}
