use Rattle.std.proofs.Common.{◌≡◌, ◌&&◌, ◌==◌, ℕ, get_or, length, false}
use Rattle.std.specs.List.{list_any, range_with_len}
use Rattle.iso_selection.proofs.turns.held.Given as goal

abbrev pub invariant-nodes : goal.invariant-nodes
invariant-nodes l = record {
  each : length l.held.items ≡ length l.classes;
  so_far : (m : ℕ) → get_or l.held.items m false ≡ list_any (λ k. get_or l.named k false && (get_or l.classes k 0 == m)) (range_with_len 0 l.n);
}
