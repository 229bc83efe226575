use Rattle.std.proofs.Common.{◌≡◌, ◌<◌, ◌≤◌, ◌||◌, ◌&&◌, ℕ, [], drop, get_or, length, not, false}
use Rattle.std.specs.List.{list_any}
use Rattle.iso_plan.specs.Paths.{is_root}
use Rattle.iso_selection.specs.Patterns.{is_match}
use Rattle.iso_selection.proofs.pattern.mark_matches.Given as goal

abbrev pub invariant-nodes : goal.invariant-nodes
invariant-nodes l = record {
  each : length l.named.items ≡ length l.paths;
  any : (l.found || list_any (is_match l.pattern) (drop l.n l.paths)) ≡ list_any (is_match l.pattern) (drop 1 l.paths);
  done : (m : ℕ) → m < l.n → get_or l.named.items m false ≡ (get_or l.fn.named.items m false || (not (is_root m) && is_match l.pattern (get_or l.paths m [])));
  left : (m : ℕ) → l.n ≤ m → get_or l.named.items m false ≡ get_or l.fn.named.items m false;
}
