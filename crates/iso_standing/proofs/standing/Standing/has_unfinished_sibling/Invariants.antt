use Rattle.std.proofs.Common.{◌≡◌, ℕ, ◌<◌, suc, get_or, leb, false, ◌&&◌}
use Rattle.iso_standing.specs.Passed.{is_due}
use Rattle.iso_standing.proofs.standing.Standing.has_unfinished_sibling.Given as goal

abbrev pub invariant-loop-sibling : goal.invariant-loop-sibling
invariant-loop-sibling l =
    (i : ℕ) → i < l.sibling-index → (leb (suc (get_or l.left i 0)) l.node && is_due l.self.plan l.self.phases (get_or l.left i 0)) ≡ false
