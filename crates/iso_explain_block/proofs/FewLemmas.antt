-- Hints are few.
use Rattle.std.proofs.Common.{◌≡◌, ◌≤◌, ℕ, List, [], ◌∷◌, ◌++◌, Bool, true, false, ◌||◌, cond, length, nat_le, refl, arith, length-append}
use Rattle.std.proofs.lemmas.Bool.{leb-false}
use Rattle.iso_explain_block.proofs.KeptLemmas.{hints-kept}
use Rattle.iso_explain_block.specs.BlockFaults.{hints}
use Rattle.iso_explain_block.specs.Lines.{has_line, with_line}
use Rattle.iso_explain_block.specs.Views.{BlockFaultView}

few_with : (full has : Bool) (line : List ℕ) (ls : List (List ℕ)) → nat_le 4 (length ls) ≡ full → length ls ≤ 4
    → length (cond (full || has) ls (ls ++ line ∷ [])) ≤ 4
few_with true has line ls e h = h
few_with false true line ls e h = h
few_with false false line ls e h = let room = leb-false 4 (length ls) e in rw (length-append ls (line ∷ [])) (omega (arith, room))

few_more : (line : List ℕ) (ls : List (List ℕ)) → length ls ≤ 4 → length (with_line line ls) ≤ 4
unfolding with_line
few_more line ls h = few_with (nat_le 4 (length ls)) (has_line line ls) line ls refl h

pub hints-few : (f : BlockFaultView) → length (hints f) ≤ 4
hints-few f = hints-kept (λ ls. length ls ≤ 4) few_more f (omega arith)
