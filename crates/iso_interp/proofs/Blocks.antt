-- Whether a lent block has statements.
use Rattle.std.proofs.Common.{◌≡◌, ◌==◌, length, List, [], ◌∷◌, false, arith, refl}
use Rattle.std.proofs.lemmas.Bool.Decides.{nat_tests}
use Rattle.iso_model.specs.SyntaxView.{block_of}
use Rattle.iso_model.specs.declared.tree.Stmt.{Stmt}
use Rattle.iso_interp.specs.Blocks.{is_empty}

pub none-of : (ss : List Stmt) → (length ss == 0) ≡ is_empty (block_of ss)
none-of [] = refl
none-of (s ∷ ss) = let some : (length (s ∷ ss) == 0) ≡ false = grind (arith, nat_tests) in some
