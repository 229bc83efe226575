use Rattle.std.proofs.Common.{◌≡◌, ◌==◌, ℕ, suc, List, [], ◌∷◌, false, length, not, refl, sym, ap, ◌∙◌, arith}
use Rattle.std.proofs.lemmas.Bool.Decides.{nat_tests}
use Rattle.iso_affected.specs.Listed as L
use Rattle.iso_model.specs.SyntaxView.{block_of}
use Rattle.iso_model.specs.declared.tree.Stmt.{Stmt}
use Rattle.iso_affected.proofs.listed.has_statement.Goals as goal

some-apart : (n : ℕ) → (suc n == 0) ≡ false
some-apart n = grind (arith, nat_tests)

told : (xs : List Stmt) → L.has_statement (block_of xs) ≡ not (length xs == 0)
told [] = refl
told (x ∷ xs) = ap not (sym (some-apart (length xs)))

pub returns : goal.returns
returns c = ap not c.is_empty.ensures ∙ sym (told c.args.block.now)
