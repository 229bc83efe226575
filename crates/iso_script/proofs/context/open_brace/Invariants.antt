use Rattle.std.proofs.Common.{◌≡◌, List, ◌++◌, length}
use Rattle.iso_script.specs.Contexts.{open_after}
use Rattle.iso_script_lexer.specs.LexicalGrammar.{ArePiecesOf}
use Rattle.iso_script_lexer.specs.Piece.{Piece}
use Rattle.iso_script.proofs.context.open_brace.Given as goal

abbrev pub invariant-tokens : goal.invariant-tokens
invariant-tokens l = (passed : List Piece) × ArePiecesOf l.bytes (passed ++ l.lexer) × (l.braces.items ≡ open_after passed)

abbrev pub decreases-tokens : goal.decreases-tokens
decreases-tokens l = length l.lexer
