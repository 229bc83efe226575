use Rattle.std.proofs.Common.{length}
use Rattle.iso_script.proofs.earlier_place.first_of.Given as goal

abbrev pub decreases-tokens : goal.decreases-tokens
decreases-tokens l = length l.lexer
