use Rattle.std.proofs.Common.{◌≡◌, length, false}
use Rattle.iso_script_lexer.specs.Cursors.{line_of}
use Rattle.iso_script_lexer.specs.Scan.{after_gap}
use Rattle.iso_script_lexer.proofs.gap.after_gap.Given as goal

abbrev pub invariant-gap : goal.invariant-gap
invariant-gap l = after_gap false (line_of l.cursor) l.cursor.rest.now ≡ after_gap false (line_of l.fn.start) l.fn.start.rest.now

abbrev pub decreases-gap : goal.decreases-gap
decreases-gap l = length l.cursor.rest.now
