use Rattle.std.proofs.Common.{◌≡◌, ◌≤◌, ℕ, List, length, true}
use Rattle.iso_script_lexer.specs.Scan.{gap_from}
use Rattle.iso_script_lexer.proofs.gap.after_comment.Given as goal

abbrev pub invariant-comment : goal.invariant-comment
invariant-comment l = record {
  told : (number : ℕ) (line : List ℕ) → gap_from true number line l.fn.bytes ≡ gap_from true number line l.rest;
  shorter : length l.rest ≤ length l.fn.bytes;
}

abbrev pub decreases-comment : goal.decreases-comment
decreases-comment l = length l.rest
