use Rattle.std.proofs.Common.{◌≡◌, ◌≤◌, ℕ, List, length, false}
use Rattle.iso_script_lexer.specs.Scan.{gap_from}
use Rattle.iso_script_lexer.proofs.gap.after_spaces.Given as goal

abbrev pub invariant-spaces : goal.invariant-spaces
invariant-spaces l = record {
  told : (number : ℕ) (line : List ℕ) → gap_from false number line l.fn.bytes ≡ gap_from false number line l.rest;
  shorter : length l.rest ≤ length l.fn.bytes;
}

abbrev pub decreases-spaces : goal.decreases-spaces
decreases-spaces l = length l.rest
