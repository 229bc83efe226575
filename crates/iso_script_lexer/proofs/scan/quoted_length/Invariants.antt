use Rattle.std.proofs.Common.{◌≡◌, ◌≤◌, ◌-◌, length, false}
use Rattle.iso_script_lexer.specs.TokenFaults.{text_fault}
use Rattle.iso_script_lexer.specs.Scan.{quoted_length}
use Rattle.iso_script_lexer.proofs.Texts.{later}
use Rattle.iso_script_lexer.proofs.scan.quoted_length.Given as goal

abbrev pub invariant-text : goal.invariant-text
invariant-text l = record {
  told : quoted_length false 4096 l.fn.bytes ≡ later (length l.fn.bytes - length l.rest) (quoted_length false l.room l.rest);
  fault : text_fault false 4096 l.fn.bytes ≡ text_fault false l.room l.rest;
  shorter : length l.rest ≤ length l.fn.bytes;
}

abbrev pub decreases-text : goal.decreases-text
decreases-text l = length l.rest
