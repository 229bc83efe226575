use Rattle.std.proofs.Common.{◌≡◌, ◌^◌, ◌-◌, ◌≤◌, length, min, take, drop}
use Rattle.std.specs.List.{prefix_len}
use Rattle.iso_script_lexer.specs.Spelling.{is_digit}
use Rattle.iso_script_lexer.specs.LexicalGrammar.{decimal_value}
use Rattle.iso_script_lexer.proofs.Numbers.{value_from}
use Rattle.iso_script_lexer.proofs.scan.digits_at.Given as goal

abbrev pub invariant-digits : goal.invariant-digits
invariant-digits l = record {
  told : min (2 ^ 64 - 1) (value_from l.value (take (prefix_len is_digit l.rest) l.rest)) ≡ min (2 ^ 64 - 1) (decimal_value (take (prefix_len is_digit l.fn.bytes) l.fn.bytes));
  back : drop (prefix_len is_digit l.rest) l.rest ≡ drop (prefix_len is_digit l.fn.bytes) l.fn.bytes;
  fits : l.value ≤ 2 ^ 64 - 1;
  shorter : length l.rest ≤ length l.fn.bytes;
}

abbrev pub decreases-digits : goal.decreases-digits
decreases-digits l = length l.rest
