use Rattle.std.proofs.Common.{◌≡◌, ◌+◌, drop}
use Rattle.iso_junit.specs.Escapes.{plain_len}
use Rattle.iso_junit.proofs.escape.plain_len.Given as goal

abbrev pub invariant-loop-byte : goal.invariant-loop-byte
invariant-loop-byte l = (l.len ≡ l.byte-index) × (plain_len l.text ≡ l.byte-index + plain_len (drop l.byte-index l.text))
