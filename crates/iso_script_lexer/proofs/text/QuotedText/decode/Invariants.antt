use Rattle.std.proofs.Common.{◌≡◌, ◌++◌, false, drop, string_bytes}
use Rattle.iso_script_lexer.specs.Text.{decoded}
use Rattle.iso_script_lexer.proofs.text.QuotedText.decode.Given as goal

abbrev pub invariant-decode : goal.invariant-decode
invariant-decode l = string_bytes l.text ++ decoded l.escaped (drop l.byte-index l.self.raw.now) ≡ decoded false l.fn.self.raw.now
