use Rattle.std.proofs.Common.{◌≡◌, ◌<◌, ◌∙◌, arith, get_or, string_bytes, subst, sym, IfOk}
use Rattle.std.proofs.lemmas.Grind.{common_steps}
use Rattle.iso_script_lexer.specs.Text.{decoded}
use Rattle.iso_script_lexer.proofs.TextLemmas.{plain-decoded, quoted_text, quoted_ascii}
use Rattle.iso_script_lexer.proofs.text.QuotedText.decode.Goals as goal

pub ascii_str-requires : goal.ascii_str-requires
ascii_str-requires c = λ i. quoted_ascii c.args.self.raw.now i c.args.self.quoted

pub returns-then-is_plain-clause-value : goal.returns-then-is_plain-clause-value
returns-then-is_plain-clause-value c =
    let meant = plain-decoded c.args.self.raw.now (sym c.is_plain.ensures ∙ c.if-is_plain.true) in
    subst (λ bs. IfOk c.from_str.result (λ t. string_bytes t ≡ bs)) (c.ascii_str.ensures ∙ sym meant) c.from_str.ensures.ok

pub returns-then-is_plain-clause-text : goal.returns-then-is_plain-clause-text
returns-then-is_plain-clause-text c = quoted_text c.args.self.raw.now c.args.self.quoted

pub returns-clause-text : goal.returns-clause-text
returns-clause-text c = quoted_text c.args.self.raw.now c.args.self.quoted

pub returns-in_err-push-clause-text : goal.returns-in_err-push-clause-text
returns-in_err-push-clause-text c = quoted_text c.args.self.raw.now c.args.self.quoted

pub decode-preserved : goal.decode-preserved
unfolding decoded
decode-preserved c =
    let ascii : get_or c.args.self.raw.now c.decode.byte-index 0 < 128 = quoted_ascii c.args.self.raw.now c.decode.byte-index c.args.self.quoted in
    grind (arith, common_steps)
