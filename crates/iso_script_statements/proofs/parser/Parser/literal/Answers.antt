use Rattle.std.proofs.Common.{◌∙◌, ◌∷◌, ap, sym, subst, arith, refl}
use Rattle.std.proofs.lemmas.Int.{ints}
use Rattle.iso_script_lexer.specs.Tokens.{after_word}
use Rattle.iso_script_lexer.specs.Piece.{symbol_at, tail}
use Rattle.iso_script_lexer.specs.declared.symbol.Symbol.TheVariants.{Minus}
use Rattle.iso_script_lexer.specs.declared.word.Word.TheVariants as W
use Rattle.iso_script_lexer.proofs.Afters.{after-Some}
use Rattle.iso_model.specs.declared.data.Data.{Data}
use Rattle.iso_script_statements.specs.Expressions.{IsLiteral}
use Rattle.iso_script_statements.proofs.Answers.{parses_from}
use Rattle.iso_script_statements.proofs.Literals.{is_number, is_text, is_true, is_false, no_literal}
use Rattle.iso_script_statements.proofs.parser.Parser.literal.Goals as goal

pub returns-then-takes : goal.returns-then-takes
returns-then-takes c =
    let s = after-Some Minus _ _ c.if-takes.ensures.found in
    parses_from (λ (x : Data). x) (λ x ps qs. IsLiteral x (symbol_at s.0 Minus ∷ ps) qs) IsLiteral _ _ _ _
    (λ x rest h. subst (λ ps. IsLiteral x ps rest) (sym s.1) h) (λ x rest h. subst (λ ps. IsLiteral x ps rest) s.1 h) (c.negative.ensures s.0)

pub returns-then-takes_word : goal.returns-then-takes_word
returns-then-takes_word c = is_true _ _ (ap (after_word W.True) (sym (c.if-takes.ensures.kept refl)) ∙ c.if-takes_word.ensures.found)

pub returns-then-takes_word-2 : goal.returns-then-takes_word-2
returns-then-takes_word-2 c =
    is_false _ _ (ap (after_word W.False) (sym (c.if-takes_word.ensures.kept refl ∙ c.if-takes.ensures.kept refl)) ∙ c.if-takes_word-2.ensures.found)

pub returns-in-Ok : goal.returns-in-Ok
returns-in-Ok c =
    let e = c.in-Ok.ensures in
    let kept = c.if-takes_word-2.ensures.kept refl ∙ c.if-takes_word.ensures.kept refl ∙ c.if-takes.ensures.kept refl in
    is_number _ _ _ _ _ (grind (arith, ints, e)) (rw (c.in-Number.is, kept) at c.peek.ensures.next) (c.advance.ensures ∙ ap tail kept) (omega (arith, ints, e))

pub returns-in_ok-decode-in-Text : goal.returns-in_ok-decode-in-Text
returns-in_ok-decode-in-Text c =
    let kept = c.if-takes_word-2.ensures.kept refl ∙ c.if-takes_word.ensures.kept refl ∙ c.if-takes.ensures.kept refl in
    is_text _ _ _ _ _ (c.new.ensures ∙ c.in_ok-decode-in-Text.ensures.value) (rw (c.in-Text.is, kept) at c.peek.ensures.next) (c.advance-in-Text.ensures ∙ ap tail kept)

pub returns-in_default : goal.returns-in_default
returns-in_default c =
    let once = c.if-takes.ensures.kept refl in
    let twice = c.if-takes_word.ensures.kept refl ∙ once in
    let kept = c.if-takes_word-2.ensures.kept refl ∙ twice in
    λ x rest h.
    absurd (no_literal _ _ _ (rw kept at c.peek.ensures.next) c.in_default.not-Number c.in_default.not-Text c.if-takes.ensures.found
    (ap (after_word W.True) (sym once) ∙ c.if-takes_word.ensures.found) (ap (after_word W.False) (sym twice) ∙ c.if-takes_word-2.ensures.found) h)
