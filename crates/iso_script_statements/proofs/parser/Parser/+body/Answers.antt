use Rattle.std.proofs.Common.{◌∷◌, ◌∙◌, ap, sym, subst, length, arith, refl}
use Rattle.std.proofs.lemmas.List.{map_push}
use Rattle.std.proofs.lemmas.Result.{err_from_is_err_and}
use Rattle.iso_script_lexer.specs.Piece.{word_at}
use Rattle.iso_script_lexer.specs.Tokens.{after_word}
use Rattle.iso_script_lexer.specs.declared.word.Word.TheVariants as W
use Rattle.iso_script_lexer.proofs.Afters.{after_word-Some}
use Rattle.iso_model.proofs.TreeLemmas.{form_of-repeat}
use Rattle.iso_model.specs.SyntaxView.{form_of}
use Rattle.iso_script_statements.specs.Statements.{IsSimple, IsStatement, an_if, a_repeat, IsElse, no_else, IsStatements, IsBody, body_of}
use Rattle.iso_script_statements.proofs.Answers.{parses_from}
use Rattle.iso_script_statements.proofs.Repetitions.{none_read, read_more}
use Rattle.iso_script_statements.proofs.Shorter.{statement_shorter}
use Rattle.iso_script_statements.proofs.Statements.{is_simple, simple_only, is_assignment, assignment_only, if_body, if_else, repeat_body, is_else, else_only, statement_some, also, goes_on, goes_only, next_statement, all_read, is_body, body_inner, not_opened}
use Rattle.iso_script_statements.proofs.WantedLemmas.{expression_ends}
use Rattle.iso_script_statements.proofs.Views.{form_of-assign, form_of-choice, form_of-lone, stmt_of-parts}
use Rattle.iso_script_statements.proofs.parser.Parser.+body.Goals as goal

pub statements-statements-init : goal.statements-statements-init
statements-statements-init t c = rw c.in_ok-statements.ensures (none_read also (IsStatements c.args.bodies c.args.above) c.args.self.now.lexer)

pub statements-returns-in_err-form : goal.statements-returns-in_err-form
statements-returns-in_err-form t c =
    let p = err_from_is_err_and c.from_residual-in_err-form.result c.from_residual-in_err-form.ensures.1 in
    rw (p.1, p.2) (λ all rest h.
    let so_far = c.statements.invariant.only all rest h in
    let n = next_statement so_far.1 c.statements-test.ensures.found in
    (rw (c.statements-test.ensures.kept refl) at c.in_err-form.ensures) n.0 n.2 n.3)

pub statements-statements-smaller : goal.statements-statements-smaller
statements-statements-smaller t c = omega (arith, statement_shorter c.in_ok-form.ensures, ap length (c.statements-test.ensures.kept refl))

pub statements-statements-preserved : goal.statements-statements-preserved
statements-statements-preserved t c =
    let kept = c.statements-test.ensures.kept refl in
    let found = rw kept at c.in_ok-form.ensures in
    let row = rw kept at c.row_in-row.ensures in
    rw (c.in_ok-push.ensures.items, map_push, stmt_of-parts)
    (read_more also _ _ _ _ _ _ _ _ c.statements.invariant (goes_on _ _ _ _ _ _ (row (statement_some found)) found) (goes_only _ _ _ _ _ c.statements-test.ensures.found found))

pub statements-returns : goal.statements-returns
statements-returns t c = all_read _ _ _ _ _ _ c.statements.invariant c.statements-test.ensures.found

pub body-returns : goal.body-returns
body-returns t c =
    let opened = c.in_ok-more.ensures.opened in
    parses_from body_of (IsStatements _ c.args.above) (IsBody c.args.bodies c.args.above) _ _ _ _
    (λ x rest. is_body _ _ _ x _ _ rest opened.0 opened.1) (λ x rest. body_inner _ _ _ x _ _ rest opened.0 opened.1) c.statements.ensures

pub body-returns-in_err-more : goal.body-returns-in_err-more
body-returns-in_err-more t c =
    let p = err_from_is_err_and c.from_residual.result c.from_residual.ensures.1 in
    rw p.1 (λ x rest h. absurd (not_opened _ _ x _ rest c.in_err-more.ensures.opened h))

pub otherwise-returns-then-takes_word : goal.otherwise-returns-then-takes_word
otherwise-returns-then-takes_word t c =
    parses_from body_of (IsBody c.args.bodies c.args.above) (IsElse c.args.bodies c.args.above) _ _ _ _
    (λ x rest. is_else _ _ x _ _ rest c.if-takes_word.ensures.found) (λ x rest. else_only _ _ x _ _ rest c.if-takes_word.ensures.found) c.body.ensures

pub otherwise-returns-else-takes_word : goal.otherwise-returns-else-takes_word
otherwise-returns-else-takes_word t c = rw (c.new.ensures.items, c.if-takes_word.ensures.kept refl) (no_else c.if-takes_word.ensures.found)

pub form-returns-in-Some : goal.form-returns-in-Some
form-returns-in-Some t c =
    parses_from form_of (IsSimple c.in-Some.simple) (IsStatement c.args.bodies c.args.above) _ _ _ _
    (λ x rest. is_simple _ _ _ x _ _ rest (sym c.in-Some.ensures) c.advance.ensures) (λ x rest. simple_only _ _ _ x _ _ rest (sym c.in-Some.ensures) c.advance.ensures) c.simple_form.ensures

pub form-returns-then-takes_word : goal.form-returns-then-takes_word
form-returns-then-takes_word t c =
    let s = after_word-Some W.If _ _ c.if-takes_word.ensures.found in
    parses_from form_of (λ a ps qs. IsStatement c.args.bodies c.args.above a (word_at s.0 W.If ∷ ps) qs) (IsStatement c.args.bodies c.args.above) _ _ _ _
    (λ x rest h. subst (λ ps. IsStatement c.args.bodies c.args.above x ps rest) (sym s.1) h) (λ x rest h. subst (λ ps. IsStatement c.args.bodies c.args.above x ps rest) s.1 h) (c.choice.ensures s.0)

pub form-returns-then-takes_word-2 : goal.form-returns-then-takes_word-2
form-returns-then-takes_word-2 t c =
    let kept = c.if-takes_word.ensures.kept refl in
    let s = after_word-Some W.Repeat _ _ (ap (after_word W.Repeat) (sym kept) ∙ c.if-takes_word-2.ensures.found) in
    parses_from form_of (λ a ps qs. IsStatement c.args.bodies c.args.above a (word_at s.0 W.Repeat ∷ ps) qs) (IsStatement c.args.bodies c.args.above) _ _ _ _
    (λ x rest h. subst (λ ps. IsStatement c.args.bodies c.args.above x ps rest) (sym s.1) h) (λ x rest h. subst (λ ps. IsStatement c.args.bodies c.args.above x ps rest) s.1 h)
    (c.repetition.ensures s.0)

pub form-returns-in_err-name : goal.form-returns-in_err-name
form-returns-in_err-name t c =
    let kept = c.if-takes_word.ensures.kept refl in
    let p = err_from_is_err_and c.from_residual.result c.from_residual.ensures.1 in
    rw (p.1, p.2) (λ a rest h.
    let k = assignment_only _ _ a _ rest (sym c.in_default.ensures) c.if-takes_word.ensures.found (ap (after_word W.Repeat) (sym kept) ∙ c.if-takes_word-2.ensures.found) h in
    (rw (c.if-takes_word-2.ensures.kept refl ∙ kept) at c.in_err-name.ensures) k.0 rest k.1)

pub form-returns : goal.form-returns
form-returns t c = rw form_of-assign (is_assignment _ _ _ _ _ (rw (c.if-takes_word-2.ensures.kept refl ∙ c.if-takes_word.ensures.kept refl) at c.in_ok-name.ensures))

pub choice-body-requires : goal.choice-body-requires
choice-body-requires t c = (omega arith, c.wanted_before-wanted.ensures _ (expression_ends c.in_ok-condition.ensures))

pub choice-returns-in_err-first : goal.choice-returns-in_err-first
choice-returns-in_err-first t c =
    let p = err_from_is_err_and c.from_residual-in_err-first.result c.from_residual-in_err-first.ensures.1 in
    λ r. rw (p.1, p.2) (λ a rest h. let k = if_body _ _ r _ a _ _ rest c.in_ok-condition.ensures h in c.in_err-first.ensures k.0 k.2 k.3)

pub choice-returns-in_err-second : goal.choice-returns-in_err-second
choice-returns-in_err-second t c =
    let p = err_from_is_err_and c.from_residual-in_err-second.result c.from_residual-in_err-second.ensures.1 in
    λ r. rw (p.1, p.2) (λ a rest h. let k = if_else _ _ r _ _ a _ _ _ rest c.in_ok-condition.ensures c.in_ok-first.ensures h in c.in_err-second.ensures k.0 rest k.1)

pub choice-returns-then-is_empty : goal.choice-returns-then-is_empty
choice-returns-then-is_empty t c =
    let none = sym c.is_empty.ensures ∙ c.if-is_empty.true in
    λ r. rw (form_of-lone c.in_ok-condition.condition c.in_ok-first.first c.in_ok-second.second none) (an_if c.in_ok-condition.ensures c.in_ok-first.ensures c.in_ok-second.ensures)

pub choice-returns : goal.choice-returns
choice-returns t c = λ r. rw (form_of-choice c.in_ok-condition.condition _ _ c.in_ok-bodies.bodies c.in_ok-bodies.ensures.ok) (an_if c.in_ok-condition.ensures c.in_ok-first.ensures c.in_ok-second.ensures)

pub repetition-body-requires : goal.repetition-body-requires
repetition-body-requires t c = (omega arith, c.wanted_before-wanted.ensures _ (expression_ends c.in_ok-count.ensures))

pub repetition-returns-in_err-body : goal.repetition-returns-in_err-body
repetition-returns-in_err-body t c =
    let p = err_from_is_err_and c.from_residual-in_err-body.result c.from_residual-in_err-body.ensures.1 in
    λ r. rw (p.1, p.2) (λ a rest h. let k = repeat_body _ _ r _ a _ _ rest c.in_ok-count.ensures h in c.in_err-body.ensures k.0 rest k.1)

pub repetition-returns : goal.repetition-returns
repetition-returns t c = λ r. rw form_of-repeat (a_repeat c.in_ok-count.ensures c.in_ok-body.ensures)
