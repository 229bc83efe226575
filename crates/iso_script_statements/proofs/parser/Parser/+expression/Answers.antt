use Rattle.std.proofs.Common.{◌∙◌, ◌<◌, ◌-◌, ◌≡◌, ap, sym, arith, length, is_some, Some, refl}
use Rattle.std.proofs.lemmas.Int.{ints}
use Rattle.std.proofs.lemmas.List.{map_push}
use Rattle.std.proofs.lemmas.Result.{err_from_is_err_and}
use Rattle.iso_script_lexer.specs.Piece.{tail}
use Rattle.iso_model.specs.Syntax.{term}
use Rattle.iso_model.specs.SyntaxView.{term_of}
use Rattle.iso_script_statements.specs.Expressions.{infix_next, IsChained, IsEnclosed, IsExpression, IsLocale, IsOperand, an_operand, a_literal}
use Rattle.iso_script_statements.specs.Pieces.{name_ahead}
use Rattle.iso_script_statements.specs.declared.expression.Infix.TheVariants.{Chain, Compare}
use Rattle.iso_script_statements.proofs.Answers.{parses_built, parses_from}
use Rattle.iso_script_statements.proofs.Expressions.{none_next, is_in_parentheses, parentheses_only, is_call, is_locale, locale_only, is_name, is_whole, literal_only, enclosed_opens, is_enclosed, not_enclosed, operand_first, all_chained, chain_goes_on, chain_goes_only, not_mixed, not_longer, operand_follows, is_chain, chain_only, is_comparison, comparison_only, unfollowed, room_left, still_few, tail_shorter}
use Rattle.iso_script_statements.proofs.Repetitions.{none_read, read_more}
use Rattle.iso_script_statements.proofs.Shorter.{operand_shorter}
use Rattle.iso_script_statements.proofs.Views.{term_of-whole, term_of-name, term_of-call}
use Rattle.iso_script_statements.proofs.WantedLemmas.{expression_ends, unmet_operator}
use Rattle.iso_script_statements.proofs.parser.Parser.+expression.Goals as goal

pub chained-operands-init : goal.chained-operands-init
chained-operands-init t c =
    rw c.in_ok-operands.ensures.items (record { few = omega arith; read = none_read term (IsChained c.args.parens c.args.symbol 31) c.args.self.now.lexer })

pub chained-unexpected-requires : goal.chained-unexpected-requires
chained-unexpected-requires t c = unmet_operator _ _ _ (c.operands-test.ensures ∙ ap is_some c.infix.ensures) c.requires (none_next _ c.if-not-is_at.ensures)

pub chained-returns-then-not-is_at : goal.chained-returns-then-not-is_at
chained-returns-then-not-is_at t c = λ x rest h.
    let so_far = c.operands.invariant.read.only x rest h in
    absurd (not_mixed _ _ _ so_far.0 _ rest (c.operands-test.ensures ∙ ap is_some c.infix.ensures) (none_next _ c.if-not-is_at.ensures) so_far.1)

pub chained-returns-then-len-ge-MORE_OPERANDS : goal.chained-returns-then-len-ge-MORE_OPERANDS
chained-returns-then-len-ge-MORE_OPERANDS t c = λ x rest h.
    let so_far = c.operands.invariant.read.only x rest h in
    let full : 31 - length c.operands.operands.items ≡ 0 = omega (arith, c.len.ensures) in
    absurd (not_longer _ _ _ so_far.0 _ rest (c.operands-test.ensures ∙ ap is_some c.infix.ensures) full so_far.1)

pub chained-returns-in_err-operand : goal.chained-returns-in_err-operand
chained-returns-in_err-operand t c =
    let p = err_from_is_err_and c.from_residual-in_err-operand.result c.from_residual-in_err-operand.ensures.1 in
    rw (p.1, p.2) (λ x rest h.
    let so_far = c.operands.invariant.read.only x rest h in
    let f = operand_follows _ _ _ so_far.0 _ _ rest (c.operands-test.ensures ∙ ap is_some c.infix.ensures) c.advance.ensures so_far.1 in
    c.in_err-operand.ensures f.0 f.1 f.2)

pub chained-operands-smaller : goal.chained-operands-smaller
chained-operands-smaller t c = omega (arith, operand_shorter c.in_ok-operand.ensures, ap length c.advance.ensures, tail_shorter c.operands.self.lexer)

pub chained-operands-preserved : goal.chained-operands-preserved
chained-operands-preserved t c =
    let few : length c.operands.operands.items < 31 = omega (arith, c.len.ensures) in
    let some = c.operands-test.ensures ∙ ap is_some c.infix.ensures in
    let room = room_left c.operands.operands.items c.in_ok-operand.field-0 few in
    rw (c.in_ok-push.ensures.items, map_push)
    (record {
      few = still_few c.operands.operands.items c.in_ok-operand.field-0 few;
      read =
          read_more term _ _ _ _ _ _ _ _ c.operands.invariant.read
          (chain_goes_on _ _ _ _ _ _ _ _ room c.if-not-is_at.ensures c.advance.ensures c.in_ok-operand.ensures)
          (chain_goes_only _ _ _ _ _ _ _ _ room some c.advance.ensures c.in_ok-operand.ensures);
    })

pub chained-returns : goal.chained-returns
chained-returns t c = all_chained _ _ _ _ _ _ c.operands.invariant.read (none_next _ (c.operands-test.ensures ∙ ap is_some c.infix.ensures))

pub enclosed-returns-in_err-more : goal.enclosed-returns-in_err-more
enclosed-returns-in_err-more t c =
    let p = err_from_is_err_and c.from_residual.result c.from_residual.ensures.1 in
    rw p.1 (λ x rest h. absurd (enclosed_opens _ x _ rest c.in_err-more.ensures.opened h))

pub enclosed-followed-requires : goal.enclosed-followed-requires
enclosed-followed-requires t c = expression_ends c.in_ok-expression.ensures

pub enclosed-returns : goal.enclosed-returns
enclosed-returns t c = is_enclosed _ _ _ _ _ _ _ c.in_ok-more.ensures.opened.0 c.in_ok-more.ensures.opened.1 c.in_ok-expression.ensures c.in_ok-followed.ensures

pub enclosed-returns-in_err-followed : goal.enclosed-returns-in_err-followed
enclosed-returns-in_err-followed t c =
    let p = err_from_is_err_and c.from_residual-in_err-followed.result c.from_residual-in_err-followed.ensures.1 in
    rw p.1 (λ x rest h. absurd (not_enclosed _ _ _ x _ _ _ rest c.in_ok-more.ensures.opened.0 c.in_ok-more.ensures.opened.1 c.in_ok-expression.ensures c.in_err-followed.ensures h))

pub operand-returns-then-is_at : goal.operand-returns-then-is_at
operand-returns-then-is_at t c =
    parses_from term_of (IsEnclosed c.args.parens) (IsOperand c.args.parens) _ _ _ _
    (λ x rest. is_in_parentheses _ x _ rest c.if-is_at.ensures) (λ x rest. parentheses_only _ x _ rest c.if-is_at.ensures) c.enclosed.ensures

pub compared-returns-in_err-second : goal.compared-returns-in_err-second
compared-returns-in_err-second t c =
    let p = err_from_is_err_and c.from_residual.result c.from_residual.ensures.1 in
    rw (p.1, p.2) (λ x rest h. c.in_err-second.ensures x rest h.0)

pub compared-returns-then-is_some : goal.compared-returns-then-is_some
compared-returns-then-is_some t c = λ x rest h.
    absurd (unfollowed _ _ _ _ _ rest c.in_ok-second.ensures (c.if-is_some.ensures ∙ ap is_some c.infix.ensures) h.0 h.1)

pub expression-returns-in_err-first : goal.expression-returns-in_err-first
expression-returns-in_err-first t c =
    let p = err_from_is_err_and c.from_residual.result c.from_residual.ensures.1 in
    rw (p.1, p.2) (λ x rest h. let k = operand_first _ x _ rest h in c.in_err-first.ensures k.0 k.1 k.2)

pub expression-returns-in_default : goal.expression-returns-in_default
expression-returns-in_default t c = an_operand c.in_ok-first.ensures (sym c.in_default.ensures)

pub expression-returns-in_err-operands-in-Chain : goal.expression-returns-in_err-operands-in-Chain
expression-returns-in_err-operands-in-Chain t c =
    let p = err_from_is_err_and c.from_residual-in_err-operands-in-Chain.result c.from_residual-in_err-operands-in-Chain.ensures.1 in
    let next : infix_next c.operand.new.self.lexer ≡ Some (c.in-Some.symbol, Chain c.in-Chain.operator) = cc (c.infix.ensures, c.in-Some.is, c.in-Chain.is) in
    rw (p.1, p.2) (λ x rest h. let k = chain_only _ _ _ _ x _ _ rest next c.in_ok-first.ensures h in c.in_err-operands-in-Chain.ensures k.0 rest k.1)

pub expression-returns-in_ok-operands-in-Chain : goal.expression-returns-in_ok-operands-in-Chain
expression-returns-in_ok-operands-in-Chain t c =
    let next : infix_next c.operand.new.self.lexer ≡ Some (c.in-Some.symbol, Chain c.in-Chain.operator) = cc (c.infix.ensures, c.in-Some.is, c.in-Chain.is) in
    parses_built term_of (IsExpression c.args.parens) _ _ _ _
    (is_chain _ _ _ _ _ _ _ _ next c.in_ok-first.ensures c.in_ok-operands-in-Chain.ensures) c.chain.ensures

pub expression-returns-in_err-second-in-Compare : goal.expression-returns-in_err-second-in-Compare
expression-returns-in_err-second-in-Compare t c =
    let p = err_from_is_err_and c.from_residual-in_err-second-in-Compare.result c.from_residual-in_err-second-in-Compare.ensures.1 in
    let next : infix_next c.operand.new.self.lexer ≡ Some (c.in-Some.symbol, Compare c.in-Compare.comparison) = cc (c.infix.ensures, c.in-Some.is, c.in-Compare.is) in
    rw (p.1, p.2) (λ x rest h. let k = comparison_only _ _ _ _ x _ _ _ rest next c.in_ok-first.ensures c.advance.ensures h in c.in_err-second-in-Compare.ensures k.0 rest (k.1, k.2))

pub expression-returns-in_ok-second-in-Compare : goal.expression-returns-in_ok-second-in-Compare
expression-returns-in_ok-second-in-Compare t c =
    let next : infix_next c.operand.new.self.lexer ≡ Some (c.in-Some.symbol, Compare c.in-Compare.comparison) = cc (c.infix.ensures, c.in-Some.is, c.in-Compare.is) in
    let read = c.in_ok-second-in-Compare.ensures in
    parses_built term_of (IsExpression c.args.parens) _ _ _ _
    (is_comparison _ _ _ _ _ _ _ _ _ next c.in_ok-first.ensures c.advance.ensures read.0 read.1) c.compare.ensures

pub operand-returns-in-Some : goal.operand-returns-in-Some
operand-returns-in-Some t c = rw (term_of-call, c.in_ok-new.ensures.ok) (is_call _ _ _ _ _ _ (sym c.in-Some.ensures) c.advance.ensures c.in_ok-operand.ensures)

pub operand-returns-then-takes_word : goal.operand-returns-then-takes_word
operand-returns-then-takes_word t c =
    parses_from term_of (IsLocale c.args.parens) (IsOperand c.args.parens) _ _ _ _
    (λ x rest. is_locale _ x _ _ rest c.if-takes_word.ensures.found) (λ x rest. locale_only _ x _ _ rest c.if-takes_word.ensures.found) c.locale.ensures

pub operand-returns-in-Some-name_ahead : goal.operand-returns-in-Some-name_ahead
operand-returns-in-Some-name_ahead t c =
    let kept = c.if-takes_word.ensures.kept refl in
    rw (term_of-name, c.in_ok-copied.ensures) (is_name _ _ _ _ (ap name_ahead (sym kept) ∙ c.in-Some-name_ahead.ensures) (c.advance-in-Some-name_ahead.ensures ∙ ap tail kept))

pub operand-returns-in_err-literal : goal.operand-returns-in_err-literal
operand-returns-in_err-literal t c =
    let kept = c.if-takes_word.ensures.kept refl in
    let p = err_from_is_err_and c.from_residual-in_err-literal.result c.from_residual-in_err-literal.ensures.1 in
    rw (p.1, p.2) (λ x rest h.
    let k = literal_only _ x _ rest (none_next _ c.if-is_at.ensures) (sym c.in_default.ensures) c.if-takes_word.ensures.found (ap name_ahead (sym kept) ∙ c.in_default-name_ahead.ensures) h in
    (rw kept at c.in_err-literal.ensures) k.0 rest k.1)

pub operand-returns : goal.operand-returns
operand-returns t c =
    let e = c.in-Ok.ensures in
    let kept = c.if-takes_word.ensures.kept refl in
    rw term_of-whole (is_whole _ _ _ _ _ _ (grind (arith, ints, e)) (rw (c.in-Number.is, kept) at c.peek.ensures.next) (c.advance-2.ensures ∙ ap tail kept) (omega (arith, ints, e)))

pub operand-returns-2 : goal.operand-returns-2
operand-returns-2 t c =
    parses_built term_of (IsOperand c.args.parens) _ _ _ _ (a_literal (rw (c.if-takes_word.ensures.kept refl) at c.in_ok-literal.ensures)) c.written.ensures
