use Rattle.std.proofs.lemmas.Result.{err_from_is_err_and}
use Rattle.iso_script_statements.proofs.Expressions.{is_no_argument, locale_closes, locale_opens}
use Rattle.iso_script_statements.proofs.Views.{term_of-locale}
use Rattle.iso_script_statements.proofs.parser.Parser.locale.Goals as goal

pub returns-in_err-open : goal.returns-in_err-open
returns-in_err-open c =
    let p = err_from_is_err_and c.from_residual.result c.from_residual.ensures.1 in
    rw p.1 (λ x rest h. absurd (locale_opens _ x _ rest c.in_err-open.ensures.opened h))

pub returns-in_err-expect : goal.returns-in_err-expect
returns-in_err-expect c =
    let p = err_from_is_err_and c.from_residual-in_err-expect.result c.from_residual-in_err-expect.ensures.1 in
    rw p.1 (λ x rest h. absurd (locale_closes _ x _ _ rest c.in_ok-open.ensures.opened.1 c.in_err-expect.ensures.0 h))

pub returns : goal.returns
returns c = rw term_of-locale (is_no_argument _ _ _ _ _ c.in_ok-open.ensures.opened.0 c.in_ok-open.ensures.opened.1 c.in_ok-expect.ensures)
