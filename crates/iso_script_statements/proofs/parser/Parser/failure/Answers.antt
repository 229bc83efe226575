use Rattle.std.proofs.lemmas.Result.{err_from_is_err_and}
use Rattle.iso_script_statements.proofs.Statements.{is_fail, fail_closes, fail_text}
use Rattle.iso_script_statements.proofs.Views.{form_of-fail}
use Rattle.iso_script_statements.proofs.parser.Parser.failure.Goals as goal

pub returns-in_err-message : goal.returns-in_err-message
returns-in_err-message c =
    let p = err_from_is_err_and c.from_residual.result c.from_residual.ensures.1 in
    rw p.1 (λ a rest h. absurd (fail_text a _ rest c.in_err-message.ensures.0 h))

pub returns-in_err-expect : goal.returns-in_err-expect
returns-in_err-expect c =
    let p = err_from_is_err_and c.from_residual-in_err-expect.result c.from_residual-in_err-expect.ensures.1 in
    rw p.1 (λ a rest h. absurd (fail_closes _ a _ _ rest c.in_ok-message.ensures c.in_err-expect.ensures.0 h))

pub returns : goal.returns
returns c = rw (form_of-fail, c.in_ok-of.ensures, c.new-decoded.ensures, c.in_ok-decode.ensures.value) (is_fail _ _ _ _ c.in_ok-message.ensures c.in_ok-expect.ensures)
