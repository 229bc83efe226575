use Rattle.std.proofs.lemmas.Result.{err_from_is_err_and}
use Rattle.iso_script_statements.proofs.Statements.{is_assumption, reason_only, reason_closes}
use Rattle.iso_script_statements.proofs.Views.{form_of-assume}
use Rattle.iso_script_statements.proofs.parser.Parser.assumption.Goals as goal

pub returns-in_err-reason : goal.returns-in_err-reason
returns-in_err-reason c =
    let p = err_from_is_err_and c.from_residual-in_err-reason.result c.from_residual-in_err-reason.ensures.1 in
    rw (p.1, p.2) (λ a rest h. let k = reason_only _ a _ _ rest c.in_ok-condition.ensures h in c.in_err-reason.ensures k.0 _ k.2)

pub returns-in_err-expect : goal.returns-in_err-expect
returns-in_err-expect c =
    let p = err_from_is_err_and c.from_residual-in_err-expect.result c.from_residual-in_err-expect.ensures.1 in
    rw p.1 (λ a rest h. absurd (reason_closes _ _ a _ _ _ rest c.in_ok-condition.ensures c.in_ok-reason.ensures c.in_err-expect.ensures.0 h))

pub returns : goal.returns
returns c = rw (form_of-assume, c.in_ok-of.ensures) (is_assumption _ _ _ _ _ _ c.in_ok-condition.ensures c.in_ok-reason.ensures c.in_ok-expect.ensures)
