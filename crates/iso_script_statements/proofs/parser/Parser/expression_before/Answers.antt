use Rattle.std.proofs.lemmas.Result.{err_from_is_err_and}
use Rattle.iso_script_statements.proofs.Expressions.{is_before, not_before}
use Rattle.iso_script_statements.proofs.WantedLemmas.{expression_ends}
use Rattle.iso_script_statements.proofs.parser.Parser.expression_before.Goals as goal

pub followed-requires : goal.followed-requires
followed-requires c = expression_ends c.in_ok-expression.ensures

pub returns-in_err-followed : goal.returns-in_err-followed
returns-in_err-followed c =
    let p = err_from_is_err_and c.from_residual-in_err-followed.result c.from_residual-in_err-followed.ensures.1 in
    rw p.1 (λ x rest h. absurd (not_before c.in_ok-expression.ensures c.in_err-followed.ensures h))

pub returns : goal.returns
returns c = is_before c.in_ok-expression.ensures c.in_ok-followed.ensures
