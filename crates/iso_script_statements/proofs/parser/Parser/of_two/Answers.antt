use Rattle.std.proofs.lemmas.Result.{err_from_is_err_and}
use Rattle.iso_script_statements.specs.Statements.{of_two}
use Rattle.iso_script_statements.proofs.Statements.{second_only}
use Rattle.iso_script_statements.proofs.Views.{form_of-two}
use Rattle.iso_script_statements.proofs.parser.Parser.of_two.Goals as goal

pub returns : goal.returns
returns c = rw form_of-two (of_two c.in_ok-first.ensures c.in_ok-second.ensures)

pub returns-in_err-second : goal.returns-in_err-second
returns-in_err-second c =
    let p = err_from_is_err_and c.from_residual-in_err-second.result c.from_residual-in_err-second.ensures.1 in
    rw (p.1, p.2) (λ a rest h. let k = second_only _ _ a _ _ rest c.in_ok-first.ensures h in c.in_err-second.ensures k.0 rest k.1)
