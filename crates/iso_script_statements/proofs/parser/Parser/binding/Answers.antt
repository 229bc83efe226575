use Rattle.std.proofs.lemmas.Result.{err_from_is_err_and}
use Rattle.iso_script_statements.specs.Statements.{IsBinding, binding_of}
use Rattle.iso_script_statements.proofs.Answers.{parses_built}
use Rattle.iso_script_statements.proofs.Statements.{is_binding, binding_name, binding_equals, binding_value}
use Rattle.iso_script_statements.proofs.parser.Parser.binding.Goals as goal

pub returns-in_err-name : goal.returns-in_err-name
returns-in_err-name c =
    let p = err_from_is_err_and c.from_residual.result c.from_residual.ensures.1 in
    rw p.1 (λ b rest h. absurd (binding_name b _ rest c.in_err-name.ensures.0 h))

pub returns-in_err-expect : goal.returns-in_err-expect
returns-in_err-expect c =
    let p = err_from_is_err_and c.from_residual-in_err-expect.result c.from_residual-in_err-expect.ensures.1 in
    rw p.1 (λ b rest h. absurd (binding_equals _ b _ _ rest c.in_ok-name.ensures c.in_err-expect.ensures.0 h))

pub returns-in_err-value : goal.returns-in_err-value
returns-in_err-value c =
    let p = err_from_is_err_and c.from_residual-in_err-value.result c.from_residual-in_err-value.ensures.1 in
    rw (p.1, p.2) (λ b rest h. let k = binding_value _ b _ _ _ rest c.in_ok-name.ensures c.in_ok-expect.ensures h in c.in_err-value.ensures k.0 rest k.1)

pub returns : goal.returns
returns c = parses_built binding_of IsBinding _ _ _ _ (is_binding _ _ _ _ _ _ c.in_ok-name.ensures c.in_ok-expect.ensures c.in_ok-value.ensures) c.named.ensures
