use Rattle.std.proofs.Common.{◌∙◌, ap}
use Rattle.std.proofs.lemmas.Result.{err_from_is_err_and}
use Rattle.iso_script.proofs.Variables.{declared_parts, is_declared, literal_next, no_equals, no_semicolon}
use Rattle.iso_script_statements.specs.Pieces.{name_next}
use Rattle.iso_script.proofs.variable.read_variable.Goals as goal

pub returns-in_err-name-clause-only : goal.returns-in_err-name-clause-only
returns-in_err-name-clause-only c = λ taken names all knows.
    let p = err_from_is_err_and c.from_residual.result c.from_residual.ensures.1 in
    rw (p.1, p.2) (λ v rest h new.
    let d = declared_parts c.args.word c.requires h in
    c.in_err-name.ensures.only taken names all knows v.name _ (ap name_next c.advance.ensures ∙ d.3) new)

pub returns-in_err-expect-clause-only : goal.returns-in_err-expect-clause-only
returns-in_err-expect-clause-only c = λ taken names all knows.
    let p = err_from_is_err_and c.from_residual-in_err-expect.result c.from_residual-in_err-expect.ensures.1 in
    rw (p.1, p.2) (λ v rest h new. absurd (no_equals _ _ _ _ _ _ rest c.advance.ensures c.in_ok-name.ensures.found c.requires c.in_err-expect.ensures.0 h))

pub returns-in_err-value-clause-only : goal.returns-in_err-value-clause-only
returns-in_err-value-clause-only c = λ taken names all knows.
    let p = err_from_is_err_and c.from_residual-in_err-value.result c.from_residual-in_err-value.ensures.1 in
    rw (p.1, p.2) (λ v rest h new.
    let l = literal_next _ _ _ _ _ _ _ rest c.advance.ensures c.in_ok-name.ensures.found c.requires c.in_ok-expect.ensures h in
    c.in_err-value.ensures v.value _ l.1)

pub returns-in_err-expect-2-clause-only : goal.returns-in_err-expect-2-clause-only
returns-in_err-expect-2-clause-only c = λ taken names all knows.
    let p = err_from_is_err_and c.from_residual-in_err-expect-2.result c.from_residual-in_err-expect-2.ensures.1 in
    rw (p.1, p.2) (λ v rest h new. absurd (no_semicolon _ _ _ _ _ _ _ _ _ rest c.advance.ensures c.in_ok-name.ensures.found c.requires c.in_ok-expect.ensures c.in_ok-value.ensures
    c.in_err-expect-2.ensures.0 h))

pub returns-clause-found : goal.returns-clause-found
returns-clause-found c = is_declared _ _ _ _ _ _ _ _ _ _ c.in_ok-copied.ensures c.requires c.advance.ensures c.in_ok-name.ensures.found c.in_ok-expect.ensures c.in_ok-value.ensures
    c.in_ok-expect-2.ensures

pub returns-clause-free : goal.returns-clause-free
returns-clause-free c = λ taken all. rw c.in_ok-copied.ensures (c.in_ok-name.ensures.free taken all)

pub returns-clause-fresh : goal.returns-clause-fresh
returns-clause-fresh c = λ names knows. rw c.in_ok-copied.ensures (c.in_ok-name.ensures.fresh names knows)
