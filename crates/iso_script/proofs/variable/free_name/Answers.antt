use Rattle.std.proofs.Common.{◌∙◌, ap, sym, Some}
use Rattle.iso_script_statements.specs.Pieces.{name_next}
use Rattle.iso_model.proofs.Claims.{not_true}
use Rattle.iso_script.proofs.variable.free_name.Goals as goal

pub returns-clause-found : goal.returns-clause-found
returns-clause-found c = ap name_next (rw c.in-Name.is at c.peek.ensures.next) ∙ ap (λ ps. Some (c.in-Name.name.now, ps)) (sym c.advance.ensures)

pub returns-clause-free : goal.returns-clause-free
returns-clause-free c = λ taken all. sym (c.if-is_taken.ensures ∙ all c.in-Name.name.now)

pub returns-clause-fresh : goal.returns-clause-fresh
returns-clause-fresh c = λ names knows. let told = c.in_ok-claim.ensures names knows in (not_true _ (sym c.if-not-branch.false ∙ told.0), told.1)
