use Rattle.std.proofs.Common.{◌∙◌, sym}
use Rattle.iso_model.proofs.Claims.{not_true}
use Rattle.iso_script_statements.proofs.parser.Parser.new_name.Goals as goal

pub returns-clause-fresh : goal.returns-clause-fresh
returns-clause-fresh c = λ names knows.
    let told = c.in_ok-claim.ensures names knows in
    (not_true _ (sym c.if-not-branch.false ∙ told.0), told.1 c.if-not-branch.false)
