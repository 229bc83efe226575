use Rattle.std.proofs.Common.{◌∙◌, sym}
use Rattle.std.proofs.lemmas.Result.{on_ok_weaker}
use Rattle.iso_model.specs.Statements.{value}
use Rattle.iso_model.specs.SyntaxView.{term_of}
use Rattle.iso_interp.specs.Runs.{run_rights, state_of}
use Rattle.iso_interp.proofs.Assertions.{expects-difference}
use Rattle.iso_interp.proofs.run.BlockRun.assert_equal.Goals as goal

pub returns-clause-done : goal.returns-clause-done
returns-clause-done g c =
    let r = run_rights c.args.self.now in
    let s = state_of c.args.self.now (g.T.Touch.content c.args.touch.now) in
    on_ok_weaker c.expect.result (λ done. done ∙ sym (expects-difference c.args.row (value r s (term_of c.args.expected.now)) (value r s (term_of c.args.actual.now)) s)) c.expect.ensures.done
