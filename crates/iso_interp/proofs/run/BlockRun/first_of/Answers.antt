use Rattle.std.proofs.Common.{◌≡◌, ◌∙◌, ◌∷◌, sym, ap, List, Option, None}
use Rattle.std.proofs.lemmas.Result.{on_ok_weaker}
use Rattle.iso_model.specs.Steps.{Piece, rest, step_at}
use Rattle.iso_model.specs.Syntax.{act}
use Rattle.iso_model.specs.SyntaxView.{stmt_of}
use Rattle.iso_interp.specs.Runs.{pieces_in, pieces_of, run_rights, state_of}
use Rattle.iso_interp.specs.declared.run.Pending.{Pending}
use Rattle.iso_interp.proofs.Stack.{first-act}
use Rattle.iso_interp.proofs.run.BlockRun.first_of.Goals as goal

pub returns-clause-done : goal.returns-clause-done
returns-clause-done g c =
    let self = c.args.self.now in
    let m = g.T.Touch.content c.args.touch.now in
    let s = stmt_of c.args.first.now in
    let below = pieces_in None self.below.items in
    let top : pieces_of self ≡ rest c.args.names (act s.0 s.1 c.args.rest) ∷ below = ap (λ (t : Option Pending). pieces_in t self.below.items) c.requires.top in
    let first = first-act (run_rights self) c.args.names s.0 s.1 c.args.rest below self.names c.take_step.new.self self.lines self.ending m c.if-not-take_step.ensures.taken in
    on_ok_weaker c.statement.result (λ done. done ∙ sym (ap (λ (ps : List Piece). step_at (run_rights self) ps self.names.steps (state_of self m)) top ∙ first)) c.statement.ensures.done
