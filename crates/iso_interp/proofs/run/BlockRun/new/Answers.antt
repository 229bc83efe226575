use Rattle.std.proofs.Common.{◌∙◌, ◌∷◌, [], ap, ℕ}
use Rattle.iso_model.specs.Environments.{Environment}
use Rattle.iso_model.specs.Statements.{Local}
use Rattle.iso_model.specs.Steps.{leave_done, point, rest}
use Rattle.iso_model.specs.SyntaxView.{block_of}
use Rattle.iso_model.specs.declared.limits.TheConstants.{BLOCK_STEPS}
use Rattle.iso_model.specs.declared.outcome.Ending.TheVariants.{Well}
use Rattle.iso_interp.specs.Runs.{pieces_in}
use Rattle.iso_interp.proofs.Stack.{begun-block}
use Rattle.iso_interp.proofs.run.BlockRun.new.Goals as goal

pub returns-clause-point : goal.returns-clause-point
returns-clause-point c =
    let block = block_of c.args.block.now in
    let env : Environment = record c.args.names { steps = BLOCK_STEPS } in
    let local : Local = record { env = env; lines = []; ending = Well } in
    let all = c.len-before.ensures in
    (λ i. point (pieces_in (c.first_piece.ensures i) (c.new-2.ensures.items i)) (record { env = c.restarted.ensures i; lines = c.new.ensures i; ending = Well }))
    ∙ begun-block c.len-before.result block local all
    ∙ ap (λ (n : ℕ). leave_done (rest n block ∷ []) local) all
