use Rattle.std.proofs.Common.{◌≡◌, ◌+◌, length}
use Rattle.iso_model.specs.Rights.{access_in}
use Rattle.iso_model.specs.SyntaxView.{block_of}
use Rattle.iso_model.specs.Steps.{some_left}
use Rattle.iso_model.specs.Touch.{HasKeys}
use Rattle.iso_interp.specs.Runs.{names_before, pieces_of, point_of_run, run_rights}
use Rattle.iso_interp.proofs.Completion.{Goes, whole}
use Rattle.iso_interp.proofs.run_block.run_block.Given as goal

abbrev pub invariant-loop-run : goal.invariant-loop-run
invariant-loop-run g l =
    let content = g.T.Touch.content in
    record {
      goes : Goes (access_in l.rights) (whole (access_in l.rights) (block_of l.statements) l.fn.names (content l.fn.touch)) (point_of_run l.run) (content l.touch);
      rights : run_rights l.run ≡ access_in l.rights;
      names : names_before l.run ≡ length l.fn.names.names;
      keys : HasKeys (access_in l.rights) (content l.touch) (g.T.Touch.writes l.touch);
      goes_on : g.T.Touch.goes_on l.fn.touch l.touch;
    }

abbrev pub decreases-loop-run : goal.decreases-loop-run
decreases-loop-run g l = l.run.names.steps + some_left (pieces_of l.run)
