use Rattle.std.proofs.Common.{[]}
use Rattle.iso_plan.specs.RowView.{tree_of}
use Rattle.iso_tap.proofs.Sequences.{Wrote-none}
use Rattle.iso_explain_plan.specs.UnfinishedTexts.{of_none, of_one, unfinished_notes}
use Rattle.iso_explain_plan.proofs.unfinished.explain_unfinished.Goals as goal

pub returns-in-Err-Fault : goal.returns-in-Err-Fault
returns-in-Err-Fault g c = record { text = []; is = of_none; wrote = Wrote-none (g.W.Sink.account c.args.sink.now) }

pub returns : goal.returns
returns g c =
    record {
      text = unfinished_notes (tree_of c.args.plan.now) c.first_left.result;
      is = of_one c.first_left.result;
      wrote = c.in_ok-tell.ensures;
    }
