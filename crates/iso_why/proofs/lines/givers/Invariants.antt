use Rattle.std.proofs.Common.{◌<◌, ◌-◌}
use Rattle.iso_plan.specs.RowView.{tree_of}
use Rattle.iso_tap.proofs.PrinterLemmas.{LeftToPrint}
use Rattle.iso_why.proofs.GiverLemmas.{is_giver, separated}
use Rattle.iso_why.specs.Givers.{givers}
use Rattle.iso_why.specs.Next.{passing}
use Rattle.iso_why.specs.WhyText.{paths_text}
use Rattle.iso_why.proofs.lines.givers.Given as goal

abbrev pub invariant-givers : goal.invariant-givers
invariant-givers g l =
    record {
      above : 0 < l.from;
      left : LeftToPrint l.fn.printer l.printer (paths_text (tree_of l.plan) (givers (tree_of l.plan) l.node l.lock))
          (separated (tree_of l.plan) l.separator (passing (is_giver (tree_of l.plan) l.node l.lock) l.from l.end));
    }

abbrev pub decreases-givers : goal.decreases-givers
decreases-givers g l = l.end - l.from
