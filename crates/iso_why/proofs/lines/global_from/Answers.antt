use Rattle.std.proofs.Common.{sym}
use Rattle.iso_plan.specs.RowView.{tree_of}
use Rattle.iso_tap.proofs.PrinterLemmas.{prints_as, prints_then}
use Rattle.iso_why.proofs.GiverLemmas.{from-write}
use Rattle.iso_why.proofs.lines.global_from.Goals as goal

pub returns-in_ok-bytes-in-Write : goal.returns-in_ok-bytes-in-Write
returns-in_ok-bytes-in-Write g c =
    prints_as (prints_then c.givers.result c.in_ok-bytes-in-Write.ensures c.givers.ensures) _
    (from-write (tree_of c.args.plan.now) c.args.node c.args.lock c.requires.global c.in-Write.is)
