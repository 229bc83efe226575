use Rattle.std.proofs.Common.{Ok, codes}
use Rattle.iso_summary.specs.Names.{shown_name}
use Rattle.iso_tap.proofs.PrinterLemmas.{prints_cut, prints_stopped, prints_then}
use Rattle.iso_commands.proofs.replay.too_large_line.Goals as goal

pub returns-in_err-bytes : goal.returns-in_err-bytes
returns-in_err-bytes g c =
    prints_stopped (codes ": too large to replay\n") _ c.from_residual.ensures.0 (prints_cut (shown_name c.args.schedule.now) _ c.in_err-bytes.field-0.0 c.in_err-bytes.ensures)

pub returns-in_err-name : goal.returns-in_err-name
returns-in_err-name g c =
    prints_stopped (codes ": too large to replay\n") _ c.from_residual-in_err-name.ensures.0 (prints_then _ c.in_ok-bytes.ensures c.in_err-name.ensures)

pub returns : goal.returns
returns g c = prints_then _ (prints_then (Ok tt) c.in_ok-bytes.ensures c.in_ok-name.ensures) c.bytes-2.ensures
