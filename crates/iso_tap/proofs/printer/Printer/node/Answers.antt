use Rattle.std.proofs.Common.{codes}
use Rattle.iso_tap.proofs.PrinterLemmas.{prints_stopped, prints_then}
use Rattle.iso_tap.proofs.printer.Printer.node.Goals as goal

pub returns-in_err-node_fields : goal.returns-in_err-node_fields
returns-in_err-node_fields g c = prints_stopped (codes "\n") _ c.from_residual.ensures.0 c.in_err-node_fields.ensures

pub returns : goal.returns
returns g c = prints_then _ c.in_ok-node_fields.ensures c.bytes.ensures
