use Rattle.std.proofs.Common.{drop}
use Rattle.iso_tap.specs.Pieces.{pieces_text}
use Rattle.iso_tap.proofs.PrinterLemmas.{LeftToPrint}
use Rattle.iso_tap.proofs.printer.Printer.pieces.Given as goal

abbrev pub invariant-loop-piece : goal.invariant-loop-piece
invariant-loop-piece g l = LeftToPrint l.fn.self l.self (pieces_text l.pieces) (pieces_text (drop l.piece-index l.pieces))
