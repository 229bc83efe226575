use Rattle.iso_html.specs.Parts.{link_text}
use Rattle.iso_plan.specs.RowView.{tree_of}
use Rattle.iso_tap.proofs.PrinterLemmas.{prints_stopped, prints_then}
use Rattle.iso_html.proofs.writing.next.Goals as goal

pub returns-in_err-bytes-in-Some : goal.returns-in_err-bytes-in-Some
returns-in_err-bytes-in-Some g c =
    rw c.in-Some.is (prints_stopped (link_text (tree_of c.args.plan.now) c.in-Some.number) _ c.from_residual.ensures.0 c.in_err-bytes-in-Some.ensures)

pub returns-in_ok-bytes-in-Some : goal.returns-in_ok-bytes-in-Some
returns-in_ok-bytes-in-Some g c = rw c.in-Some.is (prints_then _ c.in_ok-bytes-in-Some.ensures c.anchor.ensures)
