use Rattle.std.proofs.Common.{Bool, [], cond, sym, ap, ◌∙◌}
use Rattle.iso_plan.specs.RowView.{tree_of}
use Rattle.iso_failures.specs.Failures.{path_line}
use Rattle.iso_tap.proofs.PrinterLemmas.{prints_as, prints_then}
use Rattle.iso_failures.proofs.text.line.Goals as goal

pub returns : goal.returns
returns g c =
    let line = path_line (tree_of c.args.plan.now) c.args.node in
    prints_as (prints_then c.bytes.result c.in_ok-path.ensures c.bytes.ensures) _
    (sym (ap (λ (b : Bool). cond b line []) (sym c.is_failure.ensures ∙ c.if-not-is_failure.false)))
