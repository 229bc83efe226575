use Rattle.std.proofs.Common.{List, sym, ap, ◌∙◌}
use Rattle.iso_model.specs.declared.outcome.Ending.{Ending}
use Rattle.iso_lifecycle.specs.ResultViews.{verdict_of_view}
use Rattle.iso_lifecycle.proofs.Combined.{before, before-last, before-none}
use Rattle.iso_lifecycle.proofs.verdict.verdict.Goals as goal

pub endings-init : goal.endings-init
endings-init c = before-none c.args.endings.now

pub endings-preserved : goal.endings-preserved
endings-preserved c =
    let rest = c.in-Some.before.now in
    let v = verdict_of_view c.endings.verdict in
    ap (before rest) c.with_first-verdict.ensures ∙ sym (before-last rest c.in-Some.last.now v)
    ∙ ap (λ (es : List Ending). before es v) (sym c.in-Some.ensures.cases.0) ∙ c.endings.invariant
