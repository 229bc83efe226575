use Rattle.std.proofs.Common.{◌++◌, List, ℕ, codes, sym, ap, ◌∙◌}
use Rattle.iso_plan.specs.PathTexts.{path_text}
use Rattle.iso_plan.specs.RowView.{tree_of}
use Rattle.iso_tap.proofs.PrinterLemmas.{prints_as, prints_stopped, prints_then}
use Rattle.iso_why.specs.WhyText.{why_text}
use Rattle.iso_why.proofs.GiverLemmas.{forced-head}
use Rattle.iso_why.proofs.lines.reason.Goals as goal

pub returns-in-Off : goal.returns-in-Off
returns-in-Off g c = prints_as c.bytes.ensures _ (ap (why_text (tree_of c.args.plan.now) c.args.node) (sym c.in-Off.is))

pub returns-in_err-pieces-in-Forced : goal.returns-in_err-pieces-in-Forced
returns-in_err-pieces-in-Forced g c =
    let tree = tree_of c.args.plan.now in
    let head = prints_as c.in_err-pieces-in-Forced.ensures _ (forced-head (c.as_bytes.ensures.value ∙ c.key.ensures)) in
    prints_as (prints_stopped (path_text tree c.in-Forced.class) _ c.from_residual.ensures.0 head) _ (ap (why_text tree c.args.node) (sym c.in-Forced.is))

pub returns-in_ok-pieces-in-Forced : goal.returns-in_ok-pieces-in-Forced
returns-in_ok-pieces-in-Forced g c =
    let tree = tree_of c.args.plan.now in
    let head = prints_as c.in_ok-pieces-in-Forced.ensures _ (forced-head (c.as_bytes.ensures.value ∙ c.key.ensures)) in
    prints_as (prints_then _ head c.path.ensures) _ (ap (why_text tree c.args.node) (sym c.in-Forced.is))
