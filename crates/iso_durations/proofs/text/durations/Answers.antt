use Rattle.std.proofs.Common.{◌∙◌, List, ap, subst, sym}
use Rattle.std.specs.List.{All}
use Rattle.iso_durations.specs.Durations.{text_of}
use Rattle.iso_durations.specs.Entries.{IsListed}
use Rattle.iso_durations.specs.declared.durations.Timed.{Timed}
use Rattle.iso_durations.proofs.EntryLemmas.{nodes-listed, text-is}
use Rattle.iso_plan.specs.RowView.{tree_of}
use Rattle.iso_tap.proofs.PrinterLemmas.{prints_as}
use Rattle.iso_durations.proofs.text.durations.Goals as goal

pub text-requires : goal.text-requires
text-requires g c =
    let plan = c.args.plan.now in
    subst (All (IsListed plan)) (sym c.first_of.ensures) (nodes-listed plan c.args.times.now c.args.most c.args.slowest.now c.requires)

pub returns : goal.returns
returns g c =
    let plan = c.args.plan.now in
    let listed = ap (λ (l : List Timed). text_of (tree_of plan) l c.count.result) c.first_of.ensures in
    prints_as c.text.ensures _ (listed ∙ text-is plan c.args.times.now c.args.most c.args.slowest.now c.count.result c.requires c.count.ensures)
