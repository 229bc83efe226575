use Rattle.std.proofs.Common.{List, ap, ◌∙◌}
use Rattle.iso_html.specs.KeyUses.{usage_at}
use Rattle.iso_html.specs.Sections.{key_line}
use Rattle.iso_html.specs.declared.usage.Usage.{Usage}
use Rattle.iso_plan.specs.RowView.{tree_of}
use Rattle.iso_tap.proofs.PrinterLemmas.{prints_as}
use Rattle.iso_html.proofs.section.one_key.Goals as goal

pub returns : goal.returns
returns g c =
    let key = c.args.key in
    let usage = c.usage_at-usage.ensures ∙ ap (λ (us : List Usage). usage_at us key) c.usages.ensures in
    prints_as c.key_line.ensures _ (ap (key_line (tree_of c.args.run.now.plan.now) key) usage)
