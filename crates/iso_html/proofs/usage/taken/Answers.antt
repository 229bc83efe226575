use Rattle.std.proofs.Common.{◌≡◌, ◌<◌, length, ap, ◌∙◌, arith}
use Rattle.std.proofs.lemmas.List.{get_or_default}
use Rattle.iso_html.specs.KeyUses.{no_usage, usage_below}
use Rattle.iso_plan.proofs.ColumnLemmas.{column-from}
use Rattle.iso_plan.specs.KeyTable.{keys}
use Rattle.iso_plan.specs.RowView.{tree_of}
use Rattle.iso_html.proofs.usage.taken.Goals as goal

pub returns : goal.returns
returns c =
    let tree = tree_of c.args.plan.now in
    let us = c.nodes.usages.items in
    let last : c.nodes.node ≡ length c.args.plan.now.rows = omega arith in
    column-from (λ key. usage_below tree c.args.times.now key (length c.args.plan.now.rows)) us (length (keys tree)) c.nodes.invariant.each
    (λ m d h.
    let within : m < length us = let each = c.nodes.invariant.each in omega arith in
    get_or_default us m d no_usage within ∙ c.nodes.invariant.below m h ∙ ap (usage_below tree c.args.times.now m) last)
