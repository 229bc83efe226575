use Rattle.std.proofs.Common.{set, ap, ◌∙◌}
use Rattle.iso_html.proofs.GroupLemmas.{added-at, added-past}
use Rattle.iso_html.specs.declared.shape.Group.{Group}
use Rattle.iso_html.proofs.group.add.Goals as goal

pub returns-then-place-groups : goal.returns-then-place-groups
returns-then-place-groups c =
    ap (λ (g : Group). set c.args.groups.now c.args.place g) c.with.ensures ∙ added-at c.args.groups.now c.args.place c.args.bar _ c.if-place-groups.true

pub returns-else-place-groups : goal.returns-else-place-groups
returns-else-place-groups c = added-past c.args.groups.now c.args.place c.args.bar c.if-place-groups.false
