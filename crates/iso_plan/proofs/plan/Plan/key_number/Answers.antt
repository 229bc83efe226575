use Rattle.std.proofs.Common.{ap, length, ◌∙◌}
use Rattle.iso_model.specs.ResourceKeys.{spelling}
use Rattle.iso_plan.specs.KeyNumbers.{number_below}
use Rattle.iso_plan.specs.KeyTable.{keys}
use Rattle.iso_plan.specs.Planned.{Planned}
use Rattle.iso_plan.specs.RowView.{tree_of}
use Rattle.iso_plan.proofs.plan.Plan.key_number.Goals as goal

pub returns : goal.returns
returns c =
    c.get.ensures ∙ c.self.invariant.numbers_are (spelling c.args.resource)
    ∙ ap (λ (p : Planned). number_below (keys (tree_of p)) (spelling c.args.resource) (length (keys (tree_of p)))) c.self.view_is
