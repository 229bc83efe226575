use Rattle.std.proofs.Common.{◌≡◌, List, ap, ◌∙◌}
use Rattle.std.proofs.lemmas.Result.{IfOk-weaker}
use Rattle.iso_plan.specs.RowView.{tree_of}
use Rattle.iso_waits.proofs.WaitLemmas.{rivals-order, waits-by}
use Rattle.iso_waits.specs.Rivals.{Ran, rivals}
use Rattle.iso_waits.specs.Waits.{waits}
use Rattle.iso_waits.specs.declared.stay.Stay.{Stay}
use Rattle.iso_waits.proofs.waits.Waits.waits.Goals as goal

pub waits_within-requires : goal.waits_within-requires
waits_within-requires c =
    let tree = tree_of c.self.inside.plan.now in
    let stays = c.self.inside.stays.items in
    let found = c.deref-2.result.now in
    let is : found ≡ rivals tree stays c.args.node =
    c.deref-2.ensures.value ∙ c.in_ok-find.ensures.found ∙ ap (λ (s : List Stay). rivals tree s c.args.node) c.deref.ensures.value in
    rivals-order tree stays found c.args.node c.self.invariant.0.order is

pub returns-clause-waits : goal.returns-clause-waits
returns-clause-waits c =
    let plan = c.self.inside.plan.now in
    let tree = tree_of plan in
    let bodies = c.self.inside.times.now in
    let stays = c.self.inside.stays.items in
    let found = c.deref-2.result.now in
    let is : found ≡ rivals tree stays c.args.node =
    c.deref-2.ensures.value ∙ c.in_ok-find.ensures.found ∙ ap (λ (s : List Stay). rivals tree s c.args.node) c.deref.ensures.value in
    let told = waits-by tree plan.settings bodies stays found c.args.node c.in-Some.from c.in-Some-stayed.stay c.self.invariant.0 is c.in-Some.ensures c.in-Some-stayed.ensures in
    let seen = ap (λ (r : Ran). waits (tree_of r.plan) r.plan.settings r.bodies c.args.node) c.self.view_is in
    IfOk-weaker c.waits_within.result _ _ (λ v e. e ∙ told ∙ seen) c.waits_within.ensures
