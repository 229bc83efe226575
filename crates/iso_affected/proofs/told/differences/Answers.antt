use Rattle.std.proofs.Common.{◌++◌, ◌∷◌, ◌<◌, [], List, Option, None, get_or, length, ap, ◌∙◌, subst, arith}
use Rattle.std.proofs.lemmas.List.{get_or_default}
use Rattle.iso_affected.proofs.ReasonLemmas.{root-told, told-more}
use Rattle.iso_affected.specs.Fates.{suites}
use Rattle.iso_affected.specs.Starting.{StartsView}
use Rattle.iso_affected.specs.Told.{IsDifferenceOf}
use Rattle.iso_affected.specs.declared.affected.Fate.{Fate}
use Rattle.iso_affected.specs.declared.affected.Fate.TheVariants.{New, Same}
use Rattle.iso_affected.specs.declared.difference.Difference.{Difference}
use Rattle.iso_affected.proofs.told.differences.Goals as goal

pub nodes-init : goal.nodes-init
nodes-init c = (
  root-told (suites c.args.old.now c.args.before.now c.args.new.now c.args.after.now) c.args.fates.now c.push.new.self.items
      (c.in_ok-push.ensures.items ∙ ap (λ (os : List (Option Difference)). os ++ None ∷ []) c.in_ok-told.ensures.items),
  c.new-starts.ensures,
)

pub nodes-preserved : goal.nodes-preserved
nodes-preserved c =
    let s = suites c.args.old.now c.args.before.now c.args.new.now c.args.after.now in
    let fates = c.args.fates.now in
    let n = c.nodes.node in
    let inside : n < length fates = omega (arith, c.requires.count, c.len-node-end.ensures) in
    let own =
    subst (λ (v : StartsView). IsDifferenceOf (suites c.args.old.now v.before c.args.new.now v.after) n (get_or fates n (Same 0)) c.in_ok-difference.difference) c.nodes.invariant.1
    c.in_ok-difference.ensures.told in
    let told = subst (λ (f : Fate). IsDifferenceOf s n f c.in_ok-difference.difference) (get_or_default fates n (Same 0) New inside) own in (
      told-more s fates c.nodes.told.items c.push-in-nodes.new.self.items c.in_ok-difference.difference n c.in_ok-push-2.ensures.items c.nodes.invariant.0 told,
      c.in_ok-difference.ensures.same ∙ c.nodes.invariant.1,
    )
