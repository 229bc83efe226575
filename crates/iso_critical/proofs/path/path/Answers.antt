use Rattle.std.proofs.Common.{◌≡◌, ◌≤◌, ℕ, List, ◌++◌, Option, All, length, ap, ◌∙◌, subst, sym, arith}
use Rattle.std.proofs.lemmas.List.Elements.{All-get_or}
use Rattle.iso_critical.specs.Bodies.{IsWithin, latest_first, ran}
use Rattle.iso_critical.specs.Paths.{run_with}
use Rattle.iso_critical.specs.declared.body.Body.{Body}
use Rattle.iso_critical.proofs.OrderLemmas.{latest-falls, latest-length, latest-within}
use Rattle.iso_critical.proofs.WalkLemmas.{walked, walked-all}
use Rattle.iso_plan.specs.RowView.{tree_of}
use Rattle.iso_times.specs.declared.times.BodyTime.{BodyTime}
use Rattle.iso_critical.proofs.path.path.Goals as goal

within : (bs : List Body) (bodies : List (Option BodyTime)) (nodes : ℕ) → bs ≡ latest_first bodies nodes → All (IsWithin nodes) bs
within bs bodies nodes is = subst (All (IsWithin nodes)) (sym is) (latest-within bodies nodes)

pub loop-body-init : goal.loop-body-init
loop-body-init c =
    let bodies = c.args.waits.now.bodies in
    let nodes = length (tree_of c.args.plan.now) in
    let run = run_with c.args.plan.now bodies c.args.holders.now in
    let few : length (latest_first bodies nodes) ≤ length (ran bodies nodes) = omega (arith, latest-length bodies nodes) in
    ap (λ (ps : List Body). ps ++ walked run _ c.args.bodies.now) c.new-path.ensures.items
    ∙ ap (walked run _) c.requires.bodies
    ∙ walked-all run (length (ran bodies nodes)) (latest-falls bodies nodes) few

pub comes_before-requires : goal.comes_before-requires
comes_before-requires c =
    let nodes = length (tree_of c.args.plan.now) in
    (All-get_or (IsWithin nodes) c.args.bodies.now c.loop-body.body-index _ c.loop-body-test.true (within c.args.bodies.now c.args.waits.now.bodies nodes c.requires.bodies)).node

pub needs_of-requires-clause-above : goal.needs_of-requires-clause-above
needs_of-requires-clause-above c =
    let nodes = length (tree_of c.args.plan.now) in
    (All-get_or (IsWithin nodes) c.args.bodies.now c.loop-body.body-index _ c.loop-body-test.true (within c.args.bodies.now c.args.waits.now.bodies nodes c.requires.bodies)).above

pub needs_of-requires-clause-within : goal.needs_of-requires-clause-within
needs_of-requires-clause-within c =
    let nodes = length (tree_of c.args.plan.now) in
    (All-get_or (IsWithin nodes) c.args.bodies.now c.loop-body.body-index _ c.loop-body-test.true (within c.args.bodies.now c.args.waits.now.bodies nodes c.requires.bodies)).node
