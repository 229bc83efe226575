use Rattle.std.proofs.Common.{◌≡◌, ℕ, suc, ◌+◌, ◌-◌, Bool, ap, sym, ◌∙◌, arith}
use Rattle.iso_plan.specs.Paths.{parent}
use Rattle.iso_plan.specs.RowView.{tree_of}
use Rattle.iso_waits.proofs.SiblingLemmas.{highest-found, highest-none, highest-passed, no-sibling, parent-some}
use Rattle.iso_waits.specs.Waits.{highest, is_sibling}
use Rattle.iso_waits.proofs.ready.last_sibling.Goals as goal

pub returns-then-is_sibling : goal.returns-then-is_sibling
returns-then-is_sibling c =
    let test : ℕ → Bool = is_sibling (tree_of c.args.plan.now) c.args.plan.now.settings c.args.times.now c.args.node in
    let before = c.siblings.at - 1 in
    let up : suc before ≡ c.siblings.at = omega arith in
    sym (highest-found test before (sym c.is_sibling.ensures ∙ c.if-is_sibling.true)) ∙ ap (highest test) up ∙ c.siblings.invariant.passed

pub siblings-preserved : goal.siblings-preserved
siblings-preserved c =
    let test : ℕ → Bool = is_sibling (tree_of c.args.plan.now) c.args.plan.now.settings c.args.times.now c.args.node in
    let before = c.siblings.at - 1 in
    let up : suc before ≡ c.siblings.at = omega arith in
    record {
      after = omega arith;
      within = omega (arith, c.siblings.invariant.within);
      passed = sym (highest-passed test before (sym c.is_sibling.ensures ∙ c.if-is_sibling.false)) ∙ ap (highest test) up ∙ c.siblings.invariant.passed;
    }

pub returns : goal.returns
returns c =
    let tree = tree_of c.args.plan.now in
    let test : ℕ → Bool = is_sibling tree c.args.plan.now.settings c.args.times.now c.args.node in
    let class = c.in_ok-first.field-0 in
    let is : parent tree c.args.node ≡ class = parent-some tree c.args.node class c.requires.above (sym c.parent.ensures ∙ c.in_ok-first.was) in
    let end : class + 1 ≡ c.siblings.at = omega (arith, c.siblings.invariant.after) in
    sym (highest-none test (class + 1) (λ m h. no-sibling tree c.args.plan.now.settings c.args.times.now c.args.node m c.parents_come_first.ensures (omega (arith, is))))
    ∙ ap (highest test) end
    ∙ c.siblings.invariant.passed
