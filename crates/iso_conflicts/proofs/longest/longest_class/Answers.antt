use Rattle.std.proofs.Common.{◌≡◌, ◌-◌, ◌<◌, ℕ, length, subst, sym, ap, ◌∙◌, arith}
use Rattle.std.specs.List.{fold}
use Rattle.iso_conflicts.proofs.LongestLemmas.{longer-known, longest-step}
use Rattle.iso_conflicts.specs.Chains.{IsOf, class_chain, class_chains, longer, no_chain}
use Rattle.iso_conflicts.specs.declared.longest.Chain.{Chain}
use Rattle.iso_conflicts.specs.declared.longest.Shared.TheVariants.{Class}
use Rattle.iso_plan.specs.RowView.{tree_of}
use Rattle.iso_conflicts.proofs.longest.longest_class.Goals as goal

pub nodes-init : goal.nodes-init
nodes-init c =
    let plan = c.args.plan.now in
    let all : length plan.rows - 0 ≡ length plan.rows = omega arith in
    record {
      so_far = ap (λ count. fold longer no_chain (class_chains (tree_of plan) plan.settings count 0)) all;
      known = c.nodes_are_a_tree.ensures.rooted;
    }

pub nodes-preserved : goal.nodes-preserved
nodes-preserved c =
    let plan = c.args.plan.now in
    let tree = tree_of plan in
    let n = c.nodes.node in
    let here : n < length plan.rows = omega arith in
    let g : ℕ → Chain = λ m. record { tests = class_chain tree plan.settings m; shared = Class m } in
    let new = c.or_longer-best.ensures ∙ ap (λ (x : ℕ). longer c.nodes.best (record { tests = x; shared = Class n })) c.class_chain.ensures in
    record {
      so_far = longest-step g (length plan.rows) n here c.nodes.best c.or_longer-best.result _ new c.nodes.invariant.so_far;
      known = subst (λ (b : Chain). IsOf tree b.shared) (sym new) (longer-known tree c.nodes.best (g n) c.nodes.invariant.known here);
    }
