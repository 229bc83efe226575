use Rattle.std.proofs.Common.{◌≡◌, ℕ, suc, ◌+◌, ◌-◌, ◌<◌, List, [], ◌++◌, Option, length, ap, ap₂, subst, sym, ◌∙◌, arith}
use Rattle.std.proofs.lemmas.List.Elements.{All-same}
use Rattle.std.specs.List.{All, filter_map}
use Rattle.iso_plan.specs.declared.lock.Lock.{Lock}
use Rattle.iso_plan.specs.Planned.{Planned}
use Rattle.iso_plan.specs.RowView.{tree_of}
use Rattle.iso_plan.specs.Tree.{Row}
use Rattle.iso_settings.specs.declared.settings.Settings.{Settings}
use Rattle.iso_times.specs.declared.times.BodyTime.{BodyTime}
use Rattle.iso_waits.proofs.HolderLemmas.{waits-for}
use Rattle.iso_waits.proofs.SumLemmas.{sums-are, sums-next}
use Rattle.iso_waits.specs.AllWaits.{IsFor, key_waits, node_waits, wait_for, waits_of_first}
use Rattle.iso_waits.specs.Rivals.{Ran}
use Rattle.iso_waits.specs.Sums.{AreSums, sums_of}
use Rattle.iso_waits.specs.Waits.{waits}
use Rattle.iso_waits.specs.declared.wait.NodeWait.{NodeWait}
use Rattle.iso_waits.proofs.all.all_waits.Goals as goal

pub add_up-requires-clause-waits : goal.add_up-requires-clause-waits
add_up-requires-clause-waits c =
    let plan = c.args.plan.now in
    let n = c.nodes.node in
    let same = ap₂ (λ (p : Planned) (b : List (Option BodyTime)). waits (tree_of p) p.settings b n) c.nodes.invariant.plan c.nodes.invariant.bodies in
    let found = All-same (IsFor (tree_of plan) n) c.deref.result.now (waits (tree_of plan) plan.settings c.args.times.now n) (c.deref.ensures.value ∙ c.in_ok-found.ensures.waits ∙ same)
    (waits-for (tree_of plan) plan.settings c.args.times.now n) in
    let plan_told = ap (λ (r : Ran). r.plan) c.waits.ensures.same ∙ c.nodes.invariant.plan in
    subst (λ (p : Planned). All (IsFor (tree_of p) n) c.deref.result.now) (sym plan_told) found

pub add_up-requires-clause-sums : goal.add_up-requires-clause-sums
add_up-requires-clause-sums c =
    let plan_told = ap (λ (r : Ran). r.plan) c.waits.ensures.same ∙ c.nodes.invariant.plan in
    subst (λ (p : Planned). AreSums (tree_of p) c.nodes.node [] c.nodes.sums.items) (sym plan_told) c.nodes.invariant.sums

-- the waits of one node more
next : (tree : List Row) (settings : Settings) (bodies : List (Option BodyTime)) (n : ℕ) → 0 < n
    → waits_of_first tree settings bodies (n - 1) ++ node_waits tree settings bodies n ≡ waits_of_first tree settings bodies (n + 1 - 1)
next tree settings bodies n h =
    let up : n ≡ suc (n - 1) = omega arith in
    let more : suc (n - 1) ≡ n + 1 - 1 = omega arith in
    ap (λ (m : ℕ). waits_of_first tree settings bodies (n - 1) ++ node_waits tree settings bodies m) up ∙ ap (waits_of_first tree settings bodies) more

pub nodes-preserved : goal.nodes-preserved
nodes-preserved c =
    let plan = c.args.plan.now in
    let tree = tree_of plan in
    let n = c.nodes.node in
    let sums = c.deref-in-nodes.result.now in
    let ls = c.locks.result.now in
    let ws = c.deref.result.now in
    let same = ap₂ (λ (p : Planned) (b : List (Option BodyTime)). waits (tree_of p) p.settings b n) c.nodes.invariant.plan c.nodes.invariant.bodies in
    let found : ws ≡ waits tree plan.settings c.args.times.now n = c.deref.ensures.value ∙ c.in_ok-found.ensures.waits ∙ same in
    let plan_told = ap (λ (r : Ran). r.plan) c.waits.ensures.same ∙ c.nodes.invariant.plan in
    let added = subst (λ (p : Planned). AreSums (tree_of p) n ws c.add_up.new.sums.items) plan_told c.add_up.ensures in
    let are : AreSums tree n ws sums = subst (AreSums tree n ws) (sym c.deref-in-nodes.ensures.value) added in
    let told : sums_of n sums ls ≡ key_waits tree n ws =
    sums-are tree n ws sums ls are c.locks.ensures.known ∙ ap (filter_map (λ (l : Lock). wait_for tree n ws l.key)) c.locks.ensures.locks in
    let above : 0 < n = omega arith in
    record {
      plan = ap (λ (r : Ran). r.plan) c.waits.ensures.same ∙ c.nodes.invariant.plan;
      bodies = ap (λ (r : Ran). r.bodies) c.waits.ensures.same ∙ c.nodes.invariant.bodies;
      sums = sums-next tree n ws c.add_up.new.sums.items added;
      found =
          c.in_ok-append.ensures
          ∙ ap₂ (λ (all more : List NodeWait). all ++ more) c.nodes.invariant.found (told ∙ ap (key_waits tree n) found)
          ∙ next tree plan.settings c.args.times.now n above;
    }

pub returns : goal.returns
returns c =
    let plan = c.args.plan.now in
    let tree = tree_of plan in
    let some = c.nodes_are_a_tree.ensures.rooted in
    let end : c.nodes.node - 1 ≡ length tree - 1 = omega (arith, some, c.len-node-end.ensures) in
    c.nodes.invariant.found ∙ ap (waits_of_first tree plan.settings c.args.times.now) end
