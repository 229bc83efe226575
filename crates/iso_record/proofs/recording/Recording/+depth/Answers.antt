use Rattle.std.proofs.Common.{◌≡◌, ℕ, ◌<◌, ◌≤◌, ◌+◌, List, length, get_or, true, false, ap, sym, subst, ◌∙◌, arith}
use Rattle.iso_core.specs.Cores.{CoreView}
use Rattle.iso_isolation.specs.States.{is_finished}
use Rattle.iso_plan.proofs.ChildLemmas.{child-is}
use Rattle.iso_plan.specs.Paths.{IsTree, children, is_test, row_at}
use Rattle.iso_plan.specs.Planned.{Planned}
use Rattle.iso_plan.specs.RowView.{tree_of}
use Rattle.iso_record.proofs.RecordLemmas.{if_ok, same_on, same_suite}
use Rattle.iso_record.proofs.SerialCores.{child_left_out, child_run, has_run_class, may_be_closed, may_run_child}
use Rattle.iso_record.proofs.SerialNodes.{all_run, none_run, ran_test}
use Rattle.iso_record.specs.Recordings.{HasTaken, OfSameSuite, history_in}
use Rattle.iso_record.specs.SerialRuns.{HasRun, HasRunSome, MayRun, after_history}
use Rattle.iso_record.proofs.recording.Recording.+depth.Goals as goal
use Rattle.iso_record.proofs.recording.Recording.+depth.Goals.{children-then-not-is_finished+in_ok-node, children-else-not-is_finished}

pub children-children-init : goal.children-children-init
children-children-init t c =
    let s = c.args.self.now in
    let tree : IsTree (tree_of s.plan) = subst (λ (p : Planned). IsTree (tree_of p)) c.requires.of c.nodes_are_a_tree.ensures in
    record {
      same = same_suite s;
      taken = c.requires.taken;
      some = none_run s.plan s.world s.workers tree c.args.class (history_in s) c.requires.may;
    }

pub children-node-requires : goal.children-node-requires
children-node-requires t c =
    let s = c.args.self.now in
    let d = c.children.self in
    let i = c.children.child-index in
    let tree : IsTree (tree_of s.plan) = subst (λ (p : Planned). IsTree (tree_of p)) c.requires.of c.nodes_are_a_tree.ensures in
    let listed : c.children-child-items.result.now ≡ children (tree_of s.plan) c.args.class =
    c.children-child-items.ensures ∙ ap (λ (p : Planned). children (tree_of p) c.args.class) c.requires.of in
    let lt : i < length (children (tree_of s.plan) c.args.class) = subst (λ (xs : List ℕ). i < length xs) listed c.children-test.true in
    let m = get_or c.children-child-items.result.now i 0 in
    let here : get_or (children (tree_of s.plan) c.args.class) i 0 ≡ m = ap (λ (xs : List ℕ). get_or xs i 0) (sym listed) in
    let child = child-is (tree_of s.plan) c.args.class i lt in
    let below = tree.below (get_or (children (tree_of s.plan) c.args.class) i 0) child.positive in
    let rows : length c.args.plan.now.rows ≡ length s.plan.rows = ap (λ (p : Planned). length p.rows) c.requires.of in
    let within = child.within in
    let up = child.parent_is in
    let unfinished : is_finished ((after_history d.plan d.world d.workers (history_in d)).nodes.status m) ≡ false =
    sym c.is_finished.ensures ∙ c.if-not-is_finished.true in (
      omega (arith, c.decreases, here, below, rows, within, up),
      (
        c.requires.of ∙ sym c.children.invariant.same.plan,
        (
          c.children.invariant.taken,
          subst (λ (j : ℕ). MayRun d.plan d.world d.workers j (history_in d)) here
              (may_run_child s d d tree c.args.class i c.children.invariant.same c.children.invariant.some lt
              (subst (λ (j : ℕ). is_finished ((after_history d.plan d.world d.workers (history_in d)).nodes.status j) ≡ false) (sym here) unfinished)),
        ),
      ),
    )

pub children-children-preserved : goal.children-children-preserved
children-children-preserved t c =
    let s = c.args.self.now in
    let d = c.children.self in
    let i = c.children.child-index in
    let tree : IsTree (tree_of s.plan) = subst (λ (p : Planned). IsTree (tree_of p)) c.requires.of c.nodes_are_a_tree.ensures in
    let listed : c.children-child-items.result.now ≡ children (tree_of s.plan) c.args.class =
    c.children-child-items.ensures ∙ ap (λ (p : Planned). children (tree_of p) c.args.class) c.requires.of in
    let lt : i < length (children (tree_of s.plan) c.args.class) = subst (λ (xs : List ℕ). i < length xs) listed c.children-test.true in
    let m = get_or c.children-child-items.result.now i 0 in
    let here : get_or (children (tree_of s.plan) c.args.class) i 0 ≡ m = ap (λ (xs : List ℕ). get_or xs i 0) (sym listed) in
    record {
      same = elim c.if-not-is_finished.branch [
        | children-then-not-is_finished+in_ok-node w ↦
            subst (λ (v : CoreView). OfSameSuite s v) (sym w.self-is) (same_on s d w.node.new.self c.children.invariant.same w.in_ok-node.ensures.same)
        | children-else-not-is_finished w ↦ subst (λ (v : CoreView). OfSameSuite s v) (sym w.self-is) c.children.invariant.same
      ];
      taken = elim c.if-not-is_finished.branch [
        | children-then-not-is_finished+in_ok-node w ↦ subst (λ (v : CoreView). HasTaken v (history_in v)) (sym w.self-is) w.in_ok-node.ensures.taken
        | children-else-not-is_finished w ↦ subst (λ (v : CoreView). HasTaken v (history_in v)) (sym w.self-is) c.children.invariant.taken
      ];
      some = elim c.if-not-is_finished.branch [
        | children-then-not-is_finished+in_ok-node w ↦
            let e = w.node.new.self in
            subst (λ (v : CoreView). HasRunSome s.plan s.world s.workers c.args.class (history_in s) (i + 1) (history_in v)) (sym w.self-is)
            (child_run s d e tree c.args.class i c.children.invariant.same c.children.invariant.some lt
            (subst (λ (j : ℕ). HasRun d.plan d.world d.workers j (history_in d) (history_in e)) (sym here) w.in_ok-node.ensures.run))
        | children-else-not-is_finished w ↦
            let finished : is_finished ((after_history d.plan d.world d.workers (history_in d)).nodes.status m) ≡ true =
            sym c.is_finished.ensures ∙ w.if-not-is_finished.false in
            subst (λ (v : CoreView). HasRunSome s.plan s.world s.workers c.args.class (history_in s) (i + 1) (history_in v)) (sym w.self-is)
            (child_left_out s d d tree c.args.class i c.children.invariant.same c.children.invariant.some lt
            (subst (λ (j : ℕ). is_finished ((after_history d.plan d.world d.workers (history_in d)).nodes.status j) ≡ true) (sym here) finished))
      ];
    }

pub children-returns-clause-run : goal.children-returns-clause-run
children-returns-clause-run t c =
    let s = c.args.self.now in
    let i = c.children.child-index in
    let tree : IsTree (tree_of s.plan) = subst (λ (p : Planned). IsTree (tree_of p)) c.requires.of c.nodes_are_a_tree.ensures in
    let listed : c.children-child-items.result.now ≡ children (tree_of s.plan) c.args.class =
    c.children-child-items.ensures ∙ ap (λ (p : Planned). children (tree_of p) c.args.class) c.requires.of in
    let past : length c.children-child-items.result.now ≤ i = omega arith in
    all_run s.plan s.world s.workers tree c.args.class (history_in s) i (history_in c.children.self) c.children.invariant.some
    (subst (λ (xs : List ℕ). length xs ≤ i) listed past)

pub node-returns-then-is_test-clause-run : goal.node-returns-then-is_test-clause-run
node-returns-then-is_test-clause-run t c =
    let s = c.args.self.now in
    let tree : IsTree (tree_of s.plan) = subst (λ (p : Planned). IsTree (tree_of p)) c.requires.of c.nodes_are_a_tree.ensures in
    let test : is_test (row_at (tree_of c.args.plan.now) c.args.node).kind ≡ true = sym c.is_test.ensures ∙ c.if-is_test.true in
    ran_test s.plan s.world s.workers tree c.args.node (history_in s) (history_in c.first_body.new.self)
    (ap (λ (p : Planned). is_test (row_at (tree_of p) c.args.node).kind) (sym c.requires.of) ∙ test) (c.in_ok-first_body.ensures.test test)

pub node-last_body-requires-clause-may : goal.node-last_body-requires-clause-may
node-last_body-requires-clause-may t c =
    let s = c.args.self.now in
    let d = c.first_body.new.self in
    let e = c.children.new.self in
    let tree : IsTree (tree_of s.plan) = subst (λ (p : Planned). IsTree (tree_of p)) c.requires.of c.nodes_are_a_tree.ensures in
    let class : is_test (row_at (tree_of c.args.plan.now) c.args.node).kind ≡ false = sym c.is_test.ensures ∙ c.if-is_test.false in
    may_be_closed s d e e tree c.args.node c.first_body.ensures.same c.children.ensures.same (same_suite e) c.requires.may (c.in_ok-first_body.ensures.class class)
    c.in_ok-children.ensures.run

pub node-returns-clause-run : goal.node-returns-clause-run
node-returns-clause-run t c =
    let s = c.args.self.now in
    let d = c.first_body.new.self in
    let e = c.children.new.self in
    let f = c.last_body.new.self in
    let tree : IsTree (tree_of s.plan) = subst (λ (p : Planned). IsTree (tree_of p)) c.requires.of c.nodes_are_a_tree.ensures in
    let class : is_test (row_at (tree_of c.args.plan.now) c.args.node).kind ≡ false = sym c.is_test.ensures ∙ c.if-is_test.false in
    if_ok c.last_body.result
    (has_run_class s d e f tree c.args.node c.first_body.ensures.same c.children.ensures.same c.last_body.ensures.same c.requires.may (c.in_ok-first_body.ensures.class class)
    c.in_ok-children.ensures.run)
    c.last_body.ensures.closed
