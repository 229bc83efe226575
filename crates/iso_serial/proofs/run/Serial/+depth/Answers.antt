use Rattle.std.proofs.Common.{◌≡◌, ℕ, ◌<◌, List, None, length, get_or, true, is_some, not, ap, sym, ◌∙◌, subst, arith, inl, inr}
use Rattle.std.proofs.lemmas.Bool.{cases_eq}
use Rattle.iso_lifecycle.specs.ResultViews.{has_result, outcome_in, outcome_of_view}
use Rattle.iso_locks.specs.Vaults.{busy}
use Rattle.iso_plan.specs.Paths.{children, parent}
use Rattle.iso_plan.specs.Planned.{Planned}
use Rattle.iso_plan.specs.RowView.{tree_of}
use Rattle.iso_settings.specs.Worlds.{Start}
use Rattle.iso_serial.proofs.NodeLemmas.{child-at, done-by, entry, further-on, further-still, left-further, left-stands, lends, may-lend, may-take, may-undo, ok-by, on-ok-is, on-one, waits-by}
use Rattle.iso_serial.proofs.VaultLemmas.{same-vault}
use Rattle.iso_serial.specs.Walks.{BetweenNodes, GoesFurther}
use Rattle.iso_serial.specs.declared.run.Walk.{Walk}
use Rattle.iso_serial.proofs.run.Serial.+depth.Goals as goal
use Rattle.iso_serial.proofs.run.Serial.+depth.Goals.{children-then-is_none+in_ok-node, children-else-is_none}

pub children-get-requires : goal.children-get-requires
children-get-requires g t c =
    let plan : Planned = c.args.self.now.plan.now in
    let child = child-at plan c.args.self.now.world.now c.args.class c.children.child-index c.children-child-items.result.now c.children-child-items.ensures c.children-test.true in
    let w = child.within in
    let rows : length c.children.walk.results.plan.rows ≡ length plan.rows = ap (λ (p : Planned). length p.rows) c.children.invariant.between.results.plan_is in
    omega arith

pub children-node-requires : goal.children-node-requires
children-node-requires g t c κs inside =
    let plan : Planned = c.args.self.now.plan.now in
    let world : Start = c.args.self.now.world.now in
    let child = child-at plan world c.args.class c.children.child-index c.children-child-items.result.now c.children-child-items.ensures c.children-test.true in
    let n = get_or c.children-child-items.result.now c.children.child-index 0 in
    let w = child.within in
    let within : n < length plan.rows = omega arith in
    let below : parent (tree_of plan) n < n = c.requires.entered.tree.below n child.positive in
    let less : c.args.class < n = subst (λ (j : ℕ). j < n) child.parent_is below in
    let v = c.children.walk.results in (
      omega (arith, c.decreases, less, within),
      (
        inside,
        (
          child.positive,
          (
            within,
            (
              subst (λ (j : ℕ). BetweenNodes plan world j c.children.walk) (sym child.parent_is) c.children.invariant.between,
              waits-by outcome_of_view c.get.result (has_result v n) (outcome_in v n) c.get.ensures c.if-is_none.ensures,
            ),
          ),
        ),
      ),
    )

pub children-children-preserved : goal.children-children-preserved
children-children-preserved g t c =
    let plan : Planned = c.args.self.now.plan.now in
    let world : Start = c.args.self.now.world.now in
    let items = c.children-child-items.result.now in
    let at = c.children.child-index in
    let n = get_or items at 0 in
    let child = child-at plan world c.args.class at items c.children-child-items.ensures c.children-test.true in
    let i = c.children.invariant in
    let new : Walk = c.if-is_none.walk in
    let same : get_or (children (tree_of plan) c.args.class) at 0 ≡ n = ap (λ (xs : List ℕ). get_or xs at 0) (sym c.children-child-items.ensures) in
    let further : GoesFurther c.children.walk new = elim c.if-is_none.branch [
      | children-then-is_none+in_ok-node w ↦ subst (λ (x : Walk). GoesFurther c.children.walk x) (sym w.walk-is) w.in_ok-node.ensures.further
      | children-else-is_none w ↦ subst (λ (x : Walk). GoesFurther c.children.walk x) (sym w.walk-is) (further-still c.children.walk)
    ] in
    let here : has_result new.results n ≡ true = elim c.if-is_none.branch [
      | children-then-is_none+in_ok-node w ↦ ap (λ (x : Walk). has_result x.results n) w.walk-is ∙ w.in_ok-node.ensures.done
      | children-else-is_none w ↦
          let some : is_some c.get.result ≡ true = c.is_none.ensures ∙ ap not w.if-is_none.false in
          ap (λ (x : Walk). has_result x.results n) w.walk-is ∙ done-by outcome_of_view c.get.result (has_result c.children.walk.results n) (outcome_in c.children.walk.results n) c.get.ensures some
    ] in
    record {
      between = elim c.if-is_none.branch [
        | children-then-is_none+in_ok-node w ↦ subst (λ (x : Walk). BetweenNodes plan world c.args.class x) (sym w.walk-is)
            (subst (λ (j : ℕ). BetweenNodes plan world j w.node.new.walk) child.parent_is w.in_ok-node.ensures.between)
        | children-else-is_none w ↦ subst (λ (x : Walk). BetweenNodes plan world c.args.class x) (sym w.walk-is) i.between
      ];
      done = λ j h. elim (cases_eq j at) [
        | inl equal ↦ ap (λ (x : ℕ). has_result new.results (get_or (children (tree_of plan) c.args.class) x 0)) equal ∙ ap (has_result new.results) same ∙ here
        | inr other ↦ further.results (get_or (children (tree_of plan) c.args.class) j 0) (i.done j (omega arith))
      ];
      further = further-on c.args.walk.now c.children.walk new i.further further;
    }

pub class-returns-clause-further : goal.class-returns-clause-further
class-returns-clause-further g t c =
    on-one c.close.result c.close.ensures.further
    (λ last. further-on c.args.walk.now c.open.new.walk c.close.new.walk c.in_ok-open.ensures.further
    (further-on c.open.new.walk c.children.new.walk c.close.new.walk c.in_ok-children.ensures.further last))

pub node-lend-requires : goal.node-lend-requires
node-lend-requires g t c = may-lend c.args.self.now.plan.now c.args.self.now.world.now c.args.node c.args.walk.now c.requires.positive c.requires.within c.requires.between c.requires.waits

pub node-unwrap-requires : goal.node-unwrap-requires
node-unwrap-requires g t c =
    let none = lends c.args.self.now.plan.now c.args.self.now.world.now c.args.node c.args.walk.now c.requires.positive c.requires.within c.requires.between c.requires.waits in
    ok-by c.lend.result (busy c.args.walk.now.vault c.args.node) (λ _. busy c.args.walk.now.vault c.args.node ≡ None) (λ b. b.node) c.lend.ensures.busy none

pub node-bodies-requires : goal.node-bodies-requires
node-bodies-requires g t c κs inside = (
  omega (arith, c.decreases),
  (
    inside,
    entry c.args.self.now.plan.now c.args.self.now.world.now c.args.node c.args.walk.now c.requires.positive c.requires.within c.requires.between c.requires.waits c.lend.new.self c.lend.new.tray
        (on-ok-is c.lend.result c.unwrap.result c.unwrap.ensures c.lend.ensures.vault) (on-ok-is c.lend.result c.unwrap.result c.unwrap.ensures c.lend.ensures.tray),
  ),
)

pub node-undo-requires : goal.node-undo-requires
node-undo-requires g t c =
    let lent = on-ok-is c.lend.result c.unwrap.result c.unwrap.ensures c.lend.ensures.tray in
    may-undo c.args.self.now.plan.now c.args.self.now.world.now c.args.node c.args.walk.now c.requires.positive c.requires.within c.requires.between c.requires.waits c.lend.new.self
    c.lend.new.tray c.in_ok-mark.mark c.bodies.new.walk lent c.in_ok-mark.ensures c.in_ok-bodies.ensures.exit c.in_ok-bodies.ensures.further

pub node-take_back-requires : goal.node-take_back-requires
node-take_back-requires g t c =
    let lent = on-ok-is c.lend.result c.unwrap.result c.unwrap.ensures c.lend.ensures.tray in
    may-take c.args.self.now.plan.now c.args.self.now.world.now c.args.node c.args.walk.now c.requires.positive c.requires.within c.requires.between c.requires.waits c.lend.new.self
    c.lend.new.tray c.in_ok-mark.mark c.bodies.new.walk lent c.in_ok-mark.ensures c.in_ok-bodies.ensures.exit c.in_ok-bodies.ensures.further
    c.undo.new.self c.undo.ensures

pub node-returns-clause-between : goal.node-returns-clause-between
node-returns-clause-between g t c =
    let lent = on-ok-is c.lend.result c.unwrap.result c.unwrap.ensures c.lend.ensures.tray in
    left-stands c.args.self.now.plan.now c.args.self.now.world.now c.args.node c.args.walk.now c.requires.positive c.requires.within c.requires.between c.requires.waits c.lend.new.self
    c.lend.new.tray c.in_ok-mark.mark c.bodies.new.walk lent c.in_ok-mark.ensures c.in_ok-bodies.ensures.exit c.in_ok-bodies.ensures.further
    c.take_back.new.self c.undo.new.self c.take_back.new.tray c.take_back.ensures.vault c.undo.ensures c.take_back.ensures.tray

pub node-returns-clause-vault : goal.node-returns-clause-vault
node-returns-clause-vault g t c =
    let plan : Planned = c.args.self.now.plan.now in
    let world : Start = c.args.self.now.world.now in
    let lent = on-ok-is c.lend.result c.unwrap.result c.unwrap.ensures c.lend.ensures.tray in
    let between = left-stands plan world c.args.node c.args.walk.now c.requires.positive c.requires.within c.requires.between c.requires.waits c.lend.new.self c.lend.new.tray c.in_ok-mark.mark
    c.bodies.new.walk lent c.in_ok-mark.ensures c.in_ok-bodies.ensures.exit c.in_ok-bodies.ensures.further
    c.take_back.new.self c.undo.new.self c.take_back.new.tray c.take_back.ensures.vault c.undo.ensures c.take_back.ensures.tray in
    same-vault plan world (parent (tree_of plan) c.args.node) c.take_back.new.self c.args.walk.now.vault between.vault c.requires.between.vault

pub node-returns-clause-further : goal.node-returns-clause-further
node-returns-clause-further g t c =
    let lent = on-ok-is c.lend.result c.unwrap.result c.unwrap.ensures c.lend.ensures.tray in
    left-further c.args.self.now.plan.now c.args.self.now.world.now c.args.node c.args.walk.now c.requires.positive c.requires.within c.requires.between c.requires.waits c.lend.new.self
    c.lend.new.tray c.in_ok-mark.mark c.bodies.new.walk lent c.in_ok-mark.ensures c.in_ok-bodies.ensures.exit c.in_ok-bodies.ensures.further
    c.take_back.new.self c.undo.new.self c.take_back.new.tray c.undo.ensures c.take_back.ensures.tray
