-- From one stage of a node to the next: its bodies can be done, and their ends are put.
use Rattle.std.proofs.Common.{◌≡◌, ℕ, ◌<◌, List, length, map, reverse, set, slice_index_or, Bool, true, false, ◌&&◌, not, Result, Ok, Err, OnOk, refl, sym, ap, ap₂, ◌∙◌, subst, arith}
use Rattle.iso_lifecycle.specs.ResultViews.{AreOpen, AreOpened, CanPut, ResultsView, has_result, is_barred, is_due, is_ended, with_done_of}
use Rattle.iso_lifecycle.specs.Subjects.{is_kind_of, subject}
use Rattle.iso_lifecycle.specs.declared.kind.BodyKind.{BodyKind}
use Rattle.iso_lifecycle.specs.declared.kind.BodyKind.TheVariants.{BeforeAll, Test, AfterAll}
use Rattle.iso_locks.specs.Trays.{frames_on, is_lent}
use Rattle.iso_plan.proofs.PathLemmas.{under-self}
use Rattle.iso_plan.specs.Paths.{IsTree, children, is_class_or_test, is_test, parent, path, row_at}
use Rattle.iso_plan.specs.Planned.{Planned}
use Rattle.iso_plan.specs.RowView.{tree_of}
use Rattle.iso_plan.specs.Tree as T
use Rattle.iso_plan.specs.Tree.{root, class_node, test_node, Row}
use Rattle.iso_settings.specs.Worlds.{Start}
use Rattle.iso_serial.proofs.OpeningLemmas.{opened-by}
use Rattle.iso_serial.proofs.ResultLemmas.{frames-there, neither, open-above, or-first, put-closed, put-opened, put-test, result-more, set-more, set-there, unopened}
use Rattle.iso_serial.proofs.ReadyLemmas.{closing-ready, opening-ready, test-ready}
use Rattle.iso_serial.proofs.TrayLemmas.{closed-apart, opened-stands, tested-apart}
use Rattle.iso_serial.specs.OpenedTrays.{AreLentAlong, IsTrayAfter}
use Rattle.iso_serial.specs.Walks.{AreDone, AreResultsAlong, AtEntry, AtExit, BetweenNodes, CanPerform, GoesFurther, IsLentAlong}
use Rattle.iso_serial.specs.declared.run.Walk.{Walk}

pub on-both : {A E : Type 0} {P Q R : Type 0} (r : Result A E) → OnOk r P → OnOk r Q → (P → Q → R) → OnOk r R
on-both (Ok x) p q f = f p q
on-both (Err e) p q f = tt

-- which bodies a test and a class have
pub test-fits : (kind : T.Kind) → is_test kind ≡ true → is_kind_of Test kind ≡ true
test-fits root e = absurd (cc)
test-fits (class_node isolated head) e = absurd (cc)
test-fits (test_node head) e = refl

pub class-fits : (kind : T.Kind) → is_test kind ≡ false → is_class_or_test kind ≡ true → (is_kind_of BeforeAll kind ≡ true) × (is_kind_of AfterAll kind ≡ true)
class-fits root e c = absurd (cc)
class-fits (class_node isolated head) e c = (refl, refl)
class-fits (test_node head) e c = absurd (cc)

module _ (plan : Planned) (world : Start) where
  abbrev tr : List Row
  tr = tree_of plan

  pub tree-at : (v : ResultsView) → v.plan ≡ plan → IsTree tr → IsTree (tree_of v.plan)
  tree-at v e t = subst (λ (pl : Planned). IsTree (tree_of pl)) (sym e) t

  pub parent-at : (v : ResultsView) (n : ℕ) → v.plan ≡ plan → parent (tree_of v.plan) n ≡ parent tr n
  parent-at v n e = ap (λ (pl : Planned). parent (tree_of pl) n) e

  within-at : (v : ResultsView) (n : ℕ) → v.plan ≡ plan → n < length plan.rows → n < length v.plan.rows
  within-at v n e h = subst (λ (pl : Planned). n < length pl.rows) (sym e) h

  pub inside-tree : (n : ℕ) → n < length plan.rows → n < length tr
  inside-tree n h = h

  above-at : (n : ℕ) (v : ResultsView) → IsTree tr → AreResultsAlong plan world (parent tr n) v → has_result v n ≡ false → AreOpen v (path (tree_of v.plan) (parent (tree_of v.plan) n))
  above-at n v t u w =
      let q = parent-at v n u.plan_is in
      subst (λ (j : ℕ). AreOpen v (path (tree_of v.plan) j)) (sym q) (open-above plan world v (tree-at v u.plan_is t) (parent tr n) n q u w)

  can-put-entered : (k : BodyKind) (n : ℕ) (v : ResultsView) → IsTree tr → n < length plan.rows → AreResultsAlong plan world (parent tr n) v
      → has_result v n ≡ false → is_due k n v ≡ true → CanPut (record { subject = subject plan world n; kind = k }) v
  can-put-entered k n v t within u w due = record {
    plan = sym u.plan_is;
    start = sym u.start_is;
    node = within-at v n u.plan_is within;
    due = due;
    enclosed = above-at n v t u w;
  }

  can-put-closed : (n : ℕ) (v : ResultsView) → IsTree tr → 0 < n → n < length plan.rows → AreResultsAlong plan world n v → CanPut (record { subject = subject plan world n; kind = AfterAll }) v
  can-put-closed n v t pos within u =
      let under = under-self (tree_of v.plan) (tree-at v u.plan_is t).below n pos in
      record {
        plan = sym u.plan_is;
        start = sym u.start_is;
        node = within-at v n u.plan_is within;
        due = ap₂ (λ (a b : Bool). a && not b) (u.opened pos) (u.going n under);
        enclosed = u.enclosed;
      }

  -- so these bodies can be done, with the frames of the classes around them
  opened-at : (p : ℕ) (v : ResultsView) → IsTree tr → AreResultsAlong plan world p v → AreOpened v (path tr p)
  opened-at p v t u = subst (λ (pl : Planned). AreOpened v (path (tree_of pl) p)) u.plan_is (frames-there plan world v (tree-at v u.plan_is t) p u)

  frames-at : (p : ℕ) (v : ResultsView) → AreResultsAlong plan world p v → frames_on v p ≡ map (subject plan world) (reverse (path tr p))
  frames-at p v u = ap₂ (λ (pl : Planned) (s : Start). map (subject pl s) (reverse (path (tree_of pl) p))) u.plan_is u.start_is

  own-lent : (n : ℕ) (lent : List Bool) → IsTree tr → 0 < n → AreLentAlong plan n lent → is_lent lent n ≡ true
  own-lent n lent t pos a = a.along n ∙ under-self tr t.below n pos

  pub test-can : (n : ℕ) (s : Walk) → AtEntry plan world n s → is_test (row_at tr n).kind ≡ true → CanPerform plan world Test n s
  test-can n s at e = record {
    tray = at.tray.holds.plan_is;
    start = at.tray.holds.world_is;
    opened = opened-at (parent tr n) s.results at.tree at.results;
    begins = record { inner = at.positive; within = at.within; fits = test-fits (row_at tr n).kind e; frames = frames-at (parent tr n) s.results at.results; well = at.well };
    ready = test-ready plan world at.tree n s.tray at.positive (inside-tree n at.within) (own-lent n s.tray.lent at.tree at.positive at.lent) e at.tray;
    put = can-put-entered Test n s.results at.tree at.within at.results at.waits (ap not (neither (is_ended s.results n) (is_barred s.results n) at.waits).0);
  }

  pub opening-can : (n : ℕ) (s : Walk) → AtEntry plan world n s → is_test (row_at tr n).kind ≡ false → CanPerform plan world BeforeAll n s
  opening-can n s at e = record {
    tray = at.tray.holds.plan_is;
    start = at.tray.holds.world_is;
    opened = opened-at (parent tr n) s.results at.tree at.results;
    begins = record {
      inner = at.positive;
      within = at.within;
      fits = (class-fits (row_at tr n).kind e (at.tree.full n at.positive (inside-tree n at.within))).0;
      frames = frames-at (parent tr n) s.results at.results;
      well = at.well;
    };
    ready = opening-ready plan world at.tree n s.tray at.positive (inside-tree n at.within) (own-lent n s.tray.lent at.tree at.positive at.lent) at.tray;
    put =
        let u = at.results in
        let closed = unopened plan world s.results (tree-at s.results u.plan_is at.tree) (parent tr n) n (parent-at s.results n u.plan_is) at.positive u at.waits in
        can-put-entered BeforeAll n s.results at.tree at.within u at.waits (ap not closed);
  }

  pub closing-can : (n : ℕ) (s : Walk) → BetweenNodes plan world n s → 0 < n → is_test (row_at tr n).kind ≡ false → CanPerform plan world AfterAll n s
  closing-can n s at pos e =
      let t = at.entered.tree in
      let within = at.entered.within in
      record {
        tray = at.tray.holds.plan_is;
        start = at.tray.holds.world_is;
        opened = opened-at n s.results t at.results;
        begins = record {
          inner = pos;
          within = within;
          fits = (class-fits (row_at tr n).kind e (t.full n pos (inside-tree n within))).1;
          frames = frames-at n s.results at.results;
          well = at.entered.well;
        };
        ready = closing-ready plan world t n s.tray pos (inside-tree n within) (own-lent n s.tray.lent t pos at.lent) at.tray;
        put = can-put-closed n s.results t pos within at.results;
      }

  ended-grows : (n : ℕ) (v w : ResultsView) → w ≡ record v { ended = set v.ended n true } → (m : ℕ) → has_result v m ≡ true → has_result w m ≡ true
  ended-grows n v w e m h = ap (λ (x : ResultsView). has_result x m) e ∙ result-more v v.opened (set v.ended n true) (λ _ x. x) (set-more v.ended n) m h

  pub ended-further : (n : ℕ) (old new : Walk) (k : BodyKind) → new.results ≡ record old.results { ended = set old.results.ended n true }
      → IsTrayAfter plan world k n old.tray new.tray → GoesFurther old new
  ended-further n old new k e d = record { tray = d.onward; results = ended-grows n old.results new.results e }

  has-ended : (n : ℕ) (v w : ResultsView) → w ≡ record v { ended = set v.ended n true } → n < length v.ended → has_result w n ≡ true
  has-ended n v w e within =
      let over = record v { ended = set v.ended n true } in
      ap (λ (x : ResultsView). has_result x n) e ∙ or-first (is_ended over n) (is_barred over n) (set-there v.ended n within)

  pub test-end : (n : ℕ) (old new : Walk) → AtEntry plan world n old → is_test (row_at tr n).kind ≡ true → new.vault ≡ old.vault
      → new.results ≡ with_done_of Test n old.results → IsTrayAfter plan world Test n old.tray new.tray → AtExit plan world n new
  test-end n old new s test ve re d =
      let t = s.tree in
      let v = old.results in
      let u = s.results in
      let fit = u.ended_fit in
      let within = within-at v n u.plan_is s.within in
      record {
        vault = subst (λ x. IsLentAlong plan world n x) (sym ve) s.vault;
        lent = subst (λ (ls : List Bool). AreLentAlong plan n ls) (sym d.lent) s.lent;
        tray = tested-apart plan world t old.tray new.tray n s.tray d;
        results = subst (λ (x : ResultsView). AreResultsAlong plan world (parent tr n) x) (sym re)
            (put-test plan world v (tree-at v u.plan_is t) (parent tr n) n (parent-at v n u.plan_is) s.positive within
            (ap (λ (pl : Planned). is_test (row_at (tree_of pl) n).kind) u.plan_is ∙ test) u);
        done = has-ended n v new.results re (omega arith);
      }

  pub opened-end : (n : ℕ) (old new : Walk) → AtEntry plan world n old → is_test (row_at tr n).kind ≡ false → new.vault ≡ old.vault
      → new.results ≡ with_done_of BeforeAll n old.results → IsTrayAfter plan world BeforeAll n old.tray new.tray → BetweenNodes plan world n new
  opened-end n old new s class ve re d =
      let t = s.tree in
      let v = old.results in
      let u = s.results in
      record {
        entered = record { tree = t; within = s.within; well = s.well };
        vault = subst (λ x. IsLentAlong plan world n x) (sym ve) s.vault;
        lent = subst (λ (ls : List Bool). AreLentAlong plan n ls) (sym d.lent) s.lent;
        tray = opened-stands plan world t old.tray new.tray n (opened-by plan world n t s.positive (inside-tree n s.within) class s.well) s.tray d;
        results = subst (λ (x : ResultsView). AreResultsAlong plan world n x) (sym re)
            (put-opened plan world v (tree-at v u.plan_is t) (parent tr n) n (parent-at v n u.plan_is) s.positive (within-at v n u.plan_is s.within) u s.waits);
      }

  pub opened-further : (n : ℕ) (old new : Walk) → new.results ≡ with_done_of BeforeAll n old.results → IsTrayAfter plan world BeforeAll n old.tray new.tray → GoesFurther old new
  opened-further n old new re d =
      let v = old.results in
      record {
        tray = d.onward;
        results = λ m h. ap (λ (x : ResultsView). has_result x m) re ∙ result-more v (set v.opened n true) v.ended (set-more v.opened n) (λ _ x. x) m h;
      }

  pub closed-end : (n : ℕ) (old new : Walk) → BetweenNodes plan world n old → 0 < n → is_test (row_at tr n).kind ≡ false → AreDone plan n old.results → new.vault ≡ old.vault
      → new.results ≡ with_done_of AfterAll n old.results → IsTrayAfter plan world AfterAll n old.tray new.tray → AtExit plan world n new
  closed-end n old new s pos class all ve re d =
      let e = s.entered in
      let t = e.tree in
      let v = old.results in
      let u = s.results in
      let fit = u.ended_fit in
      let within = within-at v n u.plan_is e.within in
      let inside = subst (λ (pl : Planned). (i : ℕ) → i < length (children (tree_of pl) n) → has_result v (slice_index_or (children (tree_of pl) n) i 0) ≡ true) (sym u.plan_is) all in
      record {
        vault = subst (λ x. IsLentAlong plan world n x) (sym ve) s.vault;
        lent = subst (λ (ls : List Bool). AreLentAlong plan n ls) (sym d.lent) s.lent;
        tray = closed-apart plan world t old.tray new.tray n (opened-by plan world n t pos (inside-tree n e.within) class e.well) s.tray d;
        results = subst (λ (x : ResultsView). AreResultsAlong plan world (parent tr n) x) (sym re)
            (put-closed plan world v (tree-at v u.plan_is t) (parent tr n) n (parent-at v n u.plan_is) pos within u inside);
        done = has-ended n v new.results re (omega arith);
      }
