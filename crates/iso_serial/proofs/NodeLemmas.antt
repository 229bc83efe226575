-- A node from the moment it is lent to the moment it was taken back, and the first moment of a run.
use Rattle.std.proofs.Common.{◌≡◌, ℕ, zero, suc, ◌<◌, List, [], length, replicate, get_or, Option, Some, None, Bool, true, false, cond, is_some, option_map, Result, Ok, Err, OnOk, IsOk, MatchResult, inl, inr, refl, sym, ap, ap₂, ◌∙◌, subst, arith}
use Rattle.std.proofs.lemmas.List.{length-replicate}
use Rattle.iso_lifecycle.specs.ResultViews.{AreComplete, AreOpen, ResultsView, has_result, no_results}
use Rattle.iso_lifecycle.specs.Subjects.{opening_of, own_frame, started, subject}
use Rattle.iso_locks.proofs.LawLemmas.{own-mark}
use Rattle.iso_locks.specs.Onward.{on-further, on-still}
use Rattle.iso_locks.specs.Slots.{slot}
use Rattle.iso_locks.specs.Trays.{CanUndo, GoesOn, SavepointView, TrayView, any_lent, empty_tray, holds_read, is_lent, marked, number_of, seen, seen_at, undone}
use Rattle.iso_locks.specs.Vaults.{CanLend, CanTakeBack, IsLentTo, VaultView, busy, giving_back, lending, regaining, whole_vault}
use Rattle.iso_model.specs.Openings.{opening}
use Rattle.iso_model.specs.Statements.{is_well}
use Rattle.iso_plan.proofs.ChildLemmas.{child-is}
use Rattle.iso_plan.proofs.PathLemmas.{path-root, path-step, under-self}
use Rattle.iso_plan.specs.Children.{IsChild}
use Rattle.iso_plan.specs.KeyTable.{keys}
use Rattle.iso_plan.specs.NodeChains.{heads_on}
use Rattle.iso_plan.specs.Paths.{IsTree, children, is_on, is_test, is_under, parent, path, row_at}
use Rattle.iso_plan.specs.Planned.{Planned}
use Rattle.iso_plan.specs.RowView.{tree_of}
use Rattle.iso_plan.specs.Tree.{Row}
use Rattle.iso_settings.specs.Worlds.{Start, starting_value_in}
use Rattle.iso_store.specs.Histories.{History}
use Rattle.iso_serial.proofs.LeaveLemmas.{at-start, back-holds, home-further, home-stands}
use Rattle.iso_serial.proofs.OpeningLemmas.{opened-by, opened-well}
use Rattle.iso_serial.proofs.ResultLemmas.{all-done, open-above, root-or-not}
use Rattle.iso_serial.proofs.StepLemmas.{inside-tree, parent-at, tree-at}
use Rattle.iso_serial.proofs.TrayLemmas.{lent-less, lent-more, lent-stands, some-or-none}
use Rattle.iso_serial.proofs.VaultLemmas.{can-lend, can-take-back, free, same-vault, vault-back, vault-lent}
use Rattle.iso_serial.specs.OpenedTrays.{AreLentAlong, StandsAsOpened}
use Rattle.iso_serial.specs.Walks.{AreDone, AreResultsAlong, AtEntry, AtExit, BetweenNodes, GoesFurther, IsEntered, IsLentAlong}
use Rattle.iso_serial.specs.declared.run.Walk.{Walk}

pub on-one : {A E : Type 0} {P Q : Type 0} (r : Result A E) → OnOk r P → (P → Q) → OnOk r Q
on-one (Ok x) p f = f p
on-one (Err e) p f = tt

pub on-ok-is : {A E : Type 0} {P : Type 0} (r : Result A E) (x : A) → r ≡ Ok x → OnOk r P → P
on-ok-is {P = P} r x e p = let Q : Result _ _ → Type 0 = λ q. OnOk q P in subst Q e p

pub further-still : (a : Walk) → GoesFurther a a
further-still a = record { tray = on-still a.tray; results = λ m h. h }

pub further-on : (a b c : Walk) → GoesFurther a b → GoesFurther b c → GoesFurther a c
further-on a b c x y = record { tray = on-further a.tray b.tray c.tray x.tray y.tray; results = λ m h. y.results m (x.results m h) }

-- what is answered where there is a result, and where there is none
pub waits-by : {A B : Type 0} (f : A → B) (o : Option A) (b : Bool) (x : B) → option_map f o ≡ cond b (Some x) None → is_some o ≡ false → b ≡ false
waits-by f (Some a) b x e none = absurd (cc)
waits-by f None true x e none = absurd (cc)
waits-by f None false x e none = refl

pub done-by : {A B : Type 0} (f : A → B) (o : Option A) (b : Bool) (x : B) → option_map f o ≡ cond b (Some x) None → is_some o ≡ true → b ≡ true
done-by f (Some a) true x e some = refl
done-by f (Some a) false x e some = absurd (cc)
done-by f None b x e some = absurd (cc)

-- an answer that is no `Err` is `Ok`
pub ok-by : {A E : Type 0} (r : Result A E) (o : Option ℕ) (P : A → Type 0) (f : E → ℕ) → MatchResult r P (λ e. o ≡ Some (f e)) → o ≡ None → IsOk r
ok-by (Ok x) o P f m none = refl
ok-by (Err e) o P f m none = absurd (let wrong : None ≡ Some (f e) = sym none ∙ m in cc)

module _ (plan : Planned) (world : Start) where
  abbrev tr : List Row
  tr = tree_of plan

  -- where a node that stands directly in p has no result, p was opened well
  child-well : (p n : ℕ) (v : ResultsView) → IsEntered plan world p → 0 < n → parent tr n ≡ p
      → AreResultsAlong plan world p v → has_result v n ≡ false → (opening_of (subject plan world p)).well ≡ true
  child-well p n v e pos q u w = elim (root-or-not p) [
    | inl zeroth ↦
        ap (λ (j : ℕ). (opening_of (subject plan world j)).well) zeroth
        ∙ ap (λ (ns : List ℕ). (opening (heads_on tr ns) (started world)).well) (path-root tr)
    | inr pp ↦
        let t = tree-at plan world v u.plan_is e.tree in
        let above = open-above plan world v t p n (parent-at plan world v n u.plan_is ∙ q) u w in
        let stepped = subst (λ (ns : List ℕ). AreOpen v ns) (path-step (tree_of v.plan) t.below p pp) above in
        let class = subst (λ (j : ℕ). is_test (row_at tr j).kind ≡ false) q (e.tree.inner n pos) in
        opened-well plan world p (opened-by plan world p e.tree pp (inside-tree plan world p e.within) class e.well)
        ∙ ap₂ (λ (pl : Planned) (s : Start). is_well (own_frame (subject pl s p)).ending) (sym u.plan_is) (sym u.start_is)
        ∙ stepped.0.1
  ]

  module _ (n : ℕ) (old : Walk) (pos : 0 < n) (within : n < length plan.rows) (s : BetweenNodes plan world (parent tr n) old) (w : has_result old.results n ≡ false) where
    pub may-lend : CanLend n old.vault old.tray
    may-lend = can-lend plan world s.entered.tree old.vault old.tray n pos within s.vault s.tray.holds s.lent

    pub lends : busy old.vault n ≡ None
    lends = free plan world s.entered.tree old.vault n pos s.vault

    pub entry : (v : VaultView) (u : TrayView) → v ≡ lending n old.vault → IsLentTo n old.tray u → AtEntry plan world n (record old { vault = v; tray = u })
    entry v u ve l = record {
      tree = s.entered.tree;
      positive = pos;
      within = within;
      well = child-well (parent tr n) n old.results s.entered pos refl s.results w;
      vault = subst (λ x. IsLentAlong plan world n x) (sym ve) (vault-lent plan world s.entered.tree old.vault n pos within s.vault);
      lent = subst (λ (ls : List Bool). AreLentAlong plan n ls) (sym l.lent) (lent-more plan world s.entered.tree old.tray.lent n pos within s.lent);
      tray = lent-stands plan world s.entered.tree old.tray u n pos within s.tray l;
      results = s.results;
      waits = w;
    }

    -- what a lent node's bodies and all that stands in it leave; its mark is undone, and it is taken back
    module _ (v : VaultView) (u : TrayView) (mark : SavepointView) (end : Walk) (l : IsLentTo n old.tray u) (me : mark ≡ marked u n)
        (at : AtExit plan world n end) (further : GoesFurther (record old { vault = v; tray = u }) end) where
      abbrev on : GoesOn u end.tray
      on = further.tray

      entered : StandsAsOpened plan world n (parent tr n) u
      entered = lent-stands plan world s.entered.tree old.tray u n pos within s.tray l

      pub may-undo : CanUndo mark end.tray
      may-undo = subst (λ (m : SavepointView). CanUndo m end.tray) (sym me) (own-mark u end.tray n on)

      gone-back : undone mark end.tray ≡ undone (marked u n) end.tray
      gone-back = ap (λ (m : SavepointView). undone m end.tray) me

      pub may-take : (w : TrayView) → w ≡ undone mark end.tray → CanTakeBack n end.vault w
      may-take w e =
          subst (λ (x : TrayView). CanTakeBack n end.vault x) (sym (e ∙ gone-back))
          (can-take-back plan world s.entered.tree end.vault (undone (marked u n) end.tray) n pos within at.vault
          (back-holds plan world s.entered.tree u end.tray n pos within entered on at.tray) (at.lent.along n ∙ under-self tr s.entered.tree.below n pos)
          (at-start plan world s.entered.tree u end.tray n pos within entered on at.tray))

      tray-is : (w y : TrayView) → w ≡ undone mark end.tray → y ≡ giving_back n w → y ≡ giving_back n (undone (marked u n) end.tray)
      tray-is w y e f = f ∙ ap (giving_back n) (e ∙ gone-back)

      pub left-stands : (x : VaultView) (w y : TrayView) → x ≡ regaining n end.vault → w ≡ undone mark end.tray
          → y ≡ giving_back n w → BetweenNodes plan world (parent tr n) (record end { vault = x; tray = y })
      left-stands x w y xe e f = record {
        entered = s.entered;
        vault = subst (λ z. IsLentAlong plan world (parent tr n) z) (sym xe) (vault-back plan world s.entered.tree end.vault n pos within at.vault);
        lent = subst (λ (z : TrayView). AreLentAlong plan (parent tr n) z.lent) (sym (tray-is w y e f)) (lent-less plan world s.entered.tree end.tray.lent n pos within at.lent);
        tray = subst (λ (z : TrayView). StandsAsOpened plan world (parent tr n) (parent tr n) z) (sym (tray-is w y e f))
            (home-stands plan world s.entered.tree u end.tray n pos within entered on at.tray);
        results = at.results;
      }

      pub left-further : (x : VaultView) (w y : TrayView) → w ≡ undone mark end.tray → y ≡ giving_back n w → GoesFurther old (record end { vault = x; tray = y })
      left-further x w y e f = record {
        tray = subst (λ (z : TrayView). GoesOn old.tray z) (sym (tray-is w y e f)) (home-further plan world s.entered.tree u end.tray n pos within entered on at.tray old.tray s.tray l);
        results = further.results;
      }

  -- a child of a class, by its place
  pub child-at : (class i : ℕ) (items : List ℕ) → items ≡ children tr class → i < length items → IsChild tr class (length tr) (get_or items i 0)
  child-at class i items e h =
      subst (λ (xs : List ℕ). IsChild tr class (length tr) (get_or xs i 0)) (sym e) (child-is tr class i (subst (λ (xs : List ℕ). i < length xs) e h))

  none-there : (c : ℕ) (i : ℕ) → get_or (replicate c None) i None ≡ (let none : Option History = None in none)
  none-there zero i = refl
  none-there (suc c) zero = refl
  none-there (suc c) (suc i) = none-there c i

  none-lent : (c : ℕ) (i : ℕ) → get_or (replicate c false) i false ≡ false
  none-lent zero i = refl
  none-lent (suc c) zero = refl
  none-lent (suc c) (suc i) = none-lent c i

  nothing-under-root : (m : ℕ) → is_under tr m 0 ≡ false
  nothing-under-root m = ap (λ (ns : List ℕ). is_on ns m) (path-root tr)

  none-along : (lent : List Bool) → lent ≡ replicate (length plan.rows) false → AreLentAlong plan 0 lent
  none-along lent e = record {
    fits = ap length e ∙ length-replicate (length plan.rows) false;
    along = λ m. ap (λ (bs : List Bool). is_lent bs m) e ∙ none-lent (length plan.rows) m ∙ sym (nothing-under-root m);
  }

  any-none : (lent : List Bool) → ((m : ℕ) → is_lent lent m ≡ false) → (test : ℕ → Bool) (n : ℕ) → any_lent lent test n ≡ false
  any-none lent none test zero = refl
  any-none lent none test (suc n) = rw (none n) (any-none lent none test n)

  root-path : IsTree tr → path tr (parent tr 0) ≡ []
  root-path t = ap (λ (r : Row). path tr r.parent) t.root_is ∙ path-root tr

  nothing-held : (k : List ℕ) (o : Option ℕ) → seen_at tr world (replicate (length plan.rows) false) (empty_tray plan world).values k o ≡ None
  nothing-held k None = refl
  nothing-held k (Some i) =
      ap₂ (λ (h : Option History) (b : Bool). seen h b (starting_value_in world k)) (none-there (length (keys tr)) i)
      (any-none (replicate (length plan.rows) false) (none-lent (length plan.rows)) (holds_read tr k) (length tr))

  all-home : (c i : ℕ) → i < c → get_or (replicate c true) i false ≡ true
  all-home zero i less = absurd (omega arith)
  all-home (suc c) zero less = refl
  all-home (suc c) (suc i) less = all-home c i (omega arith)

  -- a whole vault is what a vault is between two nodes of the root
  pub whole-along : IsLentAlong plan world 0 (whole_vault plan world)
  whole-along = record {
    plan_is = refl;
    world_is = refl;
    lent = none-along (replicate (length plan.rows) false) refl;
    home = record {
      fits = length-replicate (length (keys tr)) true;
      away = λ i on. let wrong : false ≡ true = sym (nothing-under-root on.node) ∙ on.above in absurd (cc);
      only = λ i less e. let wrong : true ≡ false = sym (all-home (length (keys tr)) i less) ∙ e in absurd (cc);
    };
  }

  -- at the beginning nothing is lent, and nothing has a result
  pub first-stands : (s : Walk) → IsTree tr → s.vault ≡ whole_vault plan world → s.tray ≡ empty_tray plan world → s.results ≡ no_results plan world → BetweenNodes plan world 0 s
  first-stands s t ve te re =
      let rooted = t.rooted in
      record {
        entered = record {
          tree = t;
          within = omega arith;
          well = ap (λ (ns : List ℕ). (opening (heads_on tr ns) (started world)).well) (root-path t);
        };
        vault = subst (λ x. IsLentAlong plan world 0 x) (sym ve) whole-along;
        lent = subst (λ (x : TrayView). AreLentAlong plan 0 x.lent) (sym te) (none-along (replicate (length plan.rows) false) refl);
        tray = subst (λ (x : TrayView). StandsAsOpened plan world 0 0 x) (sym te) (record {
          holds = record {
            plan_is = refl;
            world_is = refl;
            there = λ i on. let wrong : false ≡ true = sym (nothing-under-root on.node) ∙ on.above in absurd (cc);
            only = λ i h. let wrong : false ≡ true = sym (ap is_some (none-there (length (keys tr)) i)) ∙ h in absurd (cc);
          };
          values = λ k h. let wrong : false ≡ true = sym (ap is_some (nothing-held k (number_of tr k))) ∙ h in absurd (cc);
        });
        results = subst (λ (x : ResultsView). AreResultsAlong plan world 0 x) (sym re) (record {
          plan_is = refl;
          start_is = refl;
          opened_fit = length-replicate (length plan.rows) false;
          ended_fit = length-replicate (length plan.rows) false;
          enclosed = subst (λ (ns : List ℕ). AreOpen (no_results plan world) ns) (sym (root-path t)) tt;
          opened = λ h. absurd (omega arith);
          going = λ m a. none-lent (length plan.rows) m;
          others = λ m op a. let wrong : false ≡ true = sym (none-lent (length plan.rows) m) ∙ op in absurd (cc);
          closed = λ m mp mw e. let wrong : false ≡ true = sym (none-lent (length plan.rows) (parent tr m)) ∙ e in absurd (cc);
        });
      }

  -- between two nodes of the root every value is home, and the tray has none and nothing is lent to it
  pub root-whole : (s : Walk) → BetweenNodes plan world 0 s → s.vault ≡ whole_vault plan world
  root-whole s st = same-vault plan world 0 s.vault (whole_vault plan world) st.vault whole-along

  pub root-lent : (s : Walk) → BetweenNodes plan world 0 s → (m : ℕ) → is_lent s.tray.lent m ≡ false
  root-lent s st m = st.lent.along m ∙ nothing-under-root m

  pub root-empty : (s : Walk) → BetweenNodes plan world 0 s → (i : ℕ) → slot s.tray.values i ≡ None
  root-empty s st i = elim (some-or-none (slot s.tray.values i)) [
    | inl x ↦
        let on = st.tray.holds.only i (ap is_some x.is) in
        let wrong : false ≡ true = sym (nothing-under-root on.node) ∙ on.above in
        absurd (cc)
    | inr none ↦ none
  ]

  -- at the end all nodes have results
  pub last-complete : (s : Walk) → BetweenNodes plan world 0 s → AreDone plan 0 s.results → AreComplete s.results
  last-complete s st done =
      let u = st.results in
      all-done plan world s.results (tree-at plan world s.results u.plan_is st.entered.tree) u
      (subst (λ (pl : Planned). (i : ℕ) → i < length (children (tree_of pl) 0) → has_result s.results (get_or (children (tree_of pl) 0) i 0) ≡ true) (sym u.plan_is) done)
