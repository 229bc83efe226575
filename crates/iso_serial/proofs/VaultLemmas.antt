-- A vault beside a tray, as a node is lent from it and taken back.
use Rattle.std.proofs.Common.{◌≡◌, ◌≢◌, ℕ, zero, suc, ◌<◌, List, length, get_or, Option, Some, None, Bool, true, false, ◌||◌, ◌&&◌, ◌==◌, not, cond, inl, inr, refl, sym, ap, ap₂, ◌∙◌, subst, arith}
use Rattle.std.proofs.lemmas.List.{get_or_default, same_lists}
use Rattle.std.specs.Option.{option_or}
use Rattle.iso_locks.proofs.KeyLemmas.{or-true, written-within}
use Rattle.iso_locks.specs.Clashes.{clash, lockers_conflict}
use Rattle.iso_locks.specs.Moves.{is_written}
use Rattle.iso_locks.specs.Trays.{TrayView, is_lent, key_at}
use Rattle.iso_locks.specs.Vaults.{CanLend, CanTakeBack, VaultView, busy, is_home, lending, regaining, value_in}
use Rattle.iso_plan.proofs.ColumnLemmas.{column-read, length-column}
use Rattle.iso_plan.proofs.PathLemmas.{IsBelow, along, eq_from, eq_same, path-root, path-step, under-self, under-step}
use Rattle.iso_plan.specs.Conflicts.{is_in_the_way, lowest}
use Rattle.iso_plan.specs.KeyTable.{keys}
use Rattle.iso_plan.specs.Locks.{conflict, declares, locking_node, locks}
use Rattle.iso_plan.specs.Paths.{IsTree, is_on, is_under, outermost, parent}
use Rattle.iso_plan.specs.Planned.{Planned}
use Rattle.iso_plan.specs.RowView.{tree_of}
use Rattle.iso_plan.specs.Tree.{Row}
use Rattle.iso_settings.specs.Worlds.{Start, starting_value_in}
use Rattle.iso_serial.proofs.ResultLemmas.{above-parent, and-parts, neither, not-above, true-or-false}
use Rattle.iso_serial.proofs.TrayLemmas.{lent-less, lent-more, no-clash, no-conflict}
use Rattle.iso_serial.specs.OpenedTrays.{AreLentAlong, HoldsAlong, IsWrittenOn}
use Rattle.iso_serial.specs.Walks.{AreAwayAlong, IsLentAlong}

lowest-no : (test : ℕ → Bool) (n : ℕ) → ((m : ℕ) → m < n → test m ≡ false) → lowest test n ≡ None
lowest-no test zero h = refl
lowest-no test (suc n) h = rw (lowest-no test n (λ m less. h m (omega arith)), h n (omega arith)) refl

-- the locking node of a node is that of all that stands in it
locking-down : (tree : List Row) → IsBelow tree → (m a : ℕ) → locking_node tree m ≡ Some a → (n : ℕ) → is_under tree m n ≡ true → locking_node tree n ≡ Some a
locking-down tree b m a own =
    along tree b (λ n. is_under tree m n ≡ true → locking_node tree n ≡ Some a)
    (λ u. let wrong : false ≡ true = sym (ap (λ (ns : List ℕ). is_on ns m) (path-root tree)) ∙ u in absurd (cc))
    (λ n pos ih u. elim (true-or-false (n == m)) [
      | inl same ↦ ap (locking_node tree) (eq_from n m same) ∙ own
      | inr other ↦
          let up : is_under tree m (parent tree n) ≡ true = sym (ap (λ (x : Bool). x || is_under tree m (parent tree n)) other) ∙ sym (under-step tree b m n pos) ∙ u in
          ap (outermost (declares tree)) (path-step tree b n pos) ∙ ap (λ (o : Option ℕ). option_or o (cond (declares tree n) (Some n) None)) (ih up)
    ])

module _ (plan : Planned) (world : Start) (t : IsTree (tree_of plan)) where
  abbrev tr : List Row
  tr = tree_of plan

  lockers-same : (m n : ℕ) (o : Option ℕ) → locking_node tr m ≡ o → is_under tr m n ≡ true → lockers_conflict tr o (locking_node tr n) ≡ false
  lockers-same m n None e u = refl
  lockers-same m n (Some a) e u =
      ap (lockers_conflict tr (Some a)) (locking-down tr t.below m a e n u) ∙ ap (λ (b : Bool). not b && conflict tr a a) (eq_same a)

  -- what stands above a node doesn't clash with it: both have one locking node
  no-clash-above : (m n : ℕ) → 0 < n → is_under tr m (parent tr n) ≡ true → clash tr m n ≡ false
  no-clash-above m n pos above =
      let under : is_under tr m n ≡ true = under-step tr t.below m n pos ∙ or-true _ (is_under tr m (parent tr n)) above in
      let apart : conflict tr m n ≡ false = elim (true-or-false (conflict tr m n)) [
        | inl c ↦ absurd (no-conflict plan world t m n pos above c)
        | inr out ↦ out
      ] in
      ap₂ (λ (p q : Bool). p || q) apart (lockers-same m n (locking_node tr m) refl under)

  pub free : (v : VaultView) (n : ℕ) → 0 < n → IsLentAlong plan world (parent tr n) v → busy v n ≡ None
  free v n pos a =
      let test : ℕ → Bool = is_in_the_way (tree_of v.plan) (is_lent v.lent) n in
      lowest-no test (length v.plan.rows)
      (λ m less. elim (true-or-false (test m)) [
        | inl way ↦
            let parts = and-parts (is_lent v.lent m) (conflict (tree_of v.plan) m n) way in
            absurd (no-conflict plan world t m n pos (sym (a.lent.along m) ∙ parts.0) (ap (λ (pl : Planned). conflict (tree_of pl) m n) (sym a.plan_is) ∙ parts.1))
        | inr out ↦ out
      ])

  pub can-lend : (v : VaultView) (u : TrayView) (n : ℕ) → 0 < n → n < length plan.rows → IsLentAlong plan world (parent tr n) v
      → HoldsAlong plan world (parent tr n) u → AreLentAlong plan (parent tr n) u.lent → CanLend n v u
  can-lend v u n pos within a h l =
      let rows : length v.plan.rows ≡ length plan.rows = ap (λ (pl : Planned). length pl.rows) a.plan_is in
      record {
        node = omega arith;
        plan = h.plan_is ∙ sym a.plan_is;
        world = h.world_is ∙ sym a.world_is;
        free = a.lent.along n ∙ not-above tr t.below n pos;
        apart = l.along n ∙ not-above tr t.below n pos;
        beside = λ unused m given. subst (λ (pl : Planned). clash (tree_of pl) m n ≡ false) (sym h.plan_is) (no-clash-above m n pos (sym (l.along m) ∙ given));
      }

  -- what a node doesn't take itself is taken on its path exactly where it is on its parent's
  up : (n i : ℕ) → 0 < n → is_written (locks tr n) i ≡ false → IsWrittenOn tr n i → IsWrittenOn tr (parent tr n) i
  up n i pos apart on =
      let other : on.node ≢ n = λ e. let wrong : true ≡ false = sym on.writes ∙ ap (λ (j : ℕ). is_written (locks tr j) i) e ∙ apart in cc in
      record { node = on.node; above = sym (above-parent tr t.below on.node n pos other) ∙ on.above; writes = on.writes }

  down : (n i : ℕ) → 0 < n → IsWrittenOn tr (parent tr n) i → IsWrittenOn tr n i
  down n i pos on =
      record { node = on.node; above = under-step tr t.below on.node n pos ∙ or-true _ (is_under tr on.node (parent tr n)) on.above; writes = on.writes }

  home-lent : (v : VaultView) (n : ℕ) → 0 < n → IsLentAlong plan world (parent tr n) v → AreAwayAlong plan n (lending n v).home
  home-lent v n pos a =
      let h = a.home in
      let stays : ℕ → Bool = λ j. not (is_written (locks (tree_of v.plan) n) j) && is_home v.home j in
      let here : (i : ℕ) → i < length (keys tr) → is_home (lending n v).home i ≡ (not (is_written (locks tr n) i) && is_home v.home i) = λ i less.
      column-read stays (lending n v).home (length v.home) i false refl (subst (λ (m : ℕ). i < m) (sym h.fits) less)
      ∙ ap (λ (pl : Planned). not (is_written (locks (tree_of pl) n) i) && is_home v.home i) a.plan_is in
      record {
        fits = length-column stays (length v.home) ∙ h.fits;
        away = λ i on. here i (written-within tr on.node i on.writes) ∙ elim (true-or-false (is_written (locks tr n) i)) [
          | inl own ↦ ap (λ (b : Bool). not b && is_home v.home i) own
          | inr apart ↦ ap₂ (λ (b c : Bool). not b && c) apart (h.away i (up n i pos apart on))
        ];
        only = λ i less e. elim (true-or-false (is_written (locks tr n) i)) [
          | inl own ↦ record { node = n; above = under-self tr t.below n pos; writes = own }
          | inr apart ↦
              let gone : is_home v.home i ≡ false = ap (λ (b : Bool). not b && is_home v.home i) (sym apart) ∙ sym (here i less) ∙ e in
              down n i pos (h.only i less gone)
        ];
      }

  home-back : (v : VaultView) (n : ℕ) → 0 < n → IsLentAlong plan world n v → AreAwayAlong plan (parent tr n) (regaining n v).home
  home-back v n pos a =
      let h = a.home in
      let comes : ℕ → Bool = λ j. is_written (locks (tree_of v.plan) n) j || is_home v.home j in
      let here : (i : ℕ) → i < length (keys tr) → is_home (regaining n v).home i ≡ (is_written (locks tr n) i || is_home v.home i) = λ i less.
      column-read comes (regaining n v).home (length v.home) i false refl (subst (λ (m : ℕ). i < m) (sym h.fits) less)
      ∙ ap (λ (pl : Planned). is_written (locks (tree_of pl) n) i || is_home v.home i) a.plan_is in
      record {
        fits = length-column comes (length v.home) ∙ h.fits;
        away = λ i on. here i (written-within tr on.node i on.writes) ∙ elim (true-or-false (is_written (locks tr n) i)) [
          | inl own ↦ absurd (no-clash plan world t n i pos on own)
          | inr apart ↦ ap₂ (λ (b c : Bool). b || c) apart (h.away i (down n i pos on))
        ];
        only = λ i less e.
            let parts = neither (is_written (locks tr n) i) (is_home v.home i) (sym (here i less) ∙ e) in
            up n i pos parts.0 (h.only i less parts.1);
      }

  pub vault-lent : (v : VaultView) (n : ℕ) → 0 < n → n < length plan.rows → IsLentAlong plan world (parent tr n) v → IsLentAlong plan world n (lending n v)
  vault-lent v n pos within a = record { plan_is = a.plan_is; world_is = a.world_is; lent = lent-more plan world t v.lent n pos within a.lent; home = home-lent v n pos a }

  pub vault-back : (v : VaultView) (n : ℕ) → 0 < n → n < length plan.rows → IsLentAlong plan world n v → IsLentAlong plan world (parent tr n) (regaining n v)
  vault-back v n pos within a = record { plan_is = a.plan_is; world_is = a.world_is; lent = lent-less plan world t v.lent n pos within a.lent; home = home-back v n pos a }

  pub can-take-back : (v : VaultView) (u : TrayView) (n : ℕ) → 0 < n → n < length plan.rows → IsLentAlong plan world n v → HoldsAlong plan world n u → is_lent u.lent n ≡ true
      → ((i : ℕ) → is_written (locks tr n) i ≡ true → value_in u.values i ≡ Some (starting_value_in world (key_at tr i))) → CanTakeBack n v u
  can-take-back v u n pos within a h l at_start =
      let rows : length v.plan.rows ≡ length plan.rows = ap (λ (pl : Planned). length pl.rows) a.plan_is in
      let self = under-self tr t.below n pos in
      record {
        node = omega arith;
        plan = h.plan_is ∙ sym a.plan_is;
        world = h.world_is ∙ sym a.world_is;
        lent = a.lent.along n ∙ self;
        holds = l;
        at_start = λ i less e.
            at_start i (ap (λ (pl : Planned). is_written (locks (tree_of pl) n) i) (sym a.plan_is) ∙ e)
            ∙ ap₂ (λ (x : Start) (pl : Planned). Some (starting_value_in x (key_at (tree_of pl) i))) (sym h.world_is) (sym h.plan_is);
      }

-- between two nodes there is one such vault
module _ (plan : Planned) (world : Start) (p : ℕ) where
  same-given : (l m : List Bool) → AreLentAlong plan p l → AreLentAlong plan p m → l ≡ m
  same-given l m a b =
      same_lists l m (a.fits ∙ sym b.fits) (λ i d less.
      let within : i < length m = subst (λ (n : ℕ). i < n) (a.fits ∙ sym b.fits) less in
      get_or_default l i d false less ∙ a.along i ∙ sym (b.along i) ∙ get_or_default m i false d within)

  same-bit : (h k : List Bool) → AreAwayAlong plan p h → AreAwayAlong plan p k → (i : ℕ) → i < length (keys (tree_of plan)) → is_home h i ≡ is_home k i
  same-bit h k a b i less = elim (true-or-false (is_home h i)) [
    | inr gone ↦ gone ∙ sym (b.away i (a.only i less gone))
    | inl here ↦ elim (true-or-false (is_home k i)) [
      | inl also ↦ here ∙ sym also
      | inr lost ↦ a.away i (b.only i less lost) ∙ sym lost
    ]
  ]

  same-home : (h k : List Bool) → AreAwayAlong plan p h → AreAwayAlong plan p k → h ≡ k
  same-home h k a b =
      same_lists h k (a.fits ∙ sym b.fits) (λ i d less.
      let count : i < length (keys (tree_of plan)) = subst (λ (n : ℕ). i < n) a.fits less in
      let within : i < length k = subst (λ (n : ℕ). i < n) (a.fits ∙ sym b.fits) less in
      get_or_default h i d false less ∙ same-bit h k a b i count ∙ get_or_default k i false d within)

  pub same-vault : (v u : VaultView) → IsLentAlong plan world p v → IsLentAlong plan world p u → v ≡ u
  same-vault v u a b =
      ap (λ (pl : Planned). record v { plan = pl }) (a.plan_is ∙ sym b.plan_is)
      ∙ ap (λ (w : Start). record v { plan = u.plan; world = w }) (a.world_is ∙ sym b.world_is)
      ∙ ap (λ (ls : List Bool). record u { lent = ls; home = v.home }) (same-given v.lent u.lent a.lent b.lent)
      ∙ ap (λ (hs : List Bool). record u { home = hs }) (same-home v.home u.home a.home b.home)
