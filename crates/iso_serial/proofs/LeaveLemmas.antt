-- A tray alone, as a node leaves it: what the node may change stands as it stood when the node was lent, and what it takes is gone.
-- Nothing here speaks of vault, results or frames.
use Rattle.std.proofs.Common.{◌≡◌, ◌≢◌, ℕ, ◌<◌, List, length, Option, Some, None, Bool, true, false, cond, is_some, option_map, inl, inr, refl, sym, ap, ap₂, ◌∙◌, arith}
use Rattle.std.proofs.lemmas.List.{get_or_past}
use Rattle.std.specs.Option.{option_or}
use Rattle.iso_locks.proofs.KeyLemmas.{number-of-key, written-within}
use Rattle.iso_locks.proofs.OwnerLemmas.{column-slot, cond-none}
use Rattle.iso_locks.specs.Moves.{is_written}
use Rattle.iso_locks.specs.Onward.{earlier-self}
use Rattle.iso_locks.specs.Slots.{HasLater, slot}
use Rattle.iso_locks.specs.Trays.{GoesOn, TrayView, key_at, marked, may_write, undone}
use Rattle.iso_locks.specs.Vaults.{IsLentTo, giving_back, value_in}
use Rattle.iso_model.specs.Rights.{is_writable}
use Rattle.iso_plan.proofs.ColumnLemmas.{length-column}
use Rattle.iso_plan.proofs.PathLemmas.{under-self}
use Rattle.iso_plan.specs.Locks.{locks}
use Rattle.iso_plan.specs.NodeChains.{node_rights}
use Rattle.iso_plan.specs.Paths.{IsTree, parent}
use Rattle.iso_plan.specs.Planned.{Planned}
use Rattle.iso_plan.specs.RowView.{tree_of}
use Rattle.iso_plan.specs.Tree.{Row}
use Rattle.iso_settings.specs.Worlds.{Start, starting_value_in}
use Rattle.iso_store.specs.Histories.{History}
use Rattle.iso_serial.proofs.ResultLemmas.{above-parent, true-or-false}
use Rattle.iso_serial.proofs.TrayLemmas.{held-of, held-some, held-start, held-same, no-clash, number, or-some, or-some-cases, some-or-none, start-absent, start-taken, write-covered}
use Rattle.iso_serial.specs.OpenedTrays.{HoldsAlong, IsAsOpened, IsWrittenOn, StandsApart, StandsAsOpened, held}

or-none : (o : Option History) → option_or None o ≡ o
or-none (Some h) = refl
or-none None = refl

or-past : (b : Bool) (o p : Option History) → o ≡ None → p ≡ None → option_or (cond b o None) p ≡ None
or-past b o p eo ep = ap₂ (λ (x y : Option History). option_or (cond b x None) y) eo ep ∙ ap (λ (x : Option History). option_or x None) (cond-none b)

-- a tray goes back to what was marked of it for a node, and gives the node back: slot by slot
module _ (plan : Planned) (v w : TrayView) (n : ℕ) (v_plan : v.plan ≡ plan) (w_plan : w.plan ≡ plan) (on : GoesOn v w) where
  abbrev tr : List Row
  tr = tree_of plan

  abbrev marked-back : TrayView
  marked-back = undone (marked v n) w

  abbrev brought-home : TrayView
  brought-home = giving_back n marked-back

  mark-slot : (i : ℕ) → slot (marked v n).values i ≡ cond (may_write tr n i) (slot v.values i) None
  mark-slot i =
      column-slot (λ j. cond (may_write (tree_of v.plan) n j) (slot v.values j) None) (length v.values) i
      (λ past. ap (λ (o : Option History). cond (may_write (tree_of v.plan) n i) o None) (get_or_past v.values i None past) ∙ cond-none (may_write (tree_of v.plan) n i))
      ∙ ap (λ (pl : Planned). cond (may_write (tree_of pl) n i) (slot v.values i) None) v_plan

  pub back-slot : (i : ℕ) → slot marked-back.values i ≡ option_or (cond (may_write tr n i) (slot v.values i) None) (slot w.values i)
  back-slot i =
      column-slot (λ j. option_or (slot (marked v n).values j) (slot w.values j)) (length w.values) i
      (λ past.
      let fits = on.fits in
      let v_past : slot v.values i ≡ None = get_or_past v.values i None (omega arith) in
      ap (λ (o : Option History). option_or o (slot w.values i)) (mark-slot i) ∙ or-past (may_write tr n i) (slot v.values i) (slot w.values i) v_past (get_or_past w.values i None past))
      ∙ ap (λ (o : Option History). option_or o (slot w.values i)) (mark-slot i)

  home-slot : (i : ℕ) → slot brought-home.values i ≡ cond (is_written (locks tr n) i) None (slot marked-back.values i)
  home-slot i =
      column-slot (λ j. cond (is_written (locks (tree_of w.plan) n) j) None (slot marked-back.values j)) (length marked-back.values) i
      (λ past. ap (λ (o : Option History). cond (is_written (locks (tree_of w.plan) n) i) None o) (get_or_past marked-back.values i None past) ∙ cond-none (is_written (locks (tree_of w.plan) n) i))
      ∙ ap (λ (pl : Planned). cond (is_written (locks (tree_of pl) n) i) None (slot marked-back.values i)) w_plan

  pub back-marked : (i : ℕ) (h : History) → may_write tr n i ≡ true → slot v.values i ≡ Some h → slot marked-back.values i ≡ Some h
  back-marked i h may is = back-slot i ∙ ap₂ (λ (b : Bool) (o : Option History). option_or (cond b o None) (slot w.values i)) may is

  pub back-other : (i : ℕ) → may_write tr n i ≡ false → slot marked-back.values i ≡ slot w.values i
  back-other i may = back-slot i ∙ ap (λ (b : Bool). option_or (cond b (slot v.values i) None) (slot w.values i)) may ∙ or-none (slot w.values i)

  pub home-other : (i : ℕ) → is_written (locks tr n) i ≡ false → slot brought-home.values i ≡ slot marked-back.values i
  home-other i e = home-slot i ∙ ap (λ (b : Bool). cond b None (slot marked-back.values i)) e

  pub home-own : (i : ℕ) → is_written (locks tr n) i ≡ true → slot brought-home.values i ≡ None
  home-own i e = home-slot i ∙ ap (λ (b : Bool). cond b None (slot marked-back.values i)) e

-- to v a node was lent, and w is the tray when the node's bodies and all that stands in it are done
module _ (plan : Planned) (world : Start) (t : IsTree (tree_of plan)) (v w : TrayView) (n : ℕ) (pos : 0 < n) (within : n < length plan.rows)
    (sv : StandsAsOpened plan world n (parent (tree_of plan) n) v) (on : GoesOn v w) (aw : StandsApart plan world n w) where
  abbrev p : ℕ
  p = parent (tree_of plan) n

  abbrev hw : HoldsAlong plan world n w
  hw = aw.holds

  abbrev back : TrayView
  back = undone (marked v n) w

  abbrev home : TrayView
  home = giving_back n back

  inside : n < length (tree_of plan)
  inside = within

  as-it-was : (i : ℕ) (h : History) → may_write (tree_of plan) n i ≡ true → slot v.values i ≡ Some h → slot back.values i ≡ Some h
  as-it-was = back-marked plan v w n sv.holds.plan_is hw.plan_is on

  as-it-came : (i : ℕ) → may_write (tree_of plan) n i ≡ false → slot back.values i ≡ slot w.values i
  as-it-came = back-other plan v w n sv.holds.plan_is hw.plan_is on

  stays : (i : ℕ) → is_written (locks (tree_of plan) n) i ≡ false → slot home.values i ≡ slot back.values i
  stays = home-other plan v w n sv.holds.plan_is hw.plan_is on

  goes : (i : ℕ) → is_written (locks (tree_of plan) n) i ≡ true → slot home.values i ≡ None
  goes = home-own plan v w n sv.holds.plan_is hw.plan_is on

  pub back-holds : HoldsAlong plan world n back
  back-holds =
      let is = back-slot plan v w n sv.holds.plan_is hw.plan_is on in
      record {
        plan_is = hw.plan_is;
        world_is = hw.world_is;
        there = λ i a. ap is_some (is i) ∙ or-some (cond (may_write (tree_of plan) n i) (slot v.values i) None) (slot w.values i) (hw.there i a);
        only = λ i s. elim (or-some-cases (may_write (tree_of plan) n i) (slot v.values i) (slot w.values i) (ap is_some (sym (is i)) ∙ s)) [
          | inl x ↦ sv.holds.only i x
          | inr x ↦ hw.only i x
        ];
      }

  back-values : IsAsOpened plan world p back
  back-values k s =
      let num = number plan world t back k s in
      elim (true-or-false (may_write (tree_of plan) n num.at)) [
        | inl may ↦
            let own : is_writable (node_rights (tree_of plan) n k) ≡ true = ap (λ (j : List ℕ). is_writable (node_rights (tree_of plan) n j)) (sym num.key_is) ∙ may in
            let x = held-of (slot v.values num.at) (sv.holds.there num.at (write-covered plan world t n k num.at pos inside own num.is)) in
            let old = held-some plan world t v k num.at x.value num.is x.is in
            held-some plan world t back k num.at x.value num.is (as-it-was num.at x.value may x.is) ∙ sym old ∙ sv.values k (ap is_some old)
        | inr may ↦
            let locked : is_writable (node_rights (tree_of plan) n k) ≡ false = ap (λ (j : List ℕ). is_writable (node_rights (tree_of plan) n j)) (sym num.key_is) ∙ may in
            let same : held plan world back k ≡ held plan world w k = held-same plan world t back w k num.at num.is refl (as-it-came num.at may) in
            same ∙ aw.values k locked (ap is_some (sym same) ∙ s)
      ]

  -- what the node takes for READ_WRITE stands at its start
  pub at-start : (i : ℕ) → is_written (locks (tree_of plan) n) i ≡ true → value_in back.values i ≡ Some (starting_value_in world (key_at (tree_of plan) i))
  at-start i own =
      let k = key_at (tree_of plan) i in
      let is = number-of-key (tree_of plan) i (written-within (tree_of plan) n i own) in
      let on_path : IsWrittenOn (tree_of plan) n i = record { node = n; above = under-self (tree_of plan) t.below n pos; writes = own } in
      let x = held-of (slot back.values i) (back-holds.there i on_path) in
      let now = held-some plan world t back k i x.value is x.is in
      ap (option_map (λ (h : History). h.now)) x.is ∙ sym now ∙ back-values k (ap is_some now) ∙ start-taken plan world t n k i pos inside is own

  -- it is no value of the classes around the node
  not-own : (i : ℕ) → IsWrittenOn (tree_of plan) p i → is_written (locks (tree_of plan) n) i ≡ false
  not-own i a = elim (true-or-false (is_written (locks (tree_of plan) n) i)) [
    | inl own ↦ absurd (no-clash plan world t n i pos a own)
    | inr apart ↦ apart
  ]

  another : (i m : ℕ) → is_written (locks (tree_of plan) m) i ≡ true → is_written (locks (tree_of plan) n) i ≡ false → m ≢ n
  another i m writes apart e = let wrong : true ≡ false = sym writes ∙ ap (λ (j : ℕ). is_written (locks (tree_of plan) j) i) e ∙ apart in cc

  home-only : (i : ℕ) → is_some (slot home.values i) ≡ true → IsWrittenOn (tree_of plan) p i
  home-only i s = elim (true-or-false (is_written (locks (tree_of plan) n) i)) [
    | inl own ↦ let wrong : false ≡ true = sym (ap is_some (goes i own)) ∙ s in absurd (cc)
    | inr apart ↦
        let a = back-holds.only i (ap is_some (sym (stays i apart)) ∙ s) in
        record { node = a.node; above = sym (above-parent (tree_of plan) t.below a.node n pos (another i a.node a.writes apart)) ∙ a.above; writes = a.writes }
  ]

  home-there : (i : ℕ) → IsWrittenOn (tree_of plan) p i → is_some (slot home.values i) ≡ true
  home-there i a =
      let apart = not-own i a in
      ap is_some (stays i apart) ∙ back-holds.there i
      (record { node = a.node; above = above-parent (tree_of plan) t.below a.node n pos (another i a.node a.writes apart) ∙ a.above; writes = a.writes })

  home-holds : HoldsAlong plan world p home
  home-holds = record {
    plan_is = hw.plan_is;
    world_is = hw.world_is;
    there = home-there;
    only = home-only;
  }

  home-values : IsAsOpened plan world p home
  home-values k s =
      let num = number plan world t home k s in
      let less = t.below n pos in
      let up : p < length (tree_of plan) = let i = inside in omega arith in
      elim (true-or-false (is_written (locks (tree_of plan) n) num.at)) [
        | inl own ↦ held-start plan world t home k num.at num.is (goes num.at own) s ∙ sym (start-taken plan world t n k num.at pos inside num.is own)
        | inr apart ↦ elim (some-or-none (slot back.values num.at)) [
          | inl x ↦
              let old = held-some plan world t back k num.at x.value num.is x.is in
              held-some plan world t home k num.at x.value num.is (stays num.at apart ∙ x.is) ∙ sym old ∙ back-values k (ap is_some old)
          | inr none ↦
              let gone = stays num.at apart ∙ none in
              held-start plan world t home k num.at num.is gone s ∙ sym (start-absent plan world t home p k num.at up (t.inner n pos) home-holds num.is gone)
        ]
      ]

  pub home-stands : StandsAsOpened plan world p p home
  home-stands = record { holds = home-holds; values = home-values }

  later-by : (i : ℕ) (h : History) → slot v.values i ≡ Some h → is_written (locks (tree_of plan) n) i ≡ false → HasLater home.values i h
  later-by i h is apart = elim (true-or-false (may_write (tree_of plan) n i)) [
    | inl may ↦ record { now = h; there = stays i apart ∙ as-it-was i h may is; later = earlier-self h }
    | inr may ↦ let x = on.later i h is in record { now = x.now; there = stays i apart ∙ as-it-came i may ∙ x.there; later = x.later }
  ]

  -- what was there before the node was lent was only changed further
  pub home-further : (u : TrayView) → StandsAsOpened plan world p p u → IsLentTo n u v → GoesOn u home
  home-further u su l = record {
    fits = length-column (λ j. cond (is_written (locks (tree_of w.plan) n) j) None (slot back.values j)) (length back.values)
        ∙ length-column (λ j. option_or (slot (marked v n).values j) (slot w.values j)) (length w.values) ∙ on.fits ∙ l.fits;
    only = λ i none. elim (some-or-none (slot home.values i)) [
      | inl x ↦ let wrong : false ≡ true = sym (ap is_some none) ∙ su.holds.there i (home-only i (ap is_some x.is)) in absurd (cc)
      | inr gone ↦ gone
    ];
    later = λ i h is.
        let apart = not-own i (su.holds.only i (ap is_some is)) in
        later-by i h (l.others i (ap (λ (pl : Planned). is_written (locks (tree_of pl) n) i) su.holds.plan_is ∙ apart) ∙ is) apart;
  }
