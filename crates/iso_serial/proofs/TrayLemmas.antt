-- A tray alone, as a node is lent to it and bodies are done over it: what it holds stands as an opening left it.
-- Nothing here speaks of vault, results or frames.
use Rattle.std.proofs.Common.{◌≡◌, ◌≢◌, ℕ, ◌<◌, List, length, set, Option, Some, None, Bool, true, false, cond, is_some, option_map, ◌⊎◌, inl, inr, refl, sym, ap, ap₂, ◌∙◌, subst, arith}
use Rattle.std.proofs.lemmas.Bool.{cases_eq}
use Rattle.std.proofs.lemmas.List.{get_or-set_other, get_or-set_same, length-set}
use Rattle.std.specs.Option.{option_or}
use Rattle.iso_lifecycle.specs.Subjects.{Subject, opening_of, rights_of_subject, subject}
use Rattle.iso_lifecycle.specs.declared.kind.BodyKind.{BodyKind}
use Rattle.iso_lifecycle.specs.declared.kind.BodyKind.TheVariants.{BeforeAll, Test, AfterAll}
use Rattle.iso_locks.proofs.NumberLemmas.{number-spells, number-within}
use Rattle.iso_locks.specs.Moves.{is_written}
use Rattle.iso_locks.specs.Slots.{slot}
use Rattle.iso_locks.specs.Trays.{TrayView, content, has_at, has_value, holds_read, is_lent, is_open, is_read, key_at, number_of, reads, resources, seen, seen_at}
use Rattle.iso_locks.specs.Vaults.{IsLentTo, value_in}
use Rattle.iso_model.specs.ChainAgreement.{EqualAt}
use Rattle.iso_model.specs.Resources.{Resources}
use Rattle.iso_model.specs.Rights.{is_readable, is_writable}
use Rattle.iso_model.specs.declared.access.Access.{Access}
use Rattle.iso_model.specs.declared.access.Access.TheVariants.{Read, Write}
use Rattle.iso_model.specs.Touch.{HasKeys, kind_of_value}
use Rattle.iso_model.specs.declared.resource.Resource.{Resource}
use Rattle.iso_plan.proofs.LawLemmas.{conflict-apart, covered, root-unreadable}
use Rattle.iso_plan.proofs.PathLemmas.{under-le, under-self, under-step}
use Rattle.iso_plan.specs.KeyTable.{keys}
use Rattle.iso_plan.specs.Locks.{conflict, locking_node, locks, taken}
use Rattle.iso_plan.specs.NodeChains.{node_rights}
use Rattle.iso_plan.specs.Paths.{IsTree, is_test, is_under, parent, row_at}
use Rattle.iso_plan.specs.Planned.{Planned}
use Rattle.iso_plan.specs.RowView.{tree_of}
use Rattle.iso_plan.specs.Tree.{Row}
use Rattle.iso_settings.specs.Worlds.{Start, starting_value_in}
use Rattle.iso_store.specs.Histories.{History}
use Rattle.iso_locks.proofs.KeyLemmas.{any-has, has-number, or-true, readable-of, written-conflict, written-is, written-within}
use Rattle.iso_serial.proofs.OpeningLemmas.{IsOpened, opened-apart, opened-whole, opening-kind, opening-start}
use Rattle.iso_serial.proofs.ResultLemmas.{above-parent, not-above, root-or-not, true-or-false}
use Rattle.iso_serial.specs.OpenedTrays.{AreLentAlong, HoldsAlong, IsAsOpened, IsTrayAfter, IsWrittenOn, StandsApart, StandsAsOpened, held}

pub record IsHeld (o : Option History) : Type 0 where
  pub value : History
  pub is : o ≡ Some value

pub held-of : (o : Option History) → is_some o ≡ true → IsHeld o
held-of (Some h) e = record { value = h; is = refl }
held-of None e = absurd (cc)

pub some-or-none : (o : Option History) → IsHeld o ⊎ (o ≡ None)
some-or-none (Some h) = inl (record { value = h; is = refl })
some-or-none None = inr refl

now-of : (o : Option History) (r : Resource) → option_map (λ (h : History). h.now) o ≡ Some r → is_some o ≡ true
now-of (Some h) r e = refl
now-of None r e = absurd (cc)

seen-open : (o : Option History) (s : Resource) → is_some (seen o true s) ≡ true
seen-open (Some h) s = refl
seen-open None s = refl

seen-start : (b : Bool) (s : Resource) → is_some (seen None b s) ≡ true → seen None b s ≡ Some s
seen-start true s e = refl
seen-start false s e = absurd (cc)

pub or-some : (o p : Option History) → is_some p ≡ true → is_some (option_or o p) ≡ true
or-some (Some h) p e = refl
or-some None p e = e

pub or-some-cases : (b : Bool) (o p : Option History) → is_some (option_or (cond b o None) p) ≡ true → (is_some o ≡ true) ⊎ (is_some p ≡ true)
or-some-cases true (Some h) p e = inl refl
or-some-cases true None p e = inr e
or-some-cases false o p e = inr e

read-alone : (a : Option Access) → is_readable a ≡ true → is_writable a ≡ false → is_read a ≡ true
read-alone None r w = absurd (cc)
read-alone (Some Read) r w = refl
read-alone (Some Write) r w = absurd (cc)

unreadable-locked : (a : Option Access) → is_readable a ≡ false → is_writable a ≡ false
unreadable-locked a unread = elim (true-or-false (is_writable a)) [
  | inl may ↦ let wrong : false ≡ true = sym unread ∙ readable-of a may in absurd (cc)
  | inr lock ↦ lock
]

-- what a body does to a tray, it does to it with other frames
pub frames-apart : (plan : Planned) (world : Start) (kind : BodyKind) (n : ℕ) (old new : TrayView) (fs : List Subject)
    → IsTrayAfter plan world kind n (record old { frames = fs }) new → IsTrayAfter plan world kind n old new
frames-apart plan world kind n old new fs d = record {
  plan_is = d.plan_is;
  world_is = d.world_is;
  lent = d.lent;
  onward = record { fits = d.onward.fits; only = d.onward.only; later = d.onward.later };
  after = d.after;
}

module _ (plan : Planned) (world : Start) (t : IsTree (tree_of plan)) where
  abbrev tr : List Row
  tr = tree_of plan

  abbrev left : ℕ → Resources
  left p = (opening_of (subject plan world p)).resources

  abbrev start : List ℕ → Resource
  start k = starting_value_in world k

  pub record Number (k : List ℕ) : Type 0 where
    pub at : ℕ
    pub is : number_of tr k ≡ Some at
    pub within : at < length (keys tr)
    pub key_is : key_at tr at ≡ k

  number-by : (u : TrayView) (k : List ℕ) (o : Option ℕ) → number_of tr k ≡ o → is_some (seen_at tr world u.lent u.values k o) ≡ true → Number k
  number-by u k None e h = absurd (cc)
  number-by u k (Some i) e h = record { at = i; is = e; within = number-within (keys tr) k (length (keys tr)) i e; key_is = number-spells (keys tr) k (length (keys tr)) i e }

  -- a key at which a tray has something has a number
  pub number : (u : TrayView) (k : List ℕ) → is_some (held plan world u k) ≡ true → Number k
  number u k h = number-by u k (number_of tr k) refl h

  pub held-some : (u : TrayView) (k : List ℕ) (i : ℕ) (h : History) → number_of tr k ≡ Some i → slot u.values i ≡ Some h → held plan world u k ≡ Some h.now
  held-some u k i h e s = ap (seen_at tr world u.lent u.values k) e ∙ ap (λ (o : Option History). seen o (is_open tr u.lent k) (start k)) s

  pub held-start : (u : TrayView) (k : List ℕ) (i : ℕ) → number_of tr k ≡ Some i → slot u.values i ≡ None → is_some (held plan world u k) ≡ true → held plan world u k ≡ Some (start k)
  held-start u k i e s h =
      let at : held plan world u k ≡ seen None (is_open tr u.lent k) (start k) = ap (seen_at tr world u.lent u.values k) e ∙ ap (λ (o : Option History). seen o (is_open tr u.lent k) (start k)) s in
      at ∙ seen-start (is_open tr u.lent k) (start k) (ap is_some (sym at) ∙ h)

  -- trays to which the same is lent hold the same at a key whose slots are equal
  pub held-same : (u w : TrayView) (k : List ℕ) (i : ℕ) → number_of tr k ≡ Some i → u.lent ≡ w.lent → slot u.values i ≡ slot w.values i → held plan world u k ≡ held plan world w k
  held-same u w k i e lent same =
      ap (seen_at tr world u.lent u.values k) e ∙ ap₂ (λ (ls : List Bool) (o : Option History). seen o (is_open tr ls k) (start k)) lent same ∙ sym (ap (seen_at tr world w.lent w.values k) e)

  -- a key that a node may change is taken for READ_WRITE on its path
  pub write-covered : (n : ℕ) (k : List ℕ) (i : ℕ) → 0 < n → n < length tr → is_writable (node_rights tr n k) ≡ true → number_of tr k ≡ Some i → IsWrittenOn tr n i
  write-covered n k i pos within w e =
      let c = covered tr t n k pos within (readable-of (node_rights tr n k) w) in
      let num = has-number tr t c.taker k c.reads in
      let whole : Some num.number ≡ Some i = sym num.is ∙ e in
      let same : num.number ≡ i = cc in
      record {
        node = c.taker;
        above = c.above;
        writes = ap (is_written (locks tr c.taker)) (sym same) ∙ written-is tr c.taker num.number num.within ∙ ap (λ (j : List ℕ). is_writable (taken tr c.taker j)) num.key_is ∙ c.writes w;
      }

  write-above : (p : ℕ) (k : List ℕ) (i : ℕ) → p < length tr → is_writable (node_rights tr p k) ≡ true → number_of tr k ≡ Some i → IsWrittenOn tr p i
  write-above p k i within w e = elim (root-or-not p) [
    | inl zeroth ↦
        let none : is_readable (node_rights tr p k) ≡ false = ap (λ (j : ℕ). is_readable (node_rights tr j k)) zeroth ∙ root-unreadable tr t k in
        let wrong : false ≡ true = sym none ∙ readable-of (node_rights tr p k) w in
        absurd (cc)
    | inr pos ↦ write-covered p k i pos within w e
  ]

  -- what stands above a node conflicts with it nowhere
  pub no-conflict : (m n : ℕ) → 0 < n → is_under tr m (parent tr n) ≡ true → conflict tr m n ≡ true → ⊥
  no-conflict m n pos above c =
      let under : is_under tr m n ≡ true = under-step tr t.below m n pos ∙ or-true _ (is_under tr m (parent tr n)) above in
      let same = conflict-apart tr t.below m n c under in
      let le = under-le tr t.below m (parent tr n) above in
      let less = t.below n pos in
      omega arith

  pub no-clash : (n i : ℕ) → 0 < n → IsWrittenOn tr (parent tr n) i → is_written (locks tr n) i ≡ true → ⊥
  no-clash n i pos on w = no-conflict on.node n pos on.above (written-conflict tr on.node n i on.writes w)

  -- what stands at its start in the opening of a node's parent: a key that no node of its path has, and a key that the node takes
  pub start-absent : (u : TrayView) (p : ℕ) (k : List ℕ) (i : ℕ) → p < length tr → is_test (row_at tr p).kind ≡ false
      → HoldsAlong plan world p u → number_of tr k ≡ Some i → slot u.values i ≡ None → left p k ≡ Some (start k)
  start-absent u p k i within e h num none = elim (true-or-false (is_writable (node_rights tr p k))) [
    | inl w ↦ let wrong : false ≡ true = sym (ap is_some none) ∙ h.there i (write-above p k i within w num) in absurd (cc)
    | inr locked ↦ opening-start plan world p k e locked
  ]

  pub start-taken : (n : ℕ) (k : List ℕ) (i : ℕ) → 0 < n → n < length tr → number_of tr k ≡ Some i → is_written (locks tr n) i ≡ true → left (parent tr n) k ≡ Some (start k)
  start-taken n k i pos within num w =
      let less = t.below n pos in
      elim (true-or-false (is_writable (node_rights tr (parent tr n) k))) [
        | inl may ↦ absurd (no-clash n i pos (write-above (parent tr n) k i (omega arith) may num) w)
        | inr locked ↦ opening-start plan world (parent tr n) k (t.inner n pos) locked
      ]

  -- what a lent node's locking node takes for READ alone is open
  open-by : (u : TrayView) (n taker : ℕ) (k : List ℕ) → n < length tr → is_lent u.lent n ≡ true → locking_node tr n ≡ Some taker
      → is_readable (taken tr taker k) ≡ true → is_writable (taken tr taker k) ≡ false → is_open tr u.lent k ≡ true
  open-by u n taker k within lent locking r w =
      any-has u.lent (holds_read tr k) (length tr) n within lent
      (or-true (reads tr (Some n) k) (reads tr (locking_node tr n) k) (ap (λ (o : Option ℕ). reads tr o k) locking ∙ read-alone (taken tr taker k) r w))

  -- what a node may look at is there
  covered-held : (u : TrayView) (n : ℕ) (k : List ℕ) → 0 < n → n < length tr → is_lent u.lent n ≡ true
      → HoldsAlong plan world n u → is_readable (node_rights tr n k) ≡ true → is_some (held plan world u k) ≡ true
  covered-held u n k pos within lent h r =
      let c = covered tr t n k pos within r in
      let num = has-number tr t c.taker k c.reads in
      elim (true-or-false (is_writable (taken tr c.taker k))) [
        | inl w ↦
            let writes : is_written (locks tr c.taker) num.number ≡ true = written-is tr c.taker num.number num.within ∙ ap (λ (j : List ℕ). is_writable (taken tr c.taker j)) num.key_is ∙ w in
            let s = held-of (slot u.values num.number) (h.there num.number (record { node = c.taker; above = c.above; writes = writes })) in
            ap is_some (held-some u k num.number s.value num.is s.is)
        | inr only ↦
            let shown = open-by u n c.taker k within lent c.locks c.reads only in
            ap is_some (ap (seen_at tr world u.lent u.values k) num.is ∙ ap (λ (b : Bool). seen (slot u.values num.number) b (start k)) shown) ∙ seen-open (slot u.values num.number) (start k)
      ]

  content-is : (u : TrayView) (p : ℕ) → HoldsAlong plan world p u → content u ≡ held plan world u
  content-is u p h = ap₂ (λ (pl : Planned) (w : Start). resources (tree_of pl) w u.lent u.values) h.plan_is h.world_is

  -- a body of n finds its keys, as the opening of p has left them
  pub tray-equal : (u : TrayView) (n p : ℕ) → 0 < n → n < length tr → is_lent u.lent n ≡ true
      → StandsAsOpened plan world n p u → EqualAt (rights_of_subject (subject plan world n)) (content u) (left p)
  tray-equal u n p pos within lent s = record {
    same = λ k r. ap (λ (m : Resources). m k) (content-is u n s.holds) ∙ s.values k (covered-held u n k pos within lent s.holds r);
  }

  pub tray-keys : (u : TrayView) (n p : ℕ) → 0 < n → n < length tr → is_lent u.lent n ≡ true
      → StandsAsOpened plan world n p u → HasKeys (rights_of_subject (subject plan world n)) (content u) (has_value u)
  tray-keys u n p pos within lent s = record {
    looks = λ k r. ap (option_map kind_of_value) ((tray-equal u n p pos within lent s).same k r) ∙ opening-kind plan world p k;
    changes = λ k w.
        let h = s.holds in
        let c = covered tr t n k pos within (readable-of (node_rights tr n k) w) in
        let num = has-number tr t c.taker k c.reads in
        ap (λ (pl : Planned). has_at u.values (number_of (tree_of pl) k)) h.plan_is ∙ ap (has_at u.values) num.is ∙ h.there num.number (write-covered n k num.number pos within w num.is);
  }

  -- lending
  pub lent-more : (l : List Bool) (n : ℕ) → 0 < n → n < length plan.rows → AreLentAlong plan (parent tr n) l → AreLentAlong plan n (set l n true)
  lent-more l n pos within a =
      let fits = a.fits in
      record {
        fits = length-set l n true ∙ a.fits;
        along = λ m. elim (cases_eq m n) [
          | inl same ↦ ap (is_lent (set l n true)) same ∙ get_or-set_same l n true false (omega arith) ∙ sym (ap (λ (j : ℕ). is_under tr j n) same ∙ under-self tr t.below n pos)
          | inr other ↦ get_or-set_other l n m true false other ∙ a.along m ∙ sym (above-parent tr t.below m n pos other)
        ];
      }

  pub lent-less : (l : List Bool) (n : ℕ) → 0 < n → n < length plan.rows → AreLentAlong plan n l → AreLentAlong plan (parent tr n) (set l n false)
  lent-less l n pos within a =
      let fits = a.fits in
      record {
        fits = length-set l n false ∙ a.fits;
        along = λ m. elim (cases_eq m n) [
          | inl same ↦ ap (is_lent (set l n false)) same ∙ get_or-set_same l n false false (omega arith) ∙ sym (ap (λ (j : ℕ). is_under tr j (parent tr n)) same ∙ not-above tr t.below n pos)
          | inr other ↦ get_or-set_other l n m false false other ∙ a.along m ∙ above-parent tr t.below m n pos other
        ];
      }

  module _ (u w : TrayView) (n : ℕ) (pos : 0 < n) (within : n < length plan.rows) (st : StandsAsOpened plan world (parent tr n) (parent tr n) u) (l : IsLentTo n u w) where
    abbrev h : HoldsAlong plan world (parent tr n) u
    h = st.holds

    inside : n < length tr
    inside = within

    lent-start : (i : ℕ) → is_written (locks tr n) i ≡ true → value_in w.values i ≡ Some (start (key_at tr i))
    lent-start i e =
        let less : i < length (keys (tree_of u.plan)) = subst (λ (pl : Planned). i < length (keys (tree_of pl))) (sym h.plan_is) (written-within tr n i e) in
        let old : is_written (locks (tree_of u.plan) n) i ≡ true = ap (λ (pl : Planned). is_written (locks (tree_of pl) n) i) h.plan_is ∙ e in
        l.written i less old ∙ ap₂ (λ (x : Start) (pl : Planned). Some (starting_value_in x (key_at (tree_of pl) i))) (l.world ∙ h.world_is) (l.plan ∙ h.plan_is)

    lent-other : (i : ℕ) → is_written (locks tr n) i ≡ false → slot w.values i ≡ slot u.values i
    lent-other i e = l.others i (ap (λ (pl : Planned). is_written (locks (tree_of pl) n) i) h.plan_is ∙ e)

    there-by : (i : ℕ) → (on : IsWrittenOn tr n i) → is_some (slot w.values i) ≡ true
    there-by i on = elim (true-or-false (is_written (locks tr n) i)) [
      | inl own ↦ now-of (slot w.values i) (start (key_at tr i)) (lent-start i own)
      | inr apart ↦
          let other : on.node ≢ n = λ e. let wrong : true ≡ false = sym on.writes ∙ ap (λ (j : ℕ). is_written (locks tr j) i) e ∙ apart in cc in
          ap is_some (lent-other i apart) ∙ h.there i (record { node = on.node; above = sym (above-parent tr t.below on.node n pos other) ∙ on.above; writes = on.writes })
    ]

    only-by : (i : ℕ) → is_some (slot w.values i) ≡ true → IsWrittenOn tr n i
    only-by i s = elim (true-or-false (is_written (locks tr n) i)) [
      | inl own ↦ record { node = n; above = under-self tr t.below n pos; writes = own }
      | inr apart ↦
          let on = h.only i (ap is_some (sym (lent-other i apart)) ∙ s) in
          record { node = on.node; above = under-step tr t.below on.node n pos ∙ or-true _ (is_under tr on.node (parent tr n)) on.above; writes = on.writes }
    ]

    lent-holds : HoldsAlong plan world n w
    lent-holds = record {
      plan_is = l.plan ∙ h.plan_is;
      world_is = l.world ∙ h.world_is;
      there = there-by;
      only = only-by;
    }

    lent-values : IsAsOpened plan world (parent tr n) w
    lent-values k s =
        let num = number w k s in
        let less = t.below n pos in
        let up : parent tr n < length tr = let i = inside in omega arith in
        elim (true-or-false (is_written (locks tr n) num.at)) [
          | inl own ↦
              let value = lent-start num.at own in
              let x = held-of (slot w.values num.at) (now-of (slot w.values num.at) (start (key_at tr num.at)) value) in
              let is : Some x.value.now ≡ Some (start (key_at tr num.at)) = ap (option_map (λ (y : History). y.now)) (sym x.is) ∙ value in
              held-some w k num.at x.value num.is x.is ∙ is ∙ ap (λ (j : List ℕ). Some (start j)) num.key_is ∙ sym (start-taken n k num.at pos inside num.is own)
          | inr apart ↦ elim (some-or-none (slot u.values num.at)) [
            | inl x ↦
                let old = held-some u k num.at x.value num.is x.is in
                held-some w k num.at x.value num.is (lent-other num.at apart ∙ x.is) ∙ sym old ∙ st.values k (ap is_some old)
            | inr none ↦ held-start w k num.at num.is (lent-other num.at apart ∙ none) s ∙ sym (start-absent u (parent tr n) k num.at up (t.inner n pos) h num.is none)
          ]
        ]

    -- a node was lent
    pub lent-stands : StandsAsOpened plan world n (parent tr n) w
    lent-stands = record { holds = lent-holds; values = lent-values }

  -- a body was done over a tray: it holds what it held
  module _ (kind : BodyKind) (n p : ℕ) (u w : TrayView) (st : StandsAsOpened plan world n p u) (d : IsTrayAfter plan world kind n u w) where
    after-holds : HoldsAlong plan world n w
    after-holds =
        let h = st.holds in
        record {
          plan_is = d.plan_is ∙ h.plan_is;
          world_is = d.world_is ∙ h.world_is;
          there = λ i on. let x = held-of (slot u.values i) (h.there i on) in ap is_some (d.onward.later i x.value x.is).there;
          only = λ i s. elim (some-or-none (slot u.values i)) [
            | inl x ↦ h.only i (ap is_some x.is)
            | inr none ↦ let wrong : false ≡ true = sym (ap is_some (d.onward.only i none)) ∙ s in absurd (cc)
          ];
        }

    -- and what its node may not change stands as it stood
    after-locked : (k : List ℕ) → is_writable (node_rights tr n k) ≡ false → is_some (held plan world w k) ≡ true → held plan world w k ≡ left p k
    after-locked k locked s =
        let now = ap (λ (m : Resources). m k) (content-is w n after-holds) in
        let same : held plan world w k ≡ held plan world u k = sym now ∙ d.after.others k locked ∙ ap (λ (m : Resources). m k) (content-is u n st.holds) in
        same ∙ st.values k (ap is_some (sym same) ∙ s)

  -- after a `before_all` all stands as the class's opening leaves it
  pub opened-stands : (u w : TrayView) (n : ℕ) → IsOpened plan world n → StandsAsOpened plan world n (parent tr n) u → IsTrayAfter plan world BeforeAll n u w → StandsAsOpened plan world n n w
  opened-stands u w n is st d =
      let holds = after-holds BeforeAll n (parent tr n) u w st d in
      record {
        holds = holds;
        values = λ k s. elim (true-or-false (is_readable (node_rights tr n k))) [
          | inl r ↦ sym (ap (λ (m : Resources). m k) (content-is w n holds)) ∙ d.after.whole.same k r ∙ ap (λ (m : Resources). m k) (opened-whole plan world n is)
          | inr unread ↦
              let locked = unreadable-locked (node_rights tr n k) unread in
              after-locked BeforeAll n (parent tr n) u w st d k locked s ∙ sym (opened-apart plan world n k is locked)
        ];
      }

  -- after a test, and after an `after_all`, so does each key that the node may not change
  pub tested-apart : (u w : TrayView) (n : ℕ) → StandsAsOpened plan world n (parent tr n) u → IsTrayAfter plan world Test n u w → StandsApart plan world n w
  tested-apart u w n st d = record { holds = after-holds Test n (parent tr n) u w st d; values = after-locked Test n (parent tr n) u w st d }

  pub closed-apart : (u w : TrayView) (n : ℕ) → IsOpened plan world n → StandsAsOpened plan world n n u → IsTrayAfter plan world AfterAll n u w → StandsApart plan world n w
  closed-apart u w n is st d = record {
    holds = after-holds AfterAll n n u w st d;
    values = λ k locked s. after-locked AfterAll n n u w st d k locked s ∙ opened-apart plan world n k is locked;
  }
