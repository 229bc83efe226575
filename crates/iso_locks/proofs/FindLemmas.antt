-- What a node finds in a tray that it is lent to.
use Rattle.std.proofs.Common.{◌≡◌, ℕ, ◌<◌, List, length, Option, Some, None, Bool, true, false, ◌||◌, ◌&&◌, not, cond, bytes_eq, ◌⊎◌, inl, inr, ap, ap₂, sym, subst, ◌∙◌, arith, refl}
use Rattle.std.proofs.lemmas.Bool.{cases_eq}
use Rattle.std.specs.Option.{option_or}
use Rattle.iso_plan.proofs.ConflictLemmas.{any-at}
use Rattle.iso_locks.proofs.KeyLemmas.{HasNumber, any-has, has-number, or-left, readable-of, written-is}
use Rattle.iso_locks.proofs.OwnerLemmas.{no-conflict, no-lockers, none-by}
use Rattle.iso_locks.specs.Clashes.{lockers_conflict}
use Rattle.iso_locks.specs.Owners.{AreOwned}
use Rattle.iso_locks.specs.Slots.{Slots, slot}
use Rattle.iso_locks.specs.Trays.{TrayView, content, has_at, has_value, holds_read, is_lent, is_open, is_read, key_at, reads, seen, seen_at}
use Rattle.iso_model.proofs.RightsLemmas.{strongest-none}
use Rattle.iso_model.specs.ResourceKeys.{global_key}
use Rattle.iso_model.specs.Rights.{is_readable, is_writable, strongest}
use Rattle.iso_model.specs.declared.access.Access.{Access}
use Rattle.iso_model.specs.declared.access.Access.TheVariants.{Read, Write}
use Rattle.iso_plan.proofs.LawLemmas.{takes-by}
use Rattle.iso_plan.proofs.LockLemmas.{that-is}
use Rattle.iso_plan.proofs.PathLemmas.{IsBelow, eq_not}
use Rattle.iso_plan.proofs.TopLemmas.{own-path}
use Rattle.iso_plan.specs.KeyTable.{keys}
use Rattle.iso_plan.specs.Locks.{conflict, declares, exclude, gathered, global_access, holds_isolated, is_locking, is_marked, locking_node, taken}
use Rattle.iso_plan.specs.Paths.{IsTree, is_top, outermost}
use Rattle.iso_plan.specs.RowView.{tree_of}
use Rattle.iso_plan.specs.Tree.{Row}
use Rattle.iso_settings.specs.Worlds.{starting_value_in}
use Rattle.iso_store.specs.Histories.{History}

writes-global : (p h : Bool) → is_writable (cond p (Some (cond h Write Read)) None) ≡ true → h ≡ true
writes-global true true e = refl
writes-global true false e = absurd (cc)
writes-global false h e = absurd (cc)

-- a top-level class that holds an isolated class is its own locking node
isolated-locks : (tree : List Row) → IsBelow tree → (m : ℕ) → is_top tree m ≡ true → holds_isolated tree m ≡ true → locking_node tree m ≡ Some m
isolated-locks tree b m top holds =
    ap (outermost (declares tree)) (own-path tree b m top)
    ∙ ap (λ (d : Bool). option_or None (cond d (Some m) None)) (or-left (holds_isolated tree m) (is_marked tree m) holds)

global-locks : (tree : List Row) → IsBelow tree → (m : ℕ) (k : List ℕ) → is_top tree m ≡ true
    → is_writable (taken tree m k) ≡ true → (own : Bool) → is_locking tree m ≡ own → locking_node tree m ≡ Some m
global-locks tree b m k top w true own = that-is (locking_node tree m) m own
global-locks tree b m k top w false own =
    let alone : taken tree m k ≡ global_access tree m k =
    ap (λ (l : Bool). strongest (global_access tree m k) (cond l (gathered tree m k) None)) own ∙ strongest-none (global_access tree m k) in
    isolated-locks tree b m top (writes-global (is_top tree m && bytes_eq global_key k) (holds_isolated tree m) (sym (ap is_writable alone) ∙ w))

-- a node that takes a key for READ_WRITE is the locking node of its path
pub writer-locks : (tree : List Row) → IsBelow tree → (m : ℕ) (k : List ℕ) → is_writable (taken tree m k) ≡ true → locking_node tree m ≡ Some m
writer-locks tree b m k w = elim (takes-by tree m k (readable-of (taken tree m k) w)) [
  | inl top ↦ global-locks tree b m k top.0 w (is_locking tree m) refl
  | inr locks ↦ that-is (locking_node tree m) m locks.0
]

not-both : (a : Option Access) → is_writable a ≡ true → is_read a ≡ true → ⊥
not-both None w r = cc
not-both (Some Read) w r = cc
not-both (Some Write) w r = cc

excludes-read : (a b : Option Access) → is_writable a ≡ true → is_read b ≡ true → exclude a b ≡ true
excludes-read None b w r = absurd (cc)
excludes-read (Some a) None w r = absurd (cc)
excludes-read (Some a) (Some b) w r = or-left (is_writable (Some a)) (is_writable (Some b)) w

read-readable : (a : Option Access) → is_read a ≡ true → is_readable a ≡ true
read-readable None r = absurd (cc)
read-readable (Some a) r = refl

or-by : (a b : Bool) → (a || b) ≡ true → (a ≡ true) ⊎ (b ≡ true)
or-by true b e = inl refl
or-by false b e = inr e

-- a node that takes a key for READ, and it may be none
record IsReader (tree : List Row) (o : Option ℕ) (k : List ℕ) : Type 0 where
  pub node : ℕ
  pub is : o ≡ Some node
  pub reads : is_read (taken tree node k) ≡ true

reader : (tree : List Row) (o : Option ℕ) (k : List ℕ) → reads tree o k ≡ true → IsReader tree o k
reader tree None k r = absurd (cc)
reader tree (Some n) k r = record { node = n; is = refl; reads = r }

module _ (tree : List Row) (b : IsBelow tree) (lent : List Bool) (values : Slots) (own : AreOwned tree false lent values) (n : ℕ) (k : List ℕ) (l : is_lent lent n ≡ true)
    (num : HasNumber tree k) where
  conflicts : (m j : ℕ) → is_writable (taken tree m k) ≡ true → is_read (taken tree j k) ≡ true → conflict tree m j ≡ true
  conflicts m j w r =
      let here : exclude (taken tree m (key_at tree num.number)) (taken tree j (key_at tree num.number)) ≡ true =
      ap (λ (q : List ℕ). exclude (taken tree m q) (taken tree j q)) num.key_is ∙ excludes-read (taken tree m k) (taken tree j k) w r in
      any-at (λ q. exclude (taken tree m q) (taken tree j q)) (keys tree) num.number num.within here

  own-read : (m : ℕ) → is_lent lent m ≡ true → is_writable (taken tree m k) ≡ true → is_read (taken tree n k) ≡ true → ⊥
  own-read m lm w r = elim (cases_eq m n) [
    | inl same ↦ not-both (taken tree n k) (ap (λ (j : ℕ). is_writable (taken tree j k)) (sym same) ∙ w) r
    | inr other ↦
        let one : conflict tree m n ≡ true = conflicts m n w r in
        let two : conflict tree m n ≡ false = no-conflict tree m n (own.apart m n other lm l) in
        cc
  ]

  locker-read : (m : ℕ) → is_lent lent m ≡ true → is_writable (taken tree m k) ≡ true → IsReader tree (locking_node tree n) k → ⊥
  locker-read m lm w r = elim (cases_eq m r.node) [
    | inl same ↦ not-both (taken tree r.node k) (ap (λ (j : ℕ). is_writable (taken tree j k)) (sym same) ∙ w) r.reads
    | inr other ↦
        let locks : locking_node tree m ≡ Some m = writer-locks tree b m k w in
        elim (cases_eq m n) [
          | inl same ↦
              let whole : Some m ≡ Some r.node = sym locks ∙ ap (locking_node tree) same ∙ r.is in
              let equal : m ≡ r.node = cc in
              other equal
          | inr apart ↦
              let one : lockers_conflict tree (locking_node tree m) (locking_node tree n) ≡ true =
              ap₂ (lockers_conflict tree) locks r.is ∙ ap₂ (λ (p q : Bool). not p && q) (eq_not m r.node other) (conflicts m r.node w r.reads) in
              let two = no-lockers tree m n (own.apart m n apart lm l) in
              cc
        ]
  ]

  -- a key that the node or its locking node takes for READ has no value there
  pub read-absent : holds_read tree k n ≡ true → slot values num.number ≡ None
  read-absent h = none-by (slot values num.number) (λ s.
      let o = own.owned refl num.number s in
      let w : is_writable (taken tree o.node k) ≡ true = ap (λ (q : List ℕ). is_writable (taken tree o.node q)) (sym num.key_is) ∙ sym (written-is tree o.node num.number num.within) ∙ o.writes in
      elim (or-by (is_read (taken tree n k)) (reads tree (locking_node tree n) k) h) [
        | inl mine ↦ own-read o.node o.lent w mine
        | inr locker ↦ locker-read o.node o.lent w (reader tree (locking_node tree n) k locker)
      ])

has-reader : (tree : List Row) → IsTree tree → (n : ℕ) (k : List ℕ) → holds_read tree k n ≡ true → HasNumber tree k
has-reader tree t n k h = elim (or-by (is_read (taken tree n k)) (reads tree (locking_node tree n) k) h) [
  | inl mine ↦ has-number tree t n k (read-readable (taken tree n k) mine)
  | inr locker ↦ let r = reader tree (locking_node tree n) k locker in has-number tree t r.node k (read-readable (taken tree r.node k) r.reads)
]

pub finds-start : (t : TrayView) → IsTree (tree_of t.plan) → length t.lent ≡ length (tree_of t.plan) → AreOwned (tree_of t.plan) t.flat t.lent t.values → t.flat ≡ false → (n : ℕ) (k : List ℕ)
    → n < length t.lent → is_lent t.lent n ≡ true → holds_read (tree_of t.plan) k n ≡ true → content t k ≡ Some (starting_value_in t.world k)
finds-start t is fits own flat n k within l h =
    let tree = tree_of t.plan in
    let num = has-reader tree is n k h in
    let start = starting_value_in t.world k in
    let AreSo : Bool → Type 0 = λ f. AreOwned tree f t.lent t.values in
    let none = read-absent tree is.below t.lent t.values (subst AreSo flat own) n k l num h in
    let shown : is_open tree t.lent k ≡ true = any-has t.lent (holds_read tree k) (length tree) n (omega arith) l h in
    ap (seen_at tree t.world t.lent t.values k) num.is ∙ ap₂ (λ (o : Option History) (s : Bool). seen o s start) none shown

pub finds-value : (t : TrayView) → IsTree (tree_of t.plan) → AreOwned (tree_of t.plan) t.flat t.lent t.values
    → (n : ℕ) (k : List ℕ) → is_lent t.lent n ≡ true → is_writable (taken (tree_of t.plan) n k) ≡ true → has_value t k ≡ true
finds-value t is own n k l w =
    let tree = tree_of t.plan in
    let num = has-number tree is n k (readable-of (taken tree n k) w) in
    ap (has_at t.values) num.is ∙ own.there n num.number l (written-is tree n num.number num.within ∙ ap (λ (q : List ℕ). is_writable (taken tree n q)) num.key_is ∙ w)
