-- What is kept of the nodes that are lent as they come and go, and what clashes with one of them.
use Rattle.std.proofs.Common.{◌≡◌, ◌≢◌, ℕ, zero, suc, ◌+◌, ◌-◌, ◌<◌, ◌≤◌, ◌==◌, List, length, replicate, set, Option, Some, None, Bool, true, false, not, cond, ◌||◌, ◌&&◌, is_some, inl, inr, ap, ap₂, sym, ◌∙◌, subst, arith, refl}
use Rattle.std.proofs.lemmas.Bool.{cases_eq, cases_lt}
use Rattle.std.proofs.lemmas.List.{get_or_past, get_or-replicate, get_or-set_other, get_or-set_same, length-replicate, length-set}
use Rattle.iso_plan.proofs.ConflictLemmas.{lowest-never, lowest-none}
use Rattle.iso_plan.proofs.HeldLemmas.{count-more, count-none, count-small}
use Rattle.iso_plan.proofs.LockLemmas.{locking-le, that-is, that-self}
use Rattle.iso_plan.proofs.PathLemmas.{IsBelow, eq_not, eq_same}
use Rattle.iso_plan.specs.Conflicts.{is_in_the_way, lowest_in_the_way}
use Rattle.iso_plan.specs.HeldNodes.{HeldView, count, holding, none_held, releasing}
use Rattle.iso_plan.specs.Locks.{conflict, is_that, locking_node}
use Rattle.iso_plan.specs.Planned.{Planned}
use Rattle.iso_plan.specs.RowView.{tree_of}
use Rattle.iso_plan.specs.Tree.{Row}
use Rattle.iso_locks.proofs.OwnerLemmas.{lent-within, no-conflict, no-lockers, none-lent, true-or-false}
use Rattle.iso_locks.specs.Clashes.{clash, lockers_conflict}
use Rattle.iso_locks.specs.Lent.{AreApart, IsBeside, KeepsLent, lent_under}
use Rattle.iso_locks.specs.Lockers.{LockersView, has_under, is_kept_out, no_lockers, one_less, one_more, under_it}
use Rattle.iso_locks.specs.Trays.{is_lent}

-- a number that is one at least
some-under : (x : ℕ) → 0 < x → not (x == 0) ≡ true
some-under x h = ap not (eq_not x 0 (λ e. omega arith))

under-some : (x : ℕ) → not (x == 0) ≡ true → 0 < x
under-some zero e = absurd (cc)
under-some (suc x) e = omega arith

-- where no node is lent
pub lent-none : (p : Planned) → KeepsLent p (none_held p) (no_lockers p)
lent-none p =
    let tree = tree_of p in
    record {
      lent_of = refl;
      lockers_of = refl;
      each = length-replicate (length p.rows) false;
      table = length-replicate (length p.rows) 0;
      counts = λ a h.
          get_or-replicate (length p.rows) a 0 0 h
          ∙ sym (count-none (λ m. is_lent (replicate (length p.rows) false) m && is_that (locking_node tree m) a) (length tree)
          (λ m l. ap (λ (b : Bool). b && is_that (locking_node tree m) a) (none-lent (length p.rows) m)));
    }

-- how many lent nodes a node is the locking node of, where one more is lent
under-more : (tree : List Row) (lent : List Bool) (n a : ℕ) → n < length tree → length lent ≡ length tree → is_lent lent n ≡ false
    → lent_under tree (set lent n true) a ≡ lent_under tree lent a + cond (is_that (locking_node tree n) a) 1 0
under-more tree lent n a h fits free =
    let within : n < length lent = omega arith in
    let own : is_lent (set lent n true) n ≡ true = get_or-set_same lent n true false within in
    count-more (λ m. is_lent lent m && is_that (locking_node tree m) a) (λ m. is_lent (set lent n true) m && is_that (locking_node tree m) a) (length tree) n h
    (ap (λ (b : Bool). b && is_that (locking_node tree n) a) free)
    (λ m other. ap (λ (b : Bool). b && is_that (locking_node tree m) a) (sym (get_or-set_other lent n m true false other)))
    ∙ ap (λ (b : Bool). lent_under tree lent a + cond (b && is_that (locking_node tree n) a) 1 0) own

-- where one less is
under-less : (tree : List Row) (lent : List Bool) (n a : ℕ) → n < length tree → length lent ≡ length tree → is_lent lent n ≡ true
    → lent_under tree lent a ≡ lent_under tree (set lent n false) a + cond (is_that (locking_node tree n) a) 1 0
under-less tree lent n a h fits there =
    let within : n < length lent = omega arith in
    let own : is_lent (set lent n false) n ≡ false = get_or-set_same lent n false false within in
    count-more (λ m. is_lent (set lent n false) m && is_that (locking_node tree m) a) (λ m. is_lent lent m && is_that (locking_node tree m) a) (length tree) n h
    (ap (λ (b : Bool). b && is_that (locking_node tree n) a) own)
    (λ m other. ap (λ (b : Bool). b && is_that (locking_node tree m) a) (get_or-set_other lent n m false false other))
    ∙ ap (λ (b : Bool). lent_under tree (set lent n false) a + cond (b && is_that (locking_node tree n) a) 1 0) there

more-at : (under : List ℕ) (b a : ℕ) → b < length under → under_it (set under b (under_it under b + 1)) a ≡ under_it under a + cond (b == a) 1 0
more-at under b a within =
    let next = under_it under b + 1 in
    elim (cases_eq b a) [
      | inl same ↦
          subst (λ (x : ℕ). under_it (set under b next) x ≡ under_it under x + cond (b == x) 1 0) same
          (get_or-set_same under b next 0 within ∙ ap (λ (t : Bool). under_it under b + cond t 1 0) (sym (eq_same b)))
      | inr other ↦
          get_or-set_other under b a next 0 (λ e. other (sym e)) ∙ (let z : under_it under a ≡ under_it under a + 0 = omega arith in z)
          ∙ ap (λ (t : Bool). under_it under a + cond t 1 0) (sym (eq_not b a other))
    ]

less-at : (under : List ℕ) (b a : ℕ) → b < length under → under_it (set under b (under_it under b - 1)) a ≡ under_it under a - cond (b == a) 1 0
less-at under b a within =
    let next = under_it under b - 1 in
    elim (cases_eq b a) [
      | inl same ↦
          subst (λ (x : ℕ). under_it (set under b next) x ≡ under_it under x - cond (b == x) 1 0) same
          (get_or-set_same under b next 0 within ∙ ap (λ (t : Bool). under_it under b - cond t 1 0) (sym (eq_same b)))
      | inr other ↦
          get_or-set_other under b a next 0 (λ e. other (sym e)) ∙ (let z : under_it under a ≡ under_it under a - 0 = omega arith in z)
          ∙ ap (λ (t : Bool). under_it under a - cond t 1 0) (sym (eq_not b a other))
    ]

counted-at : (test : ℕ → Bool) (n m : ℕ) → m < n → test m ≡ true → 0 < count test n
counted-at test zero m h e = absurd (omega arith)
counted-at test (suc n) m h e = elim (cases_eq m n) [
  | inl same ↦
      let one : test n ≡ true = ap test (sym same) ∙ e in
      subst (λ (b : Bool). 0 < count test n + cond b 1 0) (sym one) (omega arith)
  | inr other ↦ let rest = counted-at test n m (omega arith) e in omega arith
]

-- a number that passes a test
record IsPassed (test : ℕ → Bool) : Type 0 where
  pub number : ℕ
  pub passes : test number ≡ true

passed_by : (test : ℕ → Bool) (n : ℕ) (b : Bool) → test n ≡ b → 0 < count test n + cond b 1 0 → (0 < count test n → IsPassed test) → IsPassed test
passed_by test n true e h rest = record { number = n; passes = e }
passed_by test n false e h rest = rest (omega arith)

passed-some : (test : ℕ → Bool) (n : ℕ) → 0 < count test n → IsPassed test
passed-some test zero h = absurd (omega arith)
passed-some test (suc n) h = passed_by test n (test n) refl h (passed-some test n)

first-true : (a b : Bool) → (a && b) ≡ true → a ≡ true
first-true true b e = refl
first-true false b e = absurd (cc)

last-true : (a b : Bool) → (a && b) ≡ true → b ≡ true
last-true true b e = e
last-true false b e = absurd (cc)

last-false : (a b : Bool) → (a && b) ≡ false → a ≡ true → b ≡ false
last-false true b e l = e
last-false false b e l = absurd (cc)

and-false : (a : Bool) → (a && false) ≡ false
and-false true = refl
and-false false = refl

pub none-of : (o : Option ℕ) → is_some o ≡ false → o ≡ None
none-of None e = refl
none-of (Some n) e = absurd (cc)

-- a lent node that a node is the locking node of
record IsLocked (tree : List Row) (lent : List Bool) (a : ℕ) : Type 0 where
  pub node : ℕ
  pub holds : is_lent lent node ≡ true
  pub locker : locking_node tree node ≡ Some a

lockers_by : (tree : List Row) (om on : Option ℕ) → ((b a : ℕ) → om ≡ Some b → on ≡ Some a → b ≢ a → conflict tree b a ≡ false) → lockers_conflict tree om on ≡ false
lockers_by tree None on h = refl
lockers_by tree (Some b) None h = refl
lockers_by tree (Some b) (Some a) h = elim (cases_eq b a) [
  | inl same ↦ ap (λ (t : Bool). not t && conflict tree b a) (ap (λ (x : ℕ). x == a) same ∙ eq_same a)
  | inr other ↦ ap (λ (t : Bool). not (b == a) && t) (h b a refl refl other) ∙ and-false (not (b == a))
]

back : (x y b : ℕ) → x ≡ y + b → x - b ≡ y
back x y b e = omega arith

module _ (p : Planned) (lent : HeldView) (v : LockersView) (k : KeepsLent p lent v) where
  -- the plan is the same
  inside : (n : ℕ) (o : Option ℕ) → locking_node (tree_of p) n ≡ o → locking_node (tree_of lent.plan) n ≡ o
  inside n o e = ap (λ (q : Planned). locking_node (tree_of q) n) k.lent_of ∙ e

  locker-in : (n b : ℕ) → IsBelow (tree_of p) → n < length lent.plan.rows → locking_node (tree_of p) n ≡ Some b → b < length lent.plan.rows
  locker-in n b below known e = let over = locking-le (tree_of p) below b n e in omega arith

  -- a locking node is one of the nodes
  pub locker-known : (n b : ℕ) → IsBelow (tree_of p) → n < length lent.plan.rows → locking_node (tree_of p) n ≡ Some b → b < length v.plan.rows
  locker-known n b below known e = subst (λ (q : Planned). b < length q.rows) (sym k.lockers_of) (locker-in n b below known e)

  -- no more lent nodes have it than there are nodes
  pub locker-few : (n b : ℕ) → IsBelow (tree_of p) → n < length lent.plan.rows → locking_node (tree_of p) n ≡ Some b → under_it v.under b ≤ length v.plan.rows
  locker-few n b below known e =
      let tree = tree_of lent.plan in
      let few = count-small (λ m. is_lent lent.held m && is_that (locking_node tree m) b) (length tree) in
      let is = k.counts b (locker-in n b below known e) in
      let same : length v.plan.rows ≡ length lent.plan.rows = ap (λ (q : Planned). length q.rows) k.lockers_of in
      omega arith

  -- the locking node of a lent node is counted
  counted : (m b : ℕ) → is_lent lent.held m ≡ true → locking_node (tree_of lent.plan) m ≡ Some b → b < length lent.plan.rows → 0 < under_it v.under b
  counted m b held e known =
      let tree = tree_of lent.plan in
      let each = k.each in
      let there = lent-within lent.held m held in
      let within : m < length tree = omega arith in
      let test : ℕ → Bool = λ j. is_lent lent.held j && is_that (locking_node tree j) b in
      let passes : test m ≡ true = ap₂ (λ (x y : Bool). x && y) held (that-self (locking_node tree m) b e) in
      subst (λ (x : ℕ). 0 < x) (sym (k.counts b known)) (counted-at test (length tree) m within passes)

  pub locker-counted : (n b : ℕ) → IsBelow (tree_of p) → n < length lent.plan.rows → is_lent lent.held n ≡ true → locking_node (tree_of p) n ≡ Some b → 0 < under_it v.under b
  locker-counted n b below known held e = counted n b held (inside n (Some b) e) (locker-in n b below known e)

  -- a node is lent that has a locking node
  pub lent-more : (n b : ℕ) → IsBelow (tree_of p) → n < length lent.plan.rows → is_lent lent.held n ≡ false → locking_node (tree_of p) n ≡ Some b → KeepsLent p (holding n lent) (one_more b v)
  lent-more n b below known free e =
      let tree = tree_of lent.plan in
      let table = k.table in
      let there = locker-in n b below known e in
      record {
        lent_of = k.lent_of;
        lockers_of = k.lockers_of;
        each = length-set lent.held n true ∙ k.each;
        table = length-set v.under b (under_it v.under b + 1) ∙ k.table;
        counts = λ a h.
            more-at v.under b a (omega arith) ∙ ap (λ (x : ℕ). x + cond (b == a) 1 0) (k.counts a h)
            ∙ ap (λ (o : Option ℕ). lent_under tree lent.held a + cond (is_that o a) 1 0) (sym (inside n (Some b) e)) ∙ sym (under-more tree lent.held n a known k.each free);
      }

  -- one that has none
  pub lent-alone : (n : ℕ) → n < length lent.plan.rows → is_lent lent.held n ≡ false → locking_node (tree_of p) n ≡ None → KeepsLent p (holding n lent) v
  lent-alone n known free e =
      let tree = tree_of lent.plan in
      record {
        lent_of = k.lent_of;
        lockers_of = k.lockers_of;
        each = length-set lent.held n true ∙ k.each;
        table = k.table;
        counts = λ a h.
            k.counts a h ∙ (let z : lent_under tree lent.held a ≡ lent_under tree lent.held a + 0 = omega arith in z)
            ∙ ap (λ (o : Option ℕ). lent_under tree lent.held a + cond (is_that o a) 1 0) (sym (inside n None e)) ∙ sym (under-more tree lent.held n a known k.each free);
      }

  -- a node is taken back that has a locking node
  pub lent-less : (n b : ℕ) → IsBelow (tree_of p) → n < length lent.plan.rows → is_lent lent.held n ≡ true → locking_node (tree_of p) n ≡ Some b → KeepsLent p (releasing n lent) (one_less b v)
  lent-less n b below known holds e =
      let tree = tree_of lent.plan in
      let table = k.table in
      let there = locker-in n b below known e in
      record {
        lent_of = k.lent_of;
        lockers_of = k.lockers_of;
        each = length-set lent.held n false ∙ k.each;
        table = length-set v.under b (under_it v.under b - 1) ∙ k.table;
        counts = λ a h.
            less-at v.under b a (omega arith) ∙ ap (λ (o : Option ℕ). under_it v.under a - cond (is_that o a) 1 0) (sym (inside n (Some b) e))
            ∙ back (under_it v.under a) (lent_under tree (set lent.held n false) a) (cond (is_that (locking_node tree n) a) 1 0)
            (k.counts a h ∙ under-less tree lent.held n a known k.each holds);
      }

  -- one that has none
  pub less-alone : (n : ℕ) → n < length lent.plan.rows → is_lent lent.held n ≡ true → locking_node (tree_of p) n ≡ None → KeepsLent p (releasing n lent) v
  less-alone n known holds e =
      let tree = tree_of lent.plan in
      record {
        lent_of = k.lent_of;
        lockers_of = k.lockers_of;
        each = length-set lent.held n false ∙ k.each;
        table = k.table;
        counts = λ a h.
            k.counts a h ∙ under-less tree lent.held n a known k.each holds
            ∙ ap (λ (o : Option ℕ). lent_under tree (set lent.held n false) a + cond (is_that o a) 1 0) (inside n None e)
            ∙ (let z : lent_under tree (set lent.held n false) a + 0 ≡ lent_under tree (set lent.held n false) a = omega arith in z);
      }

  -- a node that is counted is the locking node of a lent one
  locked : (a : ℕ) → a < length lent.plan.rows → has_under v.under a ≡ true → IsLocked (tree_of lent.plan) lent.held a
  locked a known has =
      let tree = tree_of lent.plan in
      let test : ℕ → Bool = λ j. is_lent lent.held j && is_that (locking_node tree j) a in
      let some = passed-some test (length tree) (subst (λ (x : ℕ). 0 < x) (k.counts a known) (under-some (under_it v.under a) has)) in
      let m = some.number in
      record {
        node = m;
        holds = first-true (is_lent lent.held m) (is_that (locking_node tree m) a) some.passes;
        locker = that-is (locking_node tree m) a (last-true (is_lent lent.held m) (is_that (locking_node tree m) a) some.passes);
      }

  -- none that is lent is in the way of a node that clashes with none
  pub free-of : (n : ℕ) → IsBeside (tree_of lent.plan) lent.held n → is_some (lowest_in_the_way (tree_of lent.plan) (is_lent lent.held) n) ≡ false
  free-of n beside =
      let tree = tree_of lent.plan in
      let never : (m : ℕ) → is_in_the_way tree (is_lent lent.held) n m ≡ false =
      λ m. elim (true-or-false (is_lent lent.held m)) [
        | inl held ↦ ap₂ (λ (x y : Bool). x && y) held (no-conflict tree m n (beside m held))
        | inr gone ↦ ap (λ (x : Bool). x && conflict tree m n) gone
      ] in
      ap is_some (lowest-never (is_in_the_way tree (is_lent lent.held) n) never (length tree))

  -- locking nodes that differ don't conflict where nodes that have them don't clash
  locker-free : (b a m n : ℕ) → b ≢ a → locking_node (tree_of lent.plan) m ≡ Some b
      → locking_node (tree_of lent.plan) n ≡ Some a → clash (tree_of lent.plan) m n ≡ false → conflict (tree_of lent.plan) b a ≡ false
  locker-free b a m n other eb ea none =
      let tree = tree_of lent.plan in
      let both : (not (b == a) && conflict tree b a) ≡ false = sym (ap₂ (lockers_conflict tree) eb ea) ∙ no-lockers tree m n none in
      last-false (not (b == a)) (conflict tree b a) both (ap not (eq_not b a other))

  -- a locking node is kept out by none, where a node that has it clashes with no lent one
  pub kept-in : (n a : ℕ) → locking_node (tree_of p) n ≡ Some a → IsBeside (tree_of lent.plan) lent.held n → is_kept_out v a ≡ false
  kept-in n a is beside =
      let tree = tree_of lent.plan in
      let e = inside n (Some a) is in
      let free : has_under v.under a ≡ false → (b : ℕ) → is_in_the_way tree (has_under v.under) a b ≡ false =
      λ gone b. elim (true-or-false (has_under v.under b)) [
        | inl has ↦ elim (cases_lt b (length v.under)) [
          | inl within ↦
              let table = k.table in
              let w = locked b (omega arith) has in
              let other : b ≢ a = λ same. let wrong : true ≡ false = sym has ∙ ap (has_under v.under) same ∙ gone in cc in
              ap₂ (λ (x y : Bool). x && y) has (locker-free b a w.node n other w.locker e (beside w.node w.holds))
          | inr past ↦ ap (λ (x : ℕ). not (x == 0) && conflict tree b a) (get_or_past v.under b 0 past)
        ]
        | inr none ↦ ap (λ (x : Bool). x && conflict tree b a) none
      ] in
      elim (true-or-false (has_under v.under a)) [
        | inl has ↦ ap (λ (x : Bool). not x && is_some (lowest_in_the_way (tree_of v.plan) (has_under v.under) a)) has
        | inr gone ↦
            ap (λ (q : Planned). not (has_under v.under a) && is_some (lowest_in_the_way (tree_of q) (has_under v.under) a)) k.lockers_of
            ∙ ap (λ (o : Option ℕ). not (has_under v.under a) && is_some o) (lowest-never (is_in_the_way tree (has_under v.under) a) (free gone) (length tree))
            ∙ and-false (not (has_under v.under a))
      ]

  -- a node clashes with no lent one where none conflicts with it, and its locking node is kept out by none
  pub beside-all : (n : ℕ) → IsBelow (tree_of p) → n < length lent.plan.rows → AreApart (tree_of lent.plan) lent.held → is_some (lowest_in_the_way (tree_of lent.plan) (is_lent lent.held) n) ≡ false
      → ((a : ℕ) → locking_node (tree_of p) n ≡ Some a → is_kept_out v a ≡ false) → IsBeside (tree_of lent.plan) lent.held n
  beside-all n under known apart free kept m held =
      let tree = tree_of lent.plan in
      let below : IsBelow tree = subst (λ (q : Planned). IsBelow (tree_of q)) (sym k.lent_of) under in
      let each = k.each in
      let there = lent-within lent.held m held in
      let within : m < length tree = omega arith in
      let none = none-of (lowest_in_the_way tree (is_lent lent.held) n) free in
      let one : conflict tree m n ≡ false =
      last-false (is_lent lent.held m) (conflict tree m n) (lowest-none (is_in_the_way tree (is_lent lent.held) n) (length tree) m none within) held in
      let two : lockers_conflict tree (locking_node tree m) (locking_node tree n) ≡ false =
      lockers_by tree (locking_node tree m) (locking_node tree n)
      (λ b a eb ea other.
      let over = locking-le tree below b m eb in
      let above = locking-le tree below a n ea in
      let b_within : b < length tree = omega arith in
      elim (true-or-false (has_under v.under a)) [
        | inl has ↦
            let w = locked a (omega arith) has in
            let differ : m ≢ w.node = λ same. let wrong : Some b ≡ Some a = sym eb ∙ ap (locking_node tree) same ∙ w.locker in other (cc) in
            locker-free b a m w.node other eb w.locker (apart m w.node differ held w.holds)
        | inr gone ↦
            let is : locking_node (tree_of p) n ≡ Some a = ap (λ (q : Planned). locking_node (tree_of q) n) (sym k.lent_of) ∙ ea in
            let out : is_some (lowest_in_the_way tree (has_under v.under) a) ≡ false =
            ap (λ (q : Planned). is_some (lowest_in_the_way (tree_of q) (has_under v.under) a)) (sym k.lockers_of)
            ∙ last-false (not (has_under v.under a)) (is_some (lowest_in_the_way (tree_of v.plan) (has_under v.under) a)) (kept a is) (ap not gone) in
            let nobody = none-of (lowest_in_the_way tree (has_under v.under) a) out in
            let some : has_under v.under b ≡ true = some-under (under_it v.under b) (counted m b held eb b_within) in
            last-false (has_under v.under b) (conflict tree b a) (lowest-none (is_in_the_way tree (has_under v.under) a) (length tree) b nobody b_within) some
      ]) in
      ap₂ (λ (x y : Bool). x || y) one two
