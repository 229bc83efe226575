-- What a tray keeps of the nodes that are lent to it, as nodes come and go and values change.
use Rattle.std.proofs.Common.{◌≡◌, ◌≢◌, ℕ, zero, suc, ◌<◌, ◌≤◌, List, [], ◌∷◌, length, replicate, set, Option, Some, None, Bool, true, false, ◌||◌, ◌&&◌, ◌==◌, not, cond, is_some, ◌⊎◌, inl, inr, ap, ap₂, sym, ◌∙◌, arith, refl}
use Rattle.std.proofs.lemmas.Bool.{cases_eq, cases_lt}
use Rattle.std.proofs.lemmas.List.{get_or_past, get_or-set_other, get_or-set_same}
use Rattle.std.specs.List.{list_any}
use Rattle.std.specs.Option.{option_or}
use Rattle.iso_locks.proofs.KeyLemmas.{written-conflict}
use Rattle.iso_locks.specs.Clashes.{clash, lockers_conflict}
use Rattle.iso_locks.specs.Moves.{is_written, moved_away, moved_here}
use Rattle.iso_locks.specs.Owners.{AreOwned}
use Rattle.iso_locks.specs.Slots.{HasLater, Slots, slot}
use Rattle.iso_locks.specs.Trays.{is_lent, restored}
use Rattle.iso_model.specs.Rights.{is_writable}
use Rattle.iso_model.specs.declared.access.Access.{Access}
use Rattle.iso_plan.proofs.ColumnLemmas.{column-read, length-column}
use Rattle.iso_plan.proofs.PathLemmas.{eq_not}
use Rattle.iso_plan.specs.KeyTable.{keys}
use Rattle.iso_plan.specs.Locks.{conflict, exclude, locking_node, locks, taken}
use Rattle.iso_plan.specs.Paths.{column}
use Rattle.iso_plan.specs.Tree.{Row}
use Rattle.iso_plan.specs.declared.lock.Lock.{Lock}
use Rattle.iso_store.specs.Histories.{History}

pub true-or-false : (b : Bool) → (b ≡ true) ⊎ (b ≡ false)
true-or-false true = inl refl
true-or-false false = inr refl

pub cond-none : (b : Bool) → cond b None None ≡ (let none : Option History = None in none)
cond-none true = refl
cond-none false = refl

-- the slot of a list with a value for each number, which has none past its end
pub column-slot : (f : ℕ → Option History) (n i : ℕ) → (n ≤ i → f i ≡ None) → slot (column f n) i ≡ f i
column-slot f n i past = elim (cases_lt i n) [
  | inl less ↦ column-read f (column f n) n i None refl less
  | inr more ↦ let count = length-column f n in get_or_past (column f n) i None (omega arith) ∙ sym (past more)
]

pub away-slot : (ls : List Lock) (there : Slots) (i : ℕ) → slot (moved_away ls there) i ≡ cond (is_written ls i) None (slot there i)
away-slot ls there i =
    column-slot (λ j. cond (is_written ls j) None (slot there j)) (length there) i
    (λ past. ap (λ (o : Option History). cond (is_written ls i) None o) (get_or_past there i None past) ∙ cond-none (is_written ls i))

pub here-slot : (ls : List Lock) (there here : Slots) (i : ℕ) → length there ≡ length here
    → slot (moved_here ls there here) i ≡ cond (is_written ls i) (option_or (slot there i) (slot here i)) (slot here i)
here-slot ls there here i fits =
    column-slot (λ j. cond (is_written ls j) (option_or (slot there j) (slot here j)) (slot here j)) (length here) i
    (λ past.
    let gone : slot there i ≡ None = get_or_past there i None (omega arith) in
    let none : slot here i ≡ None = get_or_past here i None past in
    ap₂ (λ (a b : Option History). cond (is_written ls i) (option_or a b) b) gone none ∙ cond-none (is_written ls i))

some-first : (o p : Option History) → is_some o ≡ true → is_some (option_or o p) ≡ true
some-first (Some h) p e = refl
some-first None p e = absurd (cc)

left-false : (a b : Bool) → (a || b) ≡ false → a ≡ false
left-false true b e = absurd (cc)
left-false false b e = refl

pub right-false : (a b : Bool) → (a || b) ≡ false → b ≡ false
right-false true b e = absurd (cc)
right-false false b e = e

or-comm : (a b : Bool) → (a || b) ≡ (b || a)
or-comm true true = refl
or-comm true false = refl
or-comm false true = refl
or-comm false false = refl

eq-comm : (m n : ℕ) → (m == n) ≡ (n == m)
eq-comm m n = elim (cases_eq m n) [
  | inl same ↦ ap (λ (j : ℕ). m == j) (sym same) ∙ ap (λ (j : ℕ). j == m) same
  | inr other ↦ eq_not m n other ∙ sym (eq_not n m (λ e. other (sym e)))
]

exclude-comm : (a b : Option Access) → exclude a b ≡ exclude b a
exclude-comm None None = refl
exclude-comm None (Some b) = refl
exclude-comm (Some a) None = refl
exclude-comm (Some a) (Some b) = or-comm (is_writable (Some a)) (is_writable (Some b))

any-comm : (f g : List ℕ → Option Access) (ks : List (List ℕ)) → list_any (λ k. exclude (f k) (g k)) ks ≡ list_any (λ k. exclude (g k) (f k)) ks
any-comm f g [] = refl
any-comm f g (k ∷ ks) = ap₂ (λ (p q : Bool). p || q) (exclude-comm (f k) (g k)) (any-comm f g ks)

conflict-comm : (tree : List Row) (m n : ℕ) → conflict tree m n ≡ conflict tree n m
conflict-comm tree m n = any-comm (taken tree m) (taken tree n) (keys tree)

lockers-comm : (tree : List Row) (a b : Option ℕ) → lockers_conflict tree a b ≡ lockers_conflict tree b a
lockers-comm tree None None = refl
lockers-comm tree None (Some b) = refl
lockers-comm tree (Some a) None = refl
lockers-comm tree (Some a) (Some b) = ap₂ (λ (p q : Bool). not p && q) (eq-comm a b) (conflict-comm tree a b)

pub clash-comm : (tree : List Row) (m n : ℕ) → clash tree m n ≡ clash tree n m
clash-comm tree m n = ap₂ (λ (p q : Bool). p || q) (conflict-comm tree m n) (lockers-comm tree (locking_node tree m) (locking_node tree n))

-- nodes that don't clash don't conflict
pub no-conflict : (tree : List Row) (m n : ℕ) → clash tree m n ≡ false → conflict tree m n ≡ false
no-conflict tree m n e = left-false (conflict tree m n) (lockers_conflict tree (locking_node tree m) (locking_node tree n)) e

-- nor do their locking nodes
pub no-lockers : (tree : List Row) (m n : ℕ) → clash tree m n ≡ false → lockers_conflict tree (locking_node tree m) (locking_node tree n) ≡ false
no-lockers tree m n e = right-false (conflict tree m n) (lockers_conflict tree (locking_node tree m) (locking_node tree n)) e

pub none-lent : (count i : ℕ) → is_lent (replicate count false) i ≡ false
none-lent zero i = refl
none-lent (suc c) zero = refl
none-lent (suc c) (suc i) = none-lent c i

pub none-there : (count i : ℕ) → slot (replicate count None) i ≡ None
none-there zero i = refl
none-there (suc c) zero = refl
none-there (suc c) (suc i) = none-there c i

-- a node that is lent is one of the nodes
pub lent-within : (lent : List Bool) (n : ℕ) → is_lent lent n ≡ true → n < length lent
lent-within lent n e = elim (cases_lt n (length lent)) [
  | inl less ↦ less
  | inr past ↦ let wrong : false ≡ true = sym (get_or_past lent n false past) ∙ e in absurd (cc)
]

pub lent-other : (lent : List Bool) (n m : ℕ) (b : Bool) → m ≢ n → is_lent (set lent n b) m ≡ is_lent lent m
lent-other lent n m b other = get_or-set_other lent n m b false other

pub still-lent : (lent : List Bool) (n m : ℕ) → n < length lent → is_lent lent m ≡ true → is_lent (set lent n true) m ≡ true
still-lent lent n m within e = elim (cases_eq m n) [
  | inl same ↦ ap (is_lent (set lent n true)) same ∙ get_or-set_same lent n true false within
  | inr other ↦ lent-other lent n m true other ∙ e
]

-- where nothing is lent; a flat map alone has values then
pub owned-none : (tree : List Row) (flat : Bool) (count : ℕ) (values : Slots) → (flat ≡ false → (i : ℕ) → slot values i ≡ None) → AreOwned tree flat (replicate count false) values
owned-none tree flat count values empty = record {
  owned = λ f i s. let wrong : false ≡ true = sym (ap is_some (empty f i)) ∙ s in absurd (cc);
  there = λ n i l w. let wrong : false ≡ true = sym (none-lent count n) ∙ l in absurd (cc);
  apart = λ m n other l k. let wrong : false ≡ true = sym (none-lent count m) ∙ l in absurd (cc);
}

-- where the same values are there
pub owned-still : (tree : List Row) (flat : Bool) (lent : List Bool) (values next : Slots)
    → ((i : ℕ) → is_some (slot next i) ≡ is_some (slot values i)) → AreOwned tree flat lent values → AreOwned tree flat lent next
owned-still tree flat lent values next same k = record {
  owned = λ f i s. k.owned f i (sym (same i) ∙ s);
  there = λ n i l w. same i ∙ k.there n i l w;
  apart = k.apart;
}

-- when a node is lent
pub owned-more : (tree : List Row) (flat : Bool) (lent : List Bool) (home values : Slots) (n : ℕ) → n < length lent
    → length home ≡ length values → ((i : ℕ) → is_written (locks tree n) i ≡ true → is_some (slot home i) ≡ true)
    → ((m : ℕ) → is_lent lent m ≡ true → clash tree m n ≡ false) → AreOwned tree flat lent values → AreOwned tree flat (set lent n true) (moved_here (locks tree n) home values)
owned-more tree flat lent home values n within fits there beside k =
    let ls = locks tree n in
    let moved = moved_here ls home values in
    let at : (i : ℕ) (b : Bool) → is_written ls i ≡ b → is_some (slot moved i) ≡ is_some (cond b (option_or (slot home i) (slot values i)) (slot values i)) =
    λ i b e. ap is_some (here-slot ls home values i fits ∙ ap (λ (x : Bool). cond x (option_or (slot home i) (slot values i)) (slot values i)) e) in
    let own : is_lent (set lent n true) n ≡ true = get_or-set_same lent n true false within in
    let old : (m : ℕ) → m ≢ n → is_lent (set lent n true) m ≡ true → is_lent lent m ≡ true = λ m other l. sym (lent-other lent n m true other) ∙ l in
    record {
      owned = λ f i s. elim (true-or-false (is_written ls i)) [
        | inl w ↦ record { node = n; lent = own; writes = w }
        | inr out ↦ let o = k.owned f i (sym (at i false out) ∙ s) in record { node = o.node; lent = still-lent lent n o.node within o.lent; writes = o.writes }
      ];
      there = λ m i l w. elim (true-or-false (is_written ls i)) [
        | inl mine ↦ at i true mine ∙ some-first (slot home i) (slot values i) (there i mine)
        | inr out ↦
            let other : m ≢ n = λ e. let wrong : true ≡ false = sym w ∙ ap (λ (j : ℕ). is_written (locks tree j) i) e ∙ out in cc in
            at i false out ∙ k.there m i (old m other l) w
      ];
      apart = λ p q other lp lq. elim (cases_eq p n) [
        | inl e ↦ ap (λ (j : ℕ). clash tree j q) e ∙ clash-comm tree n q ∙ beside q (old q (λ f. other (e ∙ sym f)) lq)
        | inr pn ↦ elim (cases_eq q n) [
          | inl e ↦ ap (clash tree p) e ∙ beside p (old p pn lp)
          | inr qn ↦ k.apart p q other (old p pn lp) (old q qn lq)
        ]
      ];
    }

-- when a node is taken back
pub owned-less : (tree : List Row) (flat : Bool) (lent : List Bool) (values : Slots) (n : ℕ) → n < length lent → is_lent lent n ≡ true → AreOwned tree flat lent values
    → AreOwned tree flat (set lent n false) (moved_away (locks tree n) values)
owned-less tree flat lent values n within holds k =
    let ls = locks tree n in
    let moved = moved_away ls values in
    let at : (i : ℕ) (b : Bool) → is_written ls i ≡ b → is_some (slot moved i) ≡ is_some (cond b None (slot values i)) =
    λ i b e. ap is_some (away-slot ls values i ∙ ap (λ (x : Bool). cond x None (slot values i)) e) in
    let other : (m : ℕ) → is_lent (set lent n false) m ≡ true → m ≢ n =
    λ m l e. let wrong : false ≡ true = sym (get_or-set_same lent n false false within) ∙ ap (is_lent (set lent n false)) (sym e) ∙ l in cc in
    let old : (m : ℕ) → is_lent (set lent n false) m ≡ true → is_lent lent m ≡ true = λ m l. sym (lent-other lent n m false (other m l)) ∙ l in
    record {
      owned = λ f i s. elim (true-or-false (is_written ls i)) [
        | inl mine ↦ let wrong : false ≡ true = sym (at i true mine) ∙ s in absurd (cc)
        | inr out ↦
            let o = k.owned f i (sym (at i false out) ∙ s) in
            let apart : o.node ≢ n = λ e. let wrong : true ≡ false = sym o.writes ∙ ap (λ (j : ℕ). is_written (locks tree j) i) e ∙ out in cc in
            record { node = o.node; lent = lent-other lent n o.node false apart ∙ o.lent; writes = o.writes }
      ];
      there = λ m i l w. elim (true-or-false (is_written ls i)) [
        | inl mine ↦
            let one : conflict tree m n ≡ true = written-conflict tree m n i w mine in
            let two : conflict tree m n ≡ false = no-conflict tree m n (k.apart m n (other m l) (old m l) holds) in
            absurd (cc)
        | inr out ↦ at i false out ∙ k.there m i (old m l) w
      ];
      apart = λ p q differ lp lq. k.apart p q differ (old p lp) (old q lq);
    }

pub none-by : (o : Option History) → (is_some o ≡ true → ⊥) → o ≡ None
none-by None empty = refl
none-by (Some h) empty = absurd (empty refl)

-- what a node takes for READ_WRITE that clashes with none is not there
pub owned-fresh : (tree : List Row) (lent : List Bool) (values : Slots) (n : ℕ) → AreOwned tree false lent values → ((m : ℕ) → is_lent lent m ≡ true → clash tree m n ≡ false)
    → (i : ℕ) → is_written (locks tree n) i ≡ true → slot values i ≡ None
owned-fresh tree lent values n own beside i w =
    none-by (slot values i)
    (λ s.
    let o = own.owned refl i s in
    let one : conflict tree o.node n ≡ true = written-conflict tree o.node n i o.writes w in
    let two : conflict tree o.node n ≡ false = no-conflict tree o.node n (beside o.node o.lent) in
    cc)

restored-some : (o p : Option History) → ((h : History) → o ≡ Some h → is_some p ≡ true) → is_some (option_or o p) ≡ is_some p
restored-some None p there = refl
restored-some (Some h) p there = sym (there h refl)

-- going back to marks leaves the same values there
pub restored-there : (marks values : Slots) → length marks ≡ length values → ((i : ℕ) (h : History) → slot marks i ≡ Some h → HasLater values i h)
    → (i : ℕ) → is_some (slot (restored marks values) i) ≡ is_some (slot values i)
restored-there marks values fits later i =
    ap is_some (column-slot (λ j. option_or (slot marks j) (slot values j)) (length values) i
    (λ past.
    let gone : slot marks i ≡ None = get_or_past marks i None (omega arith) in
    ap₂ (λ (a b : Option History). option_or a b) gone (get_or_past values i None past)))
    ∙ restored-some (slot marks i) (slot values i) (λ h e. ap is_some (later i h e).there)
