-- Locks by key number conflict where the nodes that take them do.
use Rattle.std.proofs.Common.{◌≡◌, ℕ, zero, suc, ◌+◌, ◌<◌, List, [], ◌∷◌, ◌++◌, length, map, Option, Some, None, Bool, true, false, ◌||◌, ◌&&◌, ◌==◌, cond, get_or, ap, ap₂, inl, inr, ◌-◌, ◌∙◌, sym, arith, add-one, refl}
use Rattle.std.proofs.lemmas.Bool.{cases_eq}
use Rattle.std.specs.List.{list_any}
use Rattle.std.specs.Option.{option_or}
use Rattle.iso_model.specs.Rights.{is_writable}
use Rattle.iso_model.specs.declared.access.Access.{Access}
use Rattle.iso_plan.proofs.PathLemmas.{eq_not, eq_same}
use Rattle.iso_plan.specs.KeyTable.{keys}
use Rattle.iso_plan.specs.Locks.{conflict, exclude, lock_of, locks, locks_from, taken}
use Rattle.iso_plan.specs.Tree.{Row}
use Rattle.iso_plan.specs.declared.lock.Lock.{Lock}
use Rattle.iso_plan.specs.Conflicts.{conflicts, lowest, shares}

or-false : (a : Bool) → (a || false) ≡ a
or-false true = refl
or-false false = refl

or-true : (a b : Bool) → b ≡ true → (a || b) ≡ true
or-true true b e = refl
or-true false b e = e

-- a lock on a key below j is shared with no lock from j on
shares-above : (l : Lock) (j : ℕ) (accesses : List (Option Access)) → l.key < j → shares l (locks_from j accesses) ≡ false
shares-above l j [] h = refl
shares-above l j (None ∷ rest) h = shares-above l (suc j) rest (omega arith)
shares-above l j (Some a ∷ rest) h =
    let apart : (l.key == j) ≡ false = eq_not l.key j (λ same. omega arith) in
    rw apart (shares-above l (suc j) rest (omega arith))

shares-past : (l : Lock) (j : ℕ) (b : Option Access) (ms : List Lock) → j < l.key → shares l (lock_of j b ++ ms) ≡ shares l ms
shares-past l j None ms h = refl
shares-past l j (Some b) ms h = let apart : (l.key == j) ≡ false = eq_not l.key j (λ same. omega arith) in rw apart refl

-- a lock on key j is passed over by locks from a later key on
passed : (j i : ℕ) (accesses : List (Option Access)) (b : Option Access) (ms : List Lock) → j < i → conflicts (locks_from i accesses) (lock_of j b ++ ms) ≡ conflicts (locks_from i accesses) ms
passed j i [] b ms h = refl
passed j i (None ∷ rest) b ms h = passed j (suc i) rest b ms (omega arith)
passed j i (Some a ∷ rest) b ms h =
    ap₂ (λ (p q : Bool). p || q) (shares-past (record { key = i; access = a }) j b ms h) (passed j (suc i) rest b ms (omega arith))

first : (j : ℕ) (a b : Option Access) (ls ms : List Lock) → ((x : Access) → shares (record { key = j; access = x }) ms ≡ false)
    → conflicts ls (lock_of j b ++ ms) ≡ conflicts ls ms → conflicts (lock_of j a ++ ls) (lock_of j b ++ ms) ≡ (exclude a b || conflicts ls ms)
first j None b ls ms above past = past
first j (Some a) None ls ms above past = ap (λ (s : Bool). s || conflicts ls ms) (above a)
first j (Some a) (Some b) ls ms above past =
    let both = is_writable (Some a) || is_writable (Some b) in
    let one : (((j == j) && both) || shares (record { key = j; access = a }) ms) ≡ both = ap₂ (λ (e s : Bool). (e && both) || s) (eq_same j) (above a) ∙ or-false both in
    ap₂ (λ (p q : Bool). p || q) one past

conflicts-by : (j : ℕ) (f g : List ℕ → Option Access) (ks : List (List ℕ)) → conflicts (locks_from j (map f ks)) (locks_from j (map g ks)) ≡ list_any (λ k. exclude (f k) (g k)) ks
conflicts-by j f g [] = refl
conflicts-by j f g (k ∷ ks) =
    first j (f k) (g k) (locks_from (suc j) (map f ks)) (locks_from (suc j) (map g ks)) (λ x. shares-above (record { key = j; access = x }) (suc j) (map g ks) (omega arith))
    (passed j (suc j) (map f ks) (g k) (locks_from (suc j) (map g ks)) (omega arith))
    ∙ ap (λ (b : Bool). exclude (f k) (g k) || b) (conflicts-by (suc j) f g ks)

pub conflicts-is : (tree : List Row) (m n : ℕ) → conflicts (locks tree m) (locks tree n) ≡ conflict tree m n
conflicts-is tree m n = conflicts-by 0 (taken tree m) (taken tree n) (keys tree)

-- no locks conflict with none
conflicts-none : (ls : List Lock) → conflicts ls [] ≡ false
conflicts-none [] = refl
conflicts-none (l ∷ ls) = conflicts-none ls

-- a node that takes no locks conflicts with no node
pub conflict-none : (tree : List Row) (m n : ℕ) → locks tree n ≡ [] → conflict tree m n ≡ false
conflict-none tree m n e = sym (conflicts-is tree m n) ∙ ap (λ (ms : List Lock). conflicts (locks tree m) ms) e ∙ conflicts-none (locks tree m)

-- a key that two nodes take, one of them for READ_WRITE, makes them conflict
pub any-at : (p : List ℕ → Bool) (ks : List (List ℕ)) (i : ℕ) → i < length ks → p (get_or ks i []) ≡ true → list_any p ks ≡ true
any-at p [] i h e = absurd (omega arith)
any-at p (k ∷ ks) zero h e = rw e refl
any-at p (k ∷ ks) (suc i) h e = let rest = any-at p ks i (omega arith) e in or-true (p k) (list_any p ks) rest

none_by : (o : Option ℕ) (b : Bool) (n : ℕ) → option_or o (cond b (Some n) None) ≡ None → (o ≡ None) × (b ≡ false)
none_by None true n e = absurd (cc)
none_by None false n e = (refl, refl)
none_by (Some m) b n e = absurd (cc)

-- where there is no lowest number that passes, none does
pub lowest-none : (test : ℕ → Bool) (n m : ℕ) → lowest test n ≡ None → m < n → test m ≡ false
lowest-none test zero m e h = absurd (omega arith)
lowest-none test (suc n) m e h =
    let parts = none_by (lowest test n) (test n) n e in
    elim (cases_eq m n) [ inl same ↦ ap test same ∙ parts.1 | inr other ↦ lowest-none test n m parts.0 (omega arith) ]

pub lowest-never : (test : ℕ → Bool) → ((m : ℕ) → test m ≡ false) → (n : ℕ) → lowest test n ≡ None
lowest-never test h zero = refl
lowest-never test h (suc n) = rw (lowest-never test h n, h n) refl

pub lowest-here : (test : ℕ → Bool) (n : ℕ) → lowest test n ≡ None → test n ≡ true → lowest test (n + 1) ≡ Some n
lowest-here test n e h = rw (add-one, e, h) refl

pub lowest-pass : (test : ℕ → Bool) (n : ℕ) → lowest test n ≡ None → test n ≡ false → lowest test (n + 1) ≡ None
lowest-pass test n e h = rw (add-one, e, h) refl

some_stays : (test : ℕ → Bool) (n k m : ℕ) → lowest test n ≡ Some m → lowest test (n + k) ≡ Some m
some_stays test n zero m e = ap (lowest test) (let z : n + 0 ≡ n = omega arith in z) ∙ e
some_stays test n (suc k) m e =
    let before = some_stays test n k m e in
    ap (lowest test) (let s : n + suc k ≡ suc (n + k) = omega arith in s) ∙ ap (λ (o : Option ℕ). option_or o (cond (test (n + k)) (Some (n + k)) None)) before

-- the lowest number found stays the lowest of more numbers
pub lowest-stays : (test : ℕ → Bool) (n most m : ℕ) → lowest test n ≡ Some m → n < most + 1 → lowest test most ≡ Some m
lowest-stays test n most m e h = ap (lowest test) (let s : most ≡ n + (most - n) = omega arith in s) ∙ some_stays test n (most - n) m e
