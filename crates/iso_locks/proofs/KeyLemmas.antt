-- Keys by their numbers, locks on them, and which keys are open for looking.
use Rattle.std.proofs.Common.{◌≡◌, ℕ, zero, suc, ◌+◌, ◌<◌, ◌≤◌, List, [], ◌∷◌, ◌++◌, length, map, get_or, Option, Some, None, Bool, true, false, ◌||◌, ◌&&◌, ◌==◌, bytes_eq, inl, inr, refl, sym, ap, ap₂, ◌∙◌, arith}
use Rattle.std.proofs.lemmas.Bool.{cases_eq, cases_lt}
use Rattle.std.proofs.lemmas.Cmp.{nat_list_eq_equiv}
use Rattle.std.proofs.lemmas.List.{get_or-map, get_or_past, length-map}
use Rattle.std.proofs.lemmas.Slice.Eq.{bytes_eq-Decides}
use Rattle.std.specs.List.{IsDistinct, list_any}
use Rattle.iso_plan.proofs.ConflictLemmas.{any-at}
use Rattle.iso_locks.specs.Moves.{is_written}
use Rattle.iso_locks.specs.Trays.{any_lent, holds_read, is_lent, is_open, is_read, key_at, number_of}
use Rattle.iso_model.specs.Rights.{is_readable, is_writable}
use Rattle.iso_model.specs.declared.access.Access.{Access}
use Rattle.iso_model.specs.declared.access.Access.TheVariants.{Read, Write}
use Rattle.iso_plan.proofs.KeyLemmas.{distinct-at, keys-distinct}
use Rattle.iso_plan.proofs.LawLemmas.{taken-known}
use Rattle.iso_plan.proofs.PathLemmas.{eq_not, eq_same}
use Rattle.iso_plan.specs.Paths.{IsTree}
use Rattle.iso_plan.specs.KeyNumbers.{number_below}
use Rattle.iso_plan.specs.KeyTable.{keys}
use Rattle.iso_plan.specs.Locks.{conflict, exclude, lock_of, locks, locks_from, taken}
use Rattle.iso_plan.specs.Tree.{Row}
use Rattle.iso_plan.specs.declared.lock.Lock.{Lock}

or-false : (a : Bool) → (a || false) ≡ a
or-false true = refl
or-false false = refl

pub or-true : (a b : Bool) → b ≡ true → (a || b) ≡ true
or-true true b e = refl
or-true false b e = e

pub or-left : (a b : Bool) → a ≡ true → (a || b) ≡ true
or-left a b h = ap (λ (x : Bool). x || b) h

-- locks from a later key on write none before
none-below : (j i : ℕ) (xs : List (Option Access)) → i < j → is_written (locks_from j xs) i ≡ false
none-below j i [] h = refl
none-below j i (None ∷ rest) h = none-below (suc j) i rest (omega arith)
none-below j i (Some a ∷ rest) h =
    let apart : (j == i) ≡ false = eq_not j i (λ same. omega arith) in
    rw apart (none-below (suc j) i rest (omega arith))

first-writes : (j : ℕ) (a : Option Access) (rest : List (Option Access)) → is_written (lock_of j a ++ locks_from (suc j) rest) j ≡ is_writable a
first-writes j None rest = none-below (suc j) j rest (omega arith)
first-writes j (Some a) rest = rw (eq_same j, none-below (suc j) j rest (omega arith)) (or-false (is_writable (Some a)))

past-first : (j i : ℕ) (a : Option Access) (ls : List Lock) → j < i → is_written (lock_of j a ++ ls) i ≡ is_written ls i
past-first j i None ls h = refl
past-first j i (Some a) ls h = let apart : (j == i) ≡ false = eq_not j i (λ same. omega arith) in rw apart refl

written-from : (j n : ℕ) (xs : List (Option Access)) → is_written (locks_from j xs) (j + n) ≡ is_writable (get_or xs n None)
written-from j zero [] = refl
written-from j (suc n) [] = refl
written-from j zero (a ∷ rest) = ap (is_written (locks_from j (a ∷ rest))) (let z : j + 0 ≡ j = omega arith in z) ∙ first-writes j a rest
written-from j (suc n) (a ∷ rest) =
    past-first j (j + suc n) a (locks_from (suc j) rest) (omega arith) ∙ ap (is_written (locks_from (suc j) rest)) (let s : j + suc n ≡ suc j + n = omega arith in s) ∙ written-from (suc j) n rest

written-zero : (tree : List Row) (m i : ℕ) → is_written (locks tree m) i ≡ is_writable (get_or (map (taken tree m) (keys tree)) i None)
written-zero tree m i =
    ap (is_written (locks tree m)) (let z : i ≡ 0 + i = omega arith in z) ∙ written-from 0 i (map (taken tree m) (keys tree))

-- a node takes the key with a number for READ_WRITE where it takes the key so
pub written-is : (tree : List Row) (m i : ℕ) → i < length (keys tree) → is_written (locks tree m) i ≡ is_writable (taken tree m (key_at tree i))
written-is tree m i h =
    written-zero tree m i ∙ ap is_writable (get_or-map (taken tree m) (keys tree) i [] None h)

pub written-within : (tree : List Row) (m i : ℕ) → is_written (locks tree m) i ≡ true → i < length (keys tree)
written-within tree m i w = elim (cases_lt i (length (keys tree))) [
  | inl less ↦ less
  | inr past ↦
      let count = length-map (keys tree) (taken tree m) in
      let beyond : get_or (map (taken tree m) (keys tree)) i None ≡ None = get_or_past (map (taken tree m) (keys tree)) i None (omega arith) in
      let wrong : false ≡ true = sym (written-zero tree m i ∙ ap is_writable beyond) ∙ w in
      absurd (cc)
]

-- the number of a key among keys that differ is its place
number-at : (ks : List (List ℕ)) (n i : ℕ) → IsDistinct bytes_eq ks → i < n → n ≤ length ks → number_below ks (get_or ks i []) n ≡ Some i
number-at ks zero i d less few = absurd (omega arith)
number-at ks (suc n) i d less few = elim (cases_eq i n) [
  | inl same ↦
      let here : bytes_eq (get_or ks i []) (get_or ks n []) ≡ true = ap (λ j. bytes_eq (get_or ks i []) (get_or ks j [])) (sym same) ∙ nat_list_eq_equiv.refl (get_or ks i []) in
      rw here (ap Some (sym same))
  | inr other ↦
      let apart : bytes_eq (get_or ks i []) (get_or ks n []) ≡ false = distinct-at ks i n d (omega arith) (omega arith) ∙ eq_not n i (λ e. other (sym e)) in
      rw apart (number-at ks n i d (omega arith) (omega arith))
]

pub number-of-key : (tree : List Row) (i : ℕ) → i < length (keys tree) → number_of tree (key_at tree i) ≡ Some i
number-of-key tree i h = number-at (keys tree) (length (keys tree)) i (keys-distinct tree) h (omega arith)

-- the number of a key
pub record HasNumber (tree : List Row) (k : List ℕ) : Type 0 where
  pub number : ℕ
  pub within : number < length (keys tree)
  pub key_is : key_at tree number ≡ k
  pub is : number_of tree k ≡ Some number

record IsPlaced (ks : List (List ℕ)) (k : List ℕ) : Type 0 where
  pub place : ℕ
  pub within : place < length ks
  pub equal : k ≡ get_or ks place []

placed_by : (ks : List (List ℕ)) (j k : List ℕ) (t : Bool) → bytes_eq k j ≡ t → (t || list_any (bytes_eq k) ks) ≡ true → (list_any (bytes_eq k) ks ≡ true → IsPlaced ks k) → IsPlaced (j ∷ ks) k
placed_by ks j k true e h ih = record { place = 0; within = omega arith; equal = (bytes_eq-Decides k j).0 e }
placed_by ks j k false e h ih = let p = ih h in let w = p.within in record { place = suc p.place; within = omega arith; equal = p.equal }

placed : (ks : List (List ℕ)) (k : List ℕ) → list_any (bytes_eq k) ks ≡ true → IsPlaced ks k
placed [] k h = absurd (cc)
placed (j ∷ ks) k h = placed_by ks j k (bytes_eq k j) refl h (placed ks k)

pub has-number : (tree : List Row) → IsTree tree → (m : ℕ) (k : List ℕ) → is_readable (taken tree m k) ≡ true → HasNumber tree k
has-number tree t m k r =
    let p = placed (keys tree) k (taken-known tree t m k r) in
    record { number = p.place; within = p.within; key_is = sym p.equal; is = ap (number_of tree) p.equal ∙ number-of-key tree p.place p.within }

pub readable-of : (a : Option Access) → is_writable a ≡ true → is_readable a ≡ true
readable-of None h = h
readable-of (Some a) h = refl

both-write : (a b : Option Access) → is_writable a ≡ true → is_writable b ≡ true → exclude a b ≡ true
both-write None b h g = absurd (cc)
both-write (Some a) None h g = absurd (cc)
both-write (Some a) (Some b) h g = or-left (is_writable (Some a)) (is_writable (Some b)) h

-- nodes that take one key for READ_WRITE conflict
pub written-conflict : (tree : List Row) (m n i : ℕ) → is_written (locks tree m) i ≡ true → is_written (locks tree n) i ≡ true → conflict tree m n ≡ true
written-conflict tree m n i a b =
    let h = written-within tree m i a in
    any-at (λ k. exclude (taken tree m k) (taken tree n k)) (keys tree) i h
    (both-write (taken tree m (key_at tree i)) (taken tree n (key_at tree i)) (sym (written-is tree m i h) ∙ a) (sym (written-is tree n i h) ∙ b))

read-only : (a : Option Access) → is_readable a ≡ true → is_writable a ≡ false → is_read a ≡ true
read-only None r w = absurd (cc)
read-only (Some Read) r w = refl
read-only (Some Write) r w = absurd (cc)

pub any-has : (lent : List Bool) (test : ℕ → Bool) (n m : ℕ) → m < n → is_lent lent m ≡ true → test m ≡ true → any_lent lent test n ≡ true
any-has lent test zero m h l t = absurd (omega arith)
any-has lent test (suc n) m h l t = elim (cases_eq m n) [
  | inl same ↦ or-left (is_lent lent n && test n) (any_lent lent test n) (ap₂ (λ (p q : Bool). p && q) (ap (is_lent lent) (sym same) ∙ l) (ap test (sym same) ∙ t))
  | inr other ↦ or-true (is_lent lent n && test n) (any_lent lent test n) (any-has lent test n m (omega arith) l t)
]

-- a key that a lent node takes for READ is open for looking
pub open-of : (tree : List Row) (lent : List Bool) (m : ℕ) (k : List ℕ) → m < length tree → is_lent lent m ≡ true
    → is_readable (taken tree m k) ≡ true → is_writable (taken tree m k) ≡ false → is_open tree lent k ≡ true
open-of tree lent m k h l r w =
    any-has lent (holds_read tree k) (length tree) m h l (or-left (is_read (taken tree m k)) _ (read-only (taken tree m k) r w))
