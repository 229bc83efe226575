-- Pairs whose keys rise: where a key stands among them, and what a pair more makes of them.
use Rattle.std.proofs.Common.{inl, inr, ◌≡◌, ℕ, zero, suc, ◌<◌, List, [], ◌∷◌, ◌++◌, length, take, drop, slice_index_or, slice_set, Option, Some, None, Result, Ok, Err, true, false, cond, bytes_eq, refl, sym, ap, subst, ◌∙◌, add-one, arith}
use Rattle.std.proofs.lemmas.Bool.{cases_Bool}
use Rattle.std.proofs.lemmas.Cmp.{nat_list_cmp_total}
use Rattle.std.proofs.lemmas.List.Sorted.{searchable_from_sorted}
use Rattle.std.proofs.lemmas.Map.Text.{is_eq-slice_cmp}
use Rattle.std.proofs.lemmas.Slice.Eq.{bytes_eq-Decides}
use Rattle.std.specs.Cmp.Lexicographic.{slice_cmp}
use Rattle.std.specs.List.{AllWithin}
use Rattle.std.specs.List.Sorted.{IsBinarySearchResult, IsNonDecreasingBy, IsSearchInRange}
use Rattle.std.specs.Ordering.{nat_cmp, is_eq, is_lt, ordering_index, ordering_reverse}
use Rattle.std.specs.declared.cmp.Ordering.{Ordering}
use Rattle.std.specs.declared.cmp.Ordering.TheVariants.{Less, Equal, Greater}
use Rattle.iso_model.specs.KeyMaps.{Follow, IsPlace, Rise, value_in}

abbrev order : List ℕ → List ℕ → Ordering
order = slice_cmp nat_cmp

pub back : (a b : List ℕ) → order a b ≡ ordering_reverse (order b a)
back a b = nat_list_cmp_total.antisymm a b

pub same_key : (a b : List ℕ) → order a b ≡ Equal → a ≡ b
same_key a b h = (bytes_eq-Decides a b).0 (sym (is_eq-slice_cmp a b) ∙ ap is_eq h)

is_itself : (a : List ℕ) → bytes_eq a a ≡ true
is_itself a = (bytes_eq-Decides a a).1 refl

not_less : (a b : List ℕ) → order a b ≡ Less → bytes_eq b a ≡ false
not_less a b h = sym (is_eq-slice_cmp b a) ∙ ap is_eq (back b a ∙ ap ordering_reverse h)

not_greater : (a b : List ℕ) → order a b ≡ Greater → bytes_eq b a ≡ false
not_greater a b h = sym (is_eq-slice_cmp b a) ∙ ap is_eq (back b a ∙ ap ordering_reverse h)

abbrev pub Pairs : Type 0 → Type 0
Pairs V = List (List ℕ × V)

follow-at : {V : Type 0} (k : List ℕ) (es : Pairs V) (j : ℕ) (d : List ℕ × V) → Follow k es → j < length es → order k (slice_index_or es j d).0 ≡ Less
follow-at k [] j d f h = absurd (omega arith)
follow-at k (e ∷ es) zero d f h = f.0
follow-at k (e ∷ es) (suc j) d f h = follow-at k es j d f.1 (omega arith)

rise-at : {V : Type 0} (es : Pairs V) (i : ℕ) (d : List ℕ × V) → Rise es → suc i < length es → order (slice_index_or es i d).0 (slice_index_or es (suc i) d).0 ≡ Less
rise-at [] i d r h = absurd (omega arith)
rise-at (e ∷ es) zero d r h = follow-at e.0 es 0 d r.0 (omega arith)
rise-at (e ∷ es) (suc i) d r h = rise-at es i d r.1 (omega arith)

-- a binary search can look for a key among pairs whose keys rise
pub searchable : {V : Type 0} (es : Pairs V) (k : List ℕ) → Rise es → IsNonDecreasingBy (λ (e : List ℕ × V). ordering_index (order e.0 k)) es
searchable {V} es k r =
    searchable_from_sorted nat_list_cmp_total (λ (e : List ℕ × V). e.0) es k
    (λ i d low high. rw add-one (ap is_lt (back (slice_index_or es (suc i) d).0 (slice_index_or es i d).0 ∙ ap ordering_reverse (rise-at es i d r (omega arith)))))

-- what the search answers is the key's place
pub place : {V : Type 0} (es : Pairs V) (k : List ℕ) (r : Result ℕ ℕ) → Rise es → IsSearchInRange r (length es) → IsBinarySearchResult (λ (e : List ℕ × V). order e.0 k) es r → IsPlace es k r
place es k (Ok i) rise inside at = (inside, at)
place es k (Err i) rise inside at = (inside, at (searchable es k rise))

-- the value at the place of a key is the key's
pub value-found : {V : Type 0} (es : Pairs V) (i : ℕ) (k : List ℕ) (d : List ℕ × V) → Rise es → i < length es → (slice_index_or es i d).0 ≡ k → value_in es k ≡ Some (slice_index_or es i d).1
value-found [] i k d r h same = absurd (omega arith)
value-found (e ∷ es) zero k d r h same = rw ((bytes_eq-Decides k e.0).1 (sym same)) refl
value-found (e ∷ es) (suc i) k d r h same =
    rw (not_less e.0 k (subst (λ q. order e.0 q ≡ Less) same (follow-at e.0 es i d r.0 (omega arith))))
    (value-found es i k d r.1 (omega arith) same)

abbrev pub Before : {V : Type 0} → Pairs V → List ℕ → ℕ → Type 0
Before {V} es k i = AllWithin (λ (e : List ℕ × V). slice_cmp nat_cmp e.0 k ≡ Less) es 0 i

abbrev pub After : {V : Type 0} → Pairs V → List ℕ → ℕ → Type 0
After {V} es k i = AllWithin (λ (e : List ℕ × V). slice_cmp nat_cmp e.0 k ≡ Greater) es i (length es)

-- a key that would stand between two places has no value
pub value-absent : {V : Type 0} (es : Pairs V) (i : ℕ) (k : List ℕ) → Before es k i → After es k i → value_in es k ≡ None
value-absent [] i k b a = refl
value-absent (e ∷ es) zero k b a =
    rw (not_greater e.0 k (a zero e (omega arith) (omega arith)))
    (value-absent es zero k (λ j d l m. absurd (omega arith)) (λ j d l m. a (suc j) d (omega arith) (omega arith)))
value-absent (e ∷ es) (suc i) k b a =
    rw (not_less e.0 k (b zero e (omega arith) (omega arith)))
    (value-absent es i k (λ j d l m. b (suc j) d (omega arith) (omega arith)) (λ j d l m. a (suc j) d (omega arith) (omega arith)))

-- what two different keys give may be asked in either order
swap : {V : Type 0} (q k p : List ℕ) (a b c : Option V) → bytes_eq k p ≡ false → cond (bytes_eq q p) a (cond (bytes_eq q k) b c) ≡ cond (bytes_eq q k) b (cond (bytes_eq q p) a c)
swap q k p a b c other =
    elim (cases_Bool (bytes_eq q k)) [
      | inl same ↦ let at : q ≡ k = (bytes_eq-Decides q k).0 same in
          let apart : bytes_eq q p ≡ false = ap (λ x. bytes_eq x p) at ∙ other in
          rw (same, apart) refl
      | inr differs ↦ rw differs refl
    ]

-- the value of each key after another value for one that stands there
pub value-set : {V : Type 0} (es : Pairs V) (i : ℕ) (k : List ℕ) (v : V) (d : List ℕ × V) (q : List ℕ) → Rise es → i < length es
    → (slice_index_or es i d).0 ≡ k → value_in (slice_set es i (k, v)) q ≡ cond (bytes_eq q k) (Some v) (value_in es q)
value-set [] i k v d q r h same = absurd (omega arith)
value-set (e ∷ es) zero k v d q r h same =
    elim (cases_Bool (bytes_eq q k)) [
      | inl here ↦ rw here refl
      | inr other ↦ let apart : bytes_eq q e.0 ≡ false = ap (bytes_eq q) same ∙ other in rw (other, apart) refl
    ]
value-set (e ∷ es) (suc i) k v d q r h same =
    ap (cond (bytes_eq q e.0) (Some e.1)) (value-set es i k v d q r.1 (omega arith) same)
    ∙ swap q k e.0 (Some e.1) (Some v) (value_in es q) (not_less e.0 k (subst (λ x. order e.0 x ≡ Less) same (follow-at e.0 es i d r.0 (omega arith))))

-- the value of each key after a key more
pub value-insert : {V : Type 0} (es : Pairs V) (i : ℕ) (k : List ℕ) (v : V) (q : List ℕ) → Before es k i → value_in (take i es ++ (k, v) ∷ drop i es) q ≡ cond (bytes_eq q k) (Some v) (value_in es q)
value-insert es zero k v q b = refl
value-insert [] (suc i) k v q b = refl
value-insert (e ∷ es) (suc i) k v q b =
    ap (cond (bytes_eq q e.0) (Some e.1)) (value-insert es i k v q (λ j d l m. b (suc j) d (omega arith) (omega arith)))
    ∙ swap q k e.0 (Some e.1) (Some v) (value_in es q) (not_less e.0 k (b zero e (omega arith) (omega arith)))

follow-set : {V : Type 0} (p : List ℕ) (es : Pairs V) (i : ℕ) (k : List ℕ) (v : V) (d : List ℕ × V) → i < length es → (slice_index_or es i d).0 ≡ k → Follow p es → Follow p (slice_set es i (k, v))
follow-set p [] i k v d h same f = absurd (omega arith)
follow-set p (e ∷ es) zero k v d h same f = (subst (λ x. order p x ≡ Less) same f.0, f.1)
follow-set p (e ∷ es) (suc i) k v d h same f = (f.0, follow-set p es i k v d (omega arith) same f.1)

-- keys still rise after another value for one
pub rise-set : {V : Type 0} (es : Pairs V) (i : ℕ) (k : List ℕ) (v : V) (d : List ℕ × V) → i < length es → (slice_index_or es i d).0 ≡ k → Rise es → Rise (slice_set es i (k, v))
rise-set [] i k v d h same r = absurd (omega arith)
rise-set (e ∷ es) zero k v d h same r = (subst (λ p. Follow p es) same r.0, r.1)
rise-set (e ∷ es) (suc i) k v d h same r = (follow-set e.0 es i k v d (omega arith) same r.0, rise-set es i k v d (omega arith) same r.1)

follow-all : {V : Type 0} (k : List ℕ) (es : Pairs V) → After es k 0 → Follow k es
follow-all k [] a = tt
follow-all k (e ∷ es) a =
    (back k e.0 ∙ ap ordering_reverse (a zero e (omega arith) (omega arith)), follow-all k es (λ j d l m. a (suc j) d (omega arith) (omega arith)))

follow-insert : {V : Type 0} (p : List ℕ) (es : Pairs V) (i : ℕ) (k : List ℕ) (v : V) → order p k ≡ Less → Follow p es → Follow p (take i es ++ (k, v) ∷ drop i es)
follow-insert p es zero k v less f = (less, f)
follow-insert p [] (suc i) k v less f = (less, f)
follow-insert p (e ∷ es) (suc i) k v less f = (f.0, follow-insert p es i k v less f.1)

-- keys still rise after a key more at its place
pub rise-insert : {V : Type 0} (es : Pairs V) (i : ℕ) (k : List ℕ) (v : V) → Before es k i → After es k i → Rise es → Rise (take i es ++ (k, v) ∷ drop i es)
rise-insert es zero k v b a r = (follow-all k es a, r)
rise-insert [] (suc i) k v b a r = (tt, tt)
rise-insert (e ∷ es) (suc i) k v b a r = (
  follow-insert e.0 es i k v (b zero e (omega arith) (omega arith)) r.0,
  rise-insert es i k v (λ j d l m. b (suc j) d (omega arith) (omega arith)) (λ j d l m. a (suc j) d (omega arith) (omega arith)) r.1,
)
