-- The map of a list of entries answers as a search of the list does.
use Rattle.std.proofs.Common.{◌≡◌, ℕ, List, [], ◌∷◌, Option, Some, None, Bool, cond, length, map, string_bytes, bytes_eq, sym, ap, refl, inl, inr, ◌∙◌}
use Rattle.std.specs.FinMap.{empty, get, insert, remove, get-insert, get-empty, get-remove, same_map, slice_cmp-IsAntisymmetric, nat_cmp-IsAntisymmetric}
use Rattle.std.specs.Ordering.{nat_cmp, is_eq}
use Rattle.std.specs.Cmp.Lexicographic.{slice_cmp}
use Rattle.std.specs.Cmp.{eq_by_cmp_equiv}
use Rattle.std.specs.Map.{lookup}
use Rattle.std.specs.declared.string.String.{String}
use Rattle.std.specs.declared.alloc.Global.{Global}
use Rattle.std.specs.BTreeMap.{BTreeMap, UpdatesBy}
use Rattle.std.specs.Iterator.{Yields}
use Rattle.std.specs.Map.Iter.{TakesFirst}
use Rattle.std.proofs.lemmas.Map.Entries.{lookup_from_place}
use Rattle.std.proofs.lemmas.Map.Iter.{iter_turn}
use Rattle.std.proofs.lemmas.Map.Keys.{IsDistinct-from_sorted}
use Rattle.std.specs.String.{string_cmp, string_cmp_total}
use Rattle.std.proofs.lemmas.Map.Text.{btree_map_updates_text, is_eq-slice_cmp}
use Rattle.std.proofs.lemmas.Slice.Eq.{bytes_eq-Decides}
use Rattle.std.proofs.lemmas.Bool.{cases_Bool}
use Rattle.std.proofs.lemmas.Bool.Decides.{same_from_decides}
use Rattle.std.proofs.lemmas.Cmp.{nat_list_cmp_total}
use Rattle.iso_model.specs.NameMaps.{NameMap, RiseByName, map_of}

-- whether a key of the list is spelled so
abbrev pub is_at : List ℕ → String Global → Bool
is_at q k = is_eq (slice_cmp nat_cmp q (string_bytes k))

pub get-map_of : {V : Type 0} (es : List (String Global × V)) (q : List ℕ) → get (map_of es) q ≡ lookup (is_at q) es
get-map_of [] q = get-empty (slice_cmp nat_cmp) q
get-map_of {V} (e ∷ es) q = get-insert nat_list_cmp_total (map_of es) (string_bytes e.0) e.1 q ∙ ap (λ (o : Option V). cond (is_at q e.0) (Some e.1) o) (get-map_of es q)

-- a `BTreeMap` of these entries
abbrev Entries : Type 0 → Type 0
Entries V = BTreeMap (String Global) V

bytes_eq-sym : (x y : List ℕ) → bytes_eq x y ≡ bytes_eq y x
bytes_eq-sym x y = same_from_decides _ _ (bytes_eq-Decides x y) (λ e. sym ((bytes_eq-Decides y x).0 e), λ e. (bytes_eq-Decides y x).1 (sym e))

tested-both : (q k : List ℕ) → bytes_eq k q ≡ is_eq (slice_cmp nat_cmp q k)
tested-both q k = bytes_eq-sym k q ∙ sym (is_eq-slice_cmp q k)

-- where entries were updated at a name, so was their map
updated : {V : Type 0} (m n : Entries V) (k : List ℕ) (w : Option V) → UpdatesBy string_cmp (λ j. slice_cmp nat_cmp k (string_bytes j)) m n w
    → (q : List ℕ) → get (map_of n.entries) q ≡ cond (is_eq (slice_cmp nat_cmp q k)) w (get (map_of m.entries) q)
updated {V} m n k w updates q =
    get-map_of n.entries q
    ∙ btree_map_updates_text k m n w updates q
    ∙ ap (λ (b : Bool). cond b w (lookup (is_at q) m.entries)) (tested-both q k)
    ∙ ap (λ (o : Option V). cond (is_eq (slice_cmp nat_cmp q k)) w o) (sym (get-map_of m.entries q))

pub same : {V : Type 0} (a b : NameMap V) → ((q : List ℕ) → get a q ≡ get b q) → a ≡ b
same = same_map nat_list_cmp_total (slice_cmp-IsAntisymmetric nat_cmp-IsAntisymmetric)

pub map_of-insert : {V : Type 0} (m n : Entries V) (k : List ℕ) (value : V) → UpdatesBy string_cmp (λ j. slice_cmp nat_cmp k (string_bytes j)) m n (Some value)
    → map_of n.entries ≡ insert (map_of m.entries) k value
map_of-insert m n k value updates = same _ _ (λ q. updated m n k (Some value) updates q ∙ sym (get-insert nat_list_cmp_total (map_of m.entries) k value q))

pub map_of-remove : {V : Type 0} (m n : Entries V) (k : List ℕ) → UpdatesBy string_cmp (λ j. slice_cmp nat_cmp k (string_bytes j)) m n None → map_of n.entries ≡ remove (map_of m.entries) k
map_of-remove m n k updates = same _ _ (λ q. updated m n k None updates q ∙ sym (get-remove nat_list_cmp_total (map_of m.entries) k q))

-- the first answer, or else the other one
abbrev or_else : {V : Type 0} → Option V → Option V → Option V
or_else (Some value) other = Some value
or_else None other = other

-- what a map or else the entries left answer is what all do
abbrev pub Covers : {V : Type 0} → NameMap V → (left : List (String Global × V)) → (all : NameMap V) → Type 0
Covers m left all = (q : List ℕ) → or_else (get m q) (lookup (is_at q) left) ≡ get all q

pub Covers-none : {V : Type 0} (es : List (String Global × V)) → Covers empty es (map_of es)
Covers-none es q = rw (get-empty (slice_cmp nat_cmp) q) (sym (get-map_of es q))

pub Covers-more : {V : Type 0} (m : NameMap V) (e : String Global × V) (left : List (String Global × V)) (all : NameMap V)
    → Covers m (e ∷ left) all → get all (string_bytes e.0) ≡ Some e.1 → Covers (insert m (string_bytes e.0) e.1) left all
Covers-more m e left all covers there q =
    elim (cases_Bool (is_at q e.0)) [
      | inl same ↦
          let here : q ≡ string_bytes e.0 = (bytes_eq-Decides q (string_bytes e.0)).0 (sym (is_eq-slice_cmp q (string_bytes e.0)) ∙ same) in
          rw (get-insert nat_list_cmp_total m (string_bytes e.0) e.1 q, same) (sym there ∙ ap (get all) (sym here))
      | inr other ↦ rw (get-insert nat_list_cmp_total m (string_bytes e.0) e.1 q, other) (rw other at (covers q))
    ]

or_else-None : {V : Type 0} (o : Option V) → or_else o None ≡ o
or_else-None (Some value) = refl
or_else-None None = refl

pub Covers-all : {V : Type 0} (m all : NameMap V) → Covers m [] all → m ≡ all
Covers-all m all covers = same _ _ (λ q. sym (or_else-None (get m q)) ∙ covers q)

-- an item of a walk over entries whose names rise is what their map answers at its name
pub turn : {A V : Type 0} (shows : A → String Global × V) (xs : List A) (s t u : List (String Global × V)) (r : Option A) (x : A)
    → Yields (TakesFirst shows) s xs t → r ≡ Some x → TakesFirst shows t r u → (es : List (String Global × V)) → s ≡ es → RiseByName es
    → (all : NameMap V) → map_of es ≡ all → get all (string_bytes (shows x).0) ≡ Some (shows x).1
turn shows xs s t u r x y is step es start rise all of_all =
    let place = iter_turn shows es xs s t u r start y x is step in
    ap (λ m. get m (string_bytes (shows x).0)) (sym of_all)
    ∙ get-map_of es (string_bytes (shows x).0)
    ∙ lookup_from_place (eq_by_cmp_equiv string_cmp_total) es (length xs) (shows x).0 (shows x).1 (IsDistinct-from_sorted string_cmp (map (λ e. e.0) es) rise) place.1

-- as it stands
abbrev pub itself : {A : Type 0} → A → A
itself e = e

-- what the first map answers at names that are none of those left, the second answers too
abbrev pub IsWithinBut : {V : Type 0} → NameMap V → NameMap V → (left : List (String Global × V)) → Type 0
IsWithinBut {V} a b left = (q : List ℕ) (t : V) → lookup (is_at q) left ≡ None → get a q ≡ Some t → get b q ≡ Some t

pub within-none : {V : Type 0} (es : List (String Global × V)) (a b : NameMap V) → a ≡ map_of es → IsWithinBut a b es
within-none es a b is q t absent there =
    let found : lookup (is_at q) es ≡ Some t = sym (get-map_of es q) ∙ ap (λ m. get m q) (sym is) ∙ there in
    absurd cc

pub within-more : {V : Type 0} (a b : NameMap V) (e : String Global × V) (left : List (String Global × V))
    → IsWithinBut a b (e ∷ left) → get a (string_bytes e.0) ≡ Some e.1 → get b (string_bytes e.0) ≡ Some e.1
    → IsWithinBut a b left
within-more a b e left within in_a in_b q t absent there =
    elim (cases_Bool (is_at q e.0)) [
      | inl same ↦
          let here : q ≡ string_bytes e.0 = (bytes_eq-Decides q (string_bytes e.0)).0 (sym (is_eq-slice_cmp q (string_bytes e.0)) ∙ same) in
          ap (get b) here ∙ in_b ∙ sym in_a ∙ ap (get a) (sym here) ∙ there
      | inr other ↦
          let passed : lookup (is_at q) (e ∷ left) ≡ None = ap (λ (x : Bool). cond x (Some e.1) (lookup (is_at q) left)) other ∙ absent in
          within q t passed there
    ]

-- two answers, where each that is there is the other
answers-same : {V : Type 0} (o p : Option V) → ((t : V) → o ≡ Some t → p ≡ Some t)
    → ((t : V) → p ≡ Some t → o ≡ Some t) → o ≡ p
answers-same (Some t) p there back = sym (there t refl)
answers-same None (Some t) there back = back t refl
answers-same None None there back = refl

-- two maps, where each has the other's values
pub within-both : {V : Type 0} (a b : NameMap V) → ((q : List ℕ) (t : V) → get a q ≡ Some t → get b q ≡ Some t)
    → ((q : List ℕ) (t : V) → get b q ≡ Some t → get a q ≡ Some t) → a ≡ b
within-both a b there back = same a b (λ q. answers-same (get a q) (get b q) (there q) (back q))
