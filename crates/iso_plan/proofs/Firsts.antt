-- Keys that are inserted one after the other are the first of each.
use Rattle.std.proofs.Common.{◌≡◌, ℕ, List, [], ◌∷◌, ◌++◌, Bool, true, false, ◌||◌, ◌&&◌, cond, filter, not, refl, sym, ap, ◌∙◌, append_assoc, append-nil, bytes_eq}
use Rattle.std.proofs.lemmas.Cmp.{nat_list_eq_equiv}
use Rattle.std.proofs.lemmas.List.Elements.{filter_agree}
use Rattle.std.proofs.lemmas.List.Folds.{list_any-append}
use Rattle.std.specs.Bool.{if◌then◌else◌}
use Rattle.std.specs.Cmp.Lexicographic.{bytes_decides}
use Rattle.std.specs.List.{list_any}
use Rattle.indexmap.specs.IndexSet.{insert_all}
use Rattle.iso_model.specs.ResourceKeys.{global_key}
use Rattle.iso_plan.specs.KeyTable.{firsts, keys, marked_keys}
use Rattle.iso_plan.specs.Tree.{Row}

-- whether a key is none of some
abbrev is_new : List (List ℕ) → List ℕ → Bool
is_new seen k = not (list_any (bytes_eq k) seen)

abbrev differs : List ℕ → List ℕ → Bool
differs k other = not (bytes_eq k other)

filters_by : (p q : List ℕ → Bool) (x : List ℕ) (xs : List (List ℕ)) → filter p (filter q xs) ≡ filter (λ y. q y && p y) xs → (t : Bool)
    → filter p (cond t (x ∷ filter q xs) (filter q xs)) ≡ cond (t && p x) (x ∷ filter (λ y. q y && p y) xs) (filter (λ y. q y && p y) xs)
filters_by p q x xs ih true = ap (λ ys. cond (p x) (x ∷ ys) ys) ih
filters_by p q x xs ih false = ih

two_filters : (p q : List ℕ → Bool) (xs : List (List ℕ)) → filter p (filter q xs) ≡ filter (λ y. q y && p y) xs
two_filters p q [] = refl
two_filters p q (x ∷ xs) = filters_by p q x xs (two_filters p q xs) (q x)

old_by : (seen : List (List ℕ)) (k x : List ℕ) → list_any (bytes_eq k) seen ≡ true → (t : Bool) → bytes_eq k x ≡ t → (not t && is_new seen x) ≡ is_new seen x
old_by seen k x h true e =
    let same : k ≡ x = (bytes_decides k x).0 e in
    sym (ap not (ap (λ y. list_any (bytes_eq y) seen) (sym same) ∙ h))
old_by seen k x h false e = refl

-- what is new differs from a key that is known
known_too : (seen : List (List ℕ)) (k : List ℕ) (xs : List (List ℕ)) → list_any (bytes_eq k) seen ≡ true → filter (is_new seen) (filter (differs k) xs) ≡ filter (is_new seen) xs
known_too seen k xs h =
    two_filters (is_new seen) (differs k) xs ∙ filter_agree (λ x. differs k x && is_new seen x) (is_new seen) (λ x. old_by seen k x h (bytes_eq k x) refl) xs

neither : (a e : Bool) → not (a || (e || false)) ≡ (not e && not a)
neither true true = refl
neither true false = refl
neither false true = refl
neither false false = refl

-- what is new beside one more key differs from it
one_more : (seen : List (List ℕ)) (k : List ℕ) (xs : List (List ℕ)) → filter (is_new (seen ++ k ∷ [])) xs ≡ filter (is_new seen) (filter (differs k) xs)
one_more seen k xs =
    filter_agree (is_new (seen ++ k ∷ [])) (λ x. differs k x && is_new seen x)
    (λ x.
    ap not (list_any-append (bytes_eq x) seen (k ∷ [])) ∙ neither (list_any (bytes_eq x) seen) (bytes_eq x k)
    ∙ ap (λ (e : Bool). not e && is_new seen x) (nat_list_eq_equiv.symm x k))
    xs
    ∙ sym (two_filters (is_new seen) (differs k) xs)

inserted_by : (seen : List (List ℕ)) (k : List ℕ) (ks : List (List ℕ))
    → ((s : List (List ℕ)) → insert_all bytes_eq s ks ≡ s ++ filter (is_new s) (firsts ks)) → (t : Bool) → list_any (bytes_eq k) seen ≡ t
    → insert_all bytes_eq (if t then seen else seen ++ k ∷ []) ks ≡ seen ++ cond (not t) (k ∷ filter (is_new seen) (filter (differs k) (firsts ks)))
    (filter (is_new seen) (filter (differs k) (firsts ks)))
inserted_by seen k ks ih true e = ih seen ∙ ap (λ xs. seen ++ xs) (sym (known_too seen k (firsts ks) e))
inserted_by seen k ks ih false e =
    ih (seen ++ k ∷ []) ∙ append_assoc seen (k ∷ []) (filter (is_new (seen ++ k ∷ [])) (firsts ks)) ∙ ap (λ xs. seen ++ k ∷ xs) (one_more seen k (firsts ks))

inserted : (ks seen : List (List ℕ)) → insert_all bytes_eq seen ks ≡ seen ++ filter (is_new seen) (firsts ks)
inserted [] seen = sym (append-nil seen)
inserted (k ∷ ks) seen = inserted_by seen k ks (inserted ks) (list_any (bytes_eq k) seen) refl

all_new : (xs : List (List ℕ)) → filter (is_new []) xs ≡ xs
all_new [] = refl
all_new (x ∷ xs) = ap (λ ys. x ∷ ys) (all_new xs)

pub inserted-firsts : (ks : List (List ℕ)) → insert_all bytes_eq [] ks ≡ firsts ks
inserted-firsts ks = inserted ks [] ∙ all_new (firsts ks)

-- the keys of a tree are the first of each of the global key and all marked keys
pub keys-firsts : (tree : List Row) → keys tree ≡ firsts (global_key ∷ marked_keys tree)
keys-firsts tree = inserted (marked_keys tree) (global_key ∷ [])
    ∙ ap (λ ks. global_key ∷ ks) (one_more [] global_key (firsts (marked_keys tree)) ∙ all_new (filter (differs global_key) (firsts (marked_keys tree))))
