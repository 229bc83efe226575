-- What is known of the keys on which nodes conflict holds for nodes that take the same keys.
use Rattle.std.proofs.Common.{◌≡◌, ℕ, ◌<◌, List, [], ◌∷◌, length, get_or, set, Option, Some, None, Bool, true, false, ◌||◌, ap, ap₂, sym, subst, ◌∙◌, refl, arith, inl, inr}
use Rattle.std.proofs.lemmas.Bool.{cases_eq}
use Rattle.std.proofs.lemmas.List.{get_or-set_other, get_or-set_same, get_or_default, length-set}
use Rattle.std.specs.List.{list_any}
use Rattle.iso_model.specs.Rights.{is_writable}
use Rattle.iso_model.specs.declared.access.Access.{Access}
use Rattle.iso_plan.specs.KeyTable.{keys}
use Rattle.iso_plan.specs.Locks.{conflict, exclude, taken}
use Rattle.iso_plan.specs.Tree.{Row}
use Rattle.iso_waits.specs.ContendedKeys.{contended_key, first_shared}
use Rattle.iso_waits.specs.KnownKeys.{AreKnownKeys, IsKnown, IsTwin}
use Rattle.iso_waits.specs.declared.known_keys.KnownKey.{KnownKey}

-- nodes that take the same keys in the same way conflict on the same key
pub twins-key : (tree : List Row) (n m first second : ℕ) → IsTwin tree n first → IsTwin tree m second → contended_key tree first second ≡ contended_key tree n m
twins-key tree n m first second a b = ap₂ first_shared a.same b.same

or-turned : (a b : Bool) → (a || b) ≡ (b || a)
or-turned true true = refl
or-turned true false = refl
or-turned false true = refl
or-turned false false = refl

exclude-turned : (a b : Option Access) → exclude a b ≡ exclude b a
exclude-turned None None = refl
exclude-turned None (Some b) = refl
exclude-turned (Some a) None = refl
exclude-turned (Some a) (Some b) = or-turned (is_writable (Some a)) (is_writable (Some b))

-- a node conflicts with another just where that conflicts with it
pub conflict-turned : (tree : List Row) (m n : ℕ) → conflict tree m n ≡ conflict tree n m
conflict-turned tree m n = by (keys tree)
  where
    by : (ks : List (List ℕ)) → list_any (λ k. exclude (taken tree m k) (taken tree n k)) ks ≡ list_any (λ k. exclude (taken tree n k) (taken tree m k)) ks
    by [] = refl
    by (k ∷ ks) = ap₂ (λ (p q : Bool). p || q) (exclude-turned (taken tree m k) (taken tree n k)) (by ks)

-- the key of one node more is known
pub known-more : (tree : List Row) (firsts : List ℕ) (found : List (Option KnownKey)) (m : ℕ) (known : KnownKey) → m < length tree
    → known.key ≡ contended_key tree known.of m → AreKnownKeys tree firsts found → AreKnownKeys tree firsts (set found m (Some known))
known-more tree firsts found m known h is are = record {
  stand = are.stand;
  size = length-set found m (Some known) ∙ are.size;
  known = λ k l. elim (cases_eq k m) [
    | inl same ↦ subst (λ (j : ℕ). IsKnown tree j (get_or (set found m (Some known)) j None)) (sym same) (here (let e = are.size in omega (arith, h)))
    | inr other ↦ subst (IsKnown tree k) (sym (get_or-set_other found m k (Some known) None other)) (are.known k l)
  ];
}
  where
    here : m < length found → IsKnown tree m (get_or (set found m (Some known)) m None)
    here l = subst (IsKnown tree m) (sym (get_or-set_same found m (Some known) None l)) is

-- the places of nodes that stand for others are those of nodes of the tree
pub place-within : (tree : List Row) (firsts : List ℕ) (found : List (Option KnownKey)) (m : ℕ) → AreKnownKeys tree firsts found → m < length tree → get_or firsts m 0 < length found
place-within tree firsts found m are h = let twin = are.stand.each m h in let in_tree = twin.within in let e = are.size in omega arith

-- what is known of a node for one that takes the same keys
pub known-key : (tree : List Row) (firsts : List ℕ) (found : List (Option KnownKey)) (n m place : ℕ) (d : Option KnownKey) (known : KnownKey) → AreKnownKeys tree firsts found
    → n < length tree → m < length tree → place ≡ get_or firsts m 0 → get_or found place d ≡ Some known → known.of ≡ get_or firsts n 0 → known.key ≡ contended_key tree n m
known-key tree firsts found n m place d known are h l p at same =
    let first = get_or firsts n 0 in
    let a = are.stand.each n h in
    let b : IsTwin tree m place = subst (IsTwin tree m) (sym p) (are.stand.each m l) in
    let inside : place < length found = let e = are.size in let w = b.within in omega arith in
    let is : IsKnown tree place (Some known) = subst (IsKnown tree place) (get_or_default found place None d inside ∙ at) (are.known place b.within) in
    is ∙ ap (λ (k : ℕ). contended_key tree k place) same ∙ twins-key tree n m first place a b

-- what is found of two nodes is kept for those that stand for them
pub known-kept : (tree : List Row) (firsts : List ℕ) (found : List (Option KnownKey)) (n m first place : ℕ) (key : Option ℕ) → AreKnownKeys tree firsts found → n < length tree
    → m < length tree → first ≡ get_or firsts n 0 → place ≡ get_or firsts m 0 → key ≡ contended_key tree n m → AreKnownKeys tree firsts (set found place (Some (record { of = first; key = key })))
known-kept tree firsts found n m first place key are h l f p e =
    let a : IsTwin tree n first = subst (IsTwin tree n) (sym f) (are.stand.each n h) in
    let b : IsTwin tree m place = subst (IsTwin tree m) (sym p) (are.stand.each m l) in
    known-more tree firsts found place (record { of = first; key = key }) b.within (e ∙ sym (twins-key tree n m first place a b)) are
