-- The names of enclosing classes.
use Rattle.std.proofs.Common.{◌≡◌, ℕ, ◌-◌, List, [], ◌∷◌, ◌++◌, Bool, true, false, ◌||◌, length, take, map, refl, ap, sym, ◌∙◌, arith, length-append}
use Rattle.std.proofs.lemmas.Cmp.{nat_list_eq_equiv}
use Rattle.std.proofs.lemmas.List.Folds.{list_any-append}
use Rattle.std.proofs.lemmas.Map.Text.{is_eq-slice_cmp}
use Rattle.std.specs.Borrow.{Bor}
use Rattle.std.specs.BTreeSet.{BTreeSet, contains_by}
use Rattle.std.specs.Cmp.Lexicographic.{slice_cmp}
use Rattle.std.specs.List.{list_any}
use Rattle.std.specs.Ordering.{nat_cmp, is_eq}
use Rattle.std.specs.Str.{bytes_eq}
use Rattle.iso_model.specs.NameSets.{Knows, is_among}
use Rattle.iso_script.specs.Variables.{KnowAll, is_in_any}

or_first : (a b c : Bool) → (a || (b || c)) ≡ (b || (a || c))
or_first true true c = refl
or_first true false c = refl
or_first false b c = refl

-- whether one of the sets or the last has a name
in_last : (sets : List (BTreeSet (Bor (List ℕ)))) (set : BTreeSet (Bor (List ℕ))) (n : List ℕ) → is_in_any (sets ++ set ∷ []) n ≡ (contains_by (λ k. slice_cmp nat_cmp n k.now) set || is_in_any sets n)
in_last [] set n = refl
in_last (s ∷ sets) set n =
    ap (λ b. contains_by (λ k. slice_cmp nat_cmp n k.now) s || b) (in_last sets set n)
    ∙ or_first (contains_by (λ k. slice_cmp nat_cmp n k.now) s) (contains_by (λ k. slice_cmp nat_cmp n k.now) set) (is_in_any sets n)

-- sets know what they knew, and what one more knows
pub know_more : (sets : List (BTreeSet (Bor (List ℕ)))) (set : BTreeSet (Bor (List ℕ))) (taken own : List (List ℕ)) → KnowAll sets taken → Knows set own → KnowAll (sets ++ set ∷ []) (own ++ taken)
know_more sets set taken own all knows = λ n.
    in_last sets set n ∙ ap (λ b. b || is_in_any sets n) (knows n) ∙ ap (λ b. is_among own n || b) (all n) ∙ sym (list_any-append (λ m. bytes_eq m n) own taken)

pub know_none : KnowAll [] []
know_none = λ n. refl

-- what a set knows
among_keys : (keys : List (Bor (List ℕ))) (n : List ℕ) → list_any (λ (k : Bor (List ℕ)). is_eq (slice_cmp nat_cmp n k.now)) keys ≡ is_among (map (λ (k : Bor (List ℕ)). k.now) keys) n
among_keys [] n = refl
among_keys (k ∷ keys) n =
    ap (λ b. b || list_any (λ (k : Bor (List ℕ)). is_eq (slice_cmp nat_cmp n k.now)) keys) (is_eq-slice_cmp n k.now ∙ nat_list_eq_equiv.symm n k.now)
    ∙ ap (λ b. bytes_eq k.now n || b) (among_keys keys n)

pub known : (sets : List (BTreeSet (Bor (List ℕ)))) → (names : List (List ℕ)) × KnowAll sets names
known [] = ([], know_none)
known (set ∷ sets) =
    let own : List (List ℕ) = map (λ (k : Bor (List ℕ)). k.now) set.keys in
    let more = known sets in (
      own ++ more.0,
      λ n. ap (λ b. b || is_in_any sets n) (among_keys set.keys n) ∙ ap (λ b. is_among own n || b) (more.1 n) ∙ sym (list_any-append (λ m. bytes_eq m n) own more.0),
    )

take_all_but_last : {A : Type 0} (xs : List A) (x : A) (n : ℕ) → n ≡ length xs → take n (xs ++ x ∷ []) ≡ xs
take_all_but_last [] x n h = rw h refl
take_all_but_last (y ∷ xs) x n h = rw h (ap (λ zs. y ∷ zs) (take_all_but_last xs x (length xs) refl))

-- what was pushed is popped
pub popped : {A : Type 0} (xs all ys : List A) (x : A) (n : ℕ) → all ≡ xs ++ x ∷ [] → n ≡ length all → ys ≡ take (n - 1) all → ys ≡ xs
popped xs all ys x n is len rest =
    rest ∙ ap (λ zs. take (n - 1) zs) is ∙ take_all_but_last xs x (n - 1) (omega (arith, len, ap length is, length-append xs (x ∷ [])))
