-- A name that is among those before it makes names that are not all distinct.
use Rattle.std.proofs.Common.{◌≡◌, ℕ, List, [], ◌∷◌, ◌++◌, Bool, true, false, ◌||◌, cond, refl, ap, ap₂, ◌∙◌, bytes_eq}
use Rattle.std.proofs.lemmas.List.Folds.{list_any-append}
use Rattle.std.specs.List.{list_any}
use Rattle.iso_model.specs.NameSets.{is_among}
use Rattle.iso_plan.specs.Faults.{has_double}

-- whether one of the names is among these or is an earlier one
abbrev pub double_after : List (List ℕ) → List (List ℕ) → Bool
double_after seen [] = false
double_after seen (n ∷ ns) = cond (is_among seen n) true (double_after (seen ++ n ∷ []) ns)

mix : (a e x y : Bool) → ((a || (e || false)) || (x || y)) ≡ ((a || x) || (e || y))
mix true e x y = refl
mix false true true y = refl
mix false true false y = refl
mix false false x y = refl

-- names are among some and one more where they are among these or are that one
among_more : (seen : List (List ℕ)) (n : List ℕ) (ms : List (List ℕ)) → list_any (is_among (seen ++ n ∷ [])) ms ≡ (list_any (is_among seen) ms || list_any (bytes_eq n) ms)
among_more seen n [] = refl
among_more seen n (m ∷ ms) =
    ap₂ (λ (p q : Bool). p || q) (list_any-append (λ x. bytes_eq x m) seen (n ∷ [])) (among_more seen n ms)
    ∙ mix (is_among seen m) (bytes_eq n m) (list_any (is_among seen) ms) (list_any (bytes_eq n) ms)

joined : (a l e h : Bool) → cond a true ((l || e) || h) ≡ ((a || l) || (e || h))
joined true l e h = refl
joined false true e h = refl
joined false false e h = refl

double_by : (ns seen : List (List ℕ)) → double_after seen ns ≡ (list_any (is_among seen) ns || has_double ns)
double_by [] seen = refl
double_by (n ∷ ns) seen =
    let again = list_any (bytes_eq n) ns in
    ap (cond (is_among seen n) true) (double_by ns (seen ++ n ∷ []) ∙ ap (λ (b : Bool). b || has_double ns) (among_more seen n ns))
    ∙ joined (is_among seen n) (list_any (is_among seen) ns) again (has_double ns)

none_among : (ns : List (List ℕ)) → list_any (is_among []) ns ≡ false
none_among [] = refl
none_among (n ∷ ns) = none_among ns

pub double-is : (ns : List (List ℕ)) → double_after [] ns ≡ has_double ns
double-is ns = double_by ns [] ∙ ap (λ (b : Bool). b || has_double ns) (none_among ns)
