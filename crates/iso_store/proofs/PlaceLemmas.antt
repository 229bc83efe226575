-- Properties over places answer as the two together.
use Rattle.std.proofs.Common.{◌≡◌, ℕ, List, [], ◌∷◌, Option, Some, None, Bool, true, false, cond, unwrap_or, refl, sym, ap, ◌∙◌}
use Rattle.std.specs.FinMap.{entries, find, get, get-entries, get-insert, get-remove}
use Rattle.std.specs.Ordering.{nat_cmp, is_eq}
use Rattle.std.specs.Cmp.Lexicographic.{slice_cmp}
use Rattle.std.proofs.lemmas.Cmp.{nat_list_cmp_total}
use Rattle.iso_model.specs.Properties.{Map}
use Rattle.iso_store.specs.Places.{Places, given, all_given, overlaid}

-- whether two names are the same
abbrev pub same : List ℕ → List ℕ → Bool
same q k = is_eq (slice_cmp nat_cmp q k)

pub get-given : (m : Map) (k : List ℕ) (o : Option (List ℕ)) (q : List ℕ) → get (given m k o) q ≡ cond (same q k) o (get m q)
get-given m k None q = get-remove nat_list_cmp_total m k q
get-given m k (Some t) q = get-insert nat_list_cmp_total m k t q

pub first_of_two : (b : Bool) (x : Option (List ℕ)) (o : Option (Option (List ℕ))) (d : Option (List ℕ)) → cond b x (unwrap_or o d) ≡ unwrap_or (cond b (Some x) o) d
first_of_two true x o d = refl
first_of_two false x o d = refl

get-all_given : (s : Map) (es : List (List ℕ × Option (List ℕ))) (q : List ℕ) → get (all_given s es) q ≡ unwrap_or (find (slice_cmp nat_cmp) q es) (get s q)
get-all_given s [] q = refl
get-all_given s (e ∷ es) q =
    get-given (all_given s es) e.0 e.1 q
    ∙ ap (λ (o : Option (List ℕ)). cond (same q e.0) e.1 o) (get-all_given s es q)
    ∙ first_of_two (same q e.0) e.1 (find (slice_cmp nat_cmp) q es) (get s q)

-- a property has what is in its place, and without one what it started with
pub get-overlaid : (s : Map) (p : Places) (q : List ℕ) → get (overlaid s p) q ≡ unwrap_or (get p q) (get s q)
unfolding overlaid
get-overlaid s p q = get-all_given s (entries p) q ∙ ap (λ (o : Option (Option (List ℕ))). unwrap_or o (get s q)) (sym (get-entries p q))
