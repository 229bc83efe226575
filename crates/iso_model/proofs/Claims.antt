-- One name more.
use Rattle.std.proofs.Common.{◌≡◌, ℕ, List, [], ◌∷◌, ◌++◌, Bool, true, false, not, cond, ◌||◌, refl, ap, ◌∙◌, sym}
use Rattle.std.specs.Str.{bytes_eq}
use Rattle.std.proofs.lemmas.List.Folds.{list_any-append}
use Rattle.iso_model.specs.NameSets.{is_among}

last : (a b : Bool) → cond a true b ≡ (b || (a || false))
last true true = refl
last true false = refl
last false true = refl
last false false = refl

-- a name is among names and one more where it is that one or among them
pub is_among-push : (names : List (List ℕ)) (n m : List ℕ) → cond (bytes_eq n m) true (is_among names m) ≡ is_among (names ++ n ∷ []) m
is_among-push names n m = last (bytes_eq n m) (is_among names m) ∙ sym (list_any-append (λ k. bytes_eq k m) names (n ∷ []))

pub instead : (a b r s : Bool) → a ≡ b → r ≡ s → cond a true r ≡ cond b true s
instead a b r s h k = ap (λ x. cond x true r) h ∙ ap (cond b true) k

pub not_true : (b : Bool) → true ≡ not b → b ≡ false
not_true false h = refl
not_true true h = cc

pub not_false : (b : Bool) → false ≡ not b → b ≡ true
not_false true h = refl
not_false false h = cc
