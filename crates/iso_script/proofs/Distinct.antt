-- Lists of distinct names.
use Rattle.std.proofs.Common.{◌≡◌, ℕ, List, [], ◌∷◌, ◌++◌, Bool, true, false, ◌||◌, refl}
use Rattle.std.specs.List.{IsDistinct, AllByRecursion}
use Rattle.std.specs.Str.{bytes_eq}
use Rattle.iso_model.specs.NameSets.{is_among}

-- a fact of each of a list is one of the element in its midst
pub all_at : (P : List ℕ → Type 0) (xs ys : List (List ℕ)) (n : List ℕ) → AllByRecursion P (xs ++ n ∷ ys) → P n
all_at P [] ys n h = h.0
all_at P (x ∷ xs) ys n h = all_at P xs ys n h.1

pub all_push : (P : List ℕ → Type 0) (xs : List (List ℕ)) (n : List ℕ) → AllByRecursion P xs → P n → AllByRecursion P (xs ++ n ∷ [])
all_push P [] n h k = (k, tt)
all_push P (x ∷ xs) n h k = (h.0, all_push P xs n h.1 k)

none_of : (a b : Bool) → a ≡ false → b ≡ false → (a || b) ≡ false
none_of true b h k = h
none_of false b h k = k

left_false : (a b : Bool) → (a || b) ≡ false → a ≡ false
left_false true b h = h
left_false false b h = refl

right_false : (a b : Bool) → (a || b) ≡ false → b ≡ false
right_false true b h = cc
right_false false b h = h

-- of distinct names, one in their midst is not among those before it
pub is_among-before : (xs ys : List (List ℕ)) (n : List ℕ) → IsDistinct bytes_eq (xs ++ n ∷ ys) → is_among xs n ≡ false
unfolding IsDistinct
is_among-before [] ys n h = refl
is_among-before (x ∷ xs) ys n h = none_of (bytes_eq x n) (is_among xs n) (all_at (λ y. bytes_eq x y ≡ false) xs ys n h.0) (is_among-before xs ys n h.1)

pub IsDistinct-none : IsDistinct bytes_eq []
unfolding IsDistinct
IsDistinct-none = tt

pub IsDistinct-push : (xs : List (List ℕ)) (n : List ℕ) → IsDistinct bytes_eq xs → is_among xs n ≡ false → IsDistinct bytes_eq (xs ++ n ∷ [])
unfolding IsDistinct
IsDistinct-push [] n h k = (tt, tt)
IsDistinct-push (x ∷ xs) n h k =
    (all_push (λ y. bytes_eq x y ≡ false) xs n h.0 (left_false (bytes_eq x n) (is_among xs n) k), IsDistinct-push xs n h.1 (right_false (bytes_eq x n) (is_among xs n) k))
