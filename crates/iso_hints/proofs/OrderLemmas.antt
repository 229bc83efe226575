-- Near words are those that are near, in the order of their distance.
use Rattle.std.proofs.Common.{◌≡◌, ℕ, zero, suc, ◌<◌, ◌≤◌, List, [], ◌∷◌, ◌++◌, Bool, true, false, cond, nat_lt, filter, fold, get_or, length, refl, arith}
use Rattle.std.proofs.lemmas.Bool.Decides.{nat_tests}
use Rattle.std.proofs.lemmas.List.{append-nil}
use Rattle.std.proofs.lemmas.List.Sorted.{IsPermutation-append_left, IsPermutation-cons, IsPermutation-insert, IsPermutation-middle, IsPermutation-refl, IsPermutation-trans}
use Rattle.std.specs.List.Sorted.{IsNonDecreasingBy, IsPermutation}
use Rattle.iso_hints.specs.Nearest.{distance, is_near, near_words, put_by_distance}

-- the same words with one more
put-moves : (word : List ℕ) (xs : List (List ℕ)) (x : List ℕ) → IsPermutation (x ∷ xs) (put_by_distance word xs x)
put-moves word [] x = IsPermutation-refl (x ∷ [])
put-moves word (y ∷ ys) x =
    by (nat_lt (distance word x) (distance word y))
    (IsPermutation-trans (x ∷ y ∷ ys) (y ∷ x ∷ ys) (y ∷ put_by_distance word ys x) (IsPermutation-insert (y ∷ ys) 1 x)
    (IsPermutation-cons y (x ∷ ys) (put_by_distance word ys x) (put-moves word ys x)))
  where
    by : (b : Bool) → IsPermutation (x ∷ y ∷ ys) (y ∷ put_by_distance word ys x)
        → IsPermutation (x ∷ y ∷ ys) (cond b (x ∷ y ∷ ys) (y ∷ put_by_distance word ys x))
    by true h = IsPermutation-refl (x ∷ y ∷ ys)
    by false h = h

fold-moves : (word : List ℕ) (done xs : List (List ℕ)) → IsPermutation (done ++ xs) (fold (put_by_distance word) done xs)
fold-moves word done [] = rw append-nil (IsPermutation-refl done)
fold-moves word done (x ∷ xs) =
    IsPermutation-trans (done ++ x ∷ xs) (x ∷ (done ++ xs)) (fold (put_by_distance word) (put_by_distance word done x) xs)
    (IsPermutation-middle done x xs)
    (IsPermutation-trans (x ∷ (done ++ xs)) (put_by_distance word done x ++ xs) (fold (put_by_distance word) (put_by_distance word done x) xs)
    (IsPermutation-append_left xs (x ∷ done) (put_by_distance word done x) (put-moves word done x))
    (fold-moves word (put_by_distance word done x) xs))

-- they are the candidates that are near
pub near-moves : (word : List ℕ) (cs : List (List ℕ)) → IsPermutation (filter (is_near word) cs) (near_words word cs)
near-moves word cs = fold-moves word [] (filter (is_near word) cs)

-- a word before others that are at least as far
ascends-cons : (word x : List ℕ) (xs : List (List ℕ)) → ((j : ℕ) (e : List ℕ) → j < length xs → distance word x ≤ distance word (get_or xs j e))
    → IsNonDecreasingBy (distance word) xs → IsNonDecreasingBy (distance word) (x ∷ xs)
ascends-cons word x xs above ascends zero zero e le lt = omega arith
ascends-cons word x xs above ascends zero (suc j) e le lt = above j e (omega arith)
ascends-cons word x xs above ascends (suc i) zero e le lt = absurd (omega arith)
ascends-cons word x xs above ascends (suc i) (suc j) e le lt = ascends i j e (omega arith) (omega arith)

-- all are at least as far, with one more that is
put-above : (word : List ℕ) (n : ℕ) (xs : List (List ℕ)) (x : List ℕ) → n ≤ distance word x
    → ((j : ℕ) (e : List ℕ) → j < length xs → n ≤ distance word (get_or xs j e))
    → (j : ℕ) (e : List ℕ) → j < length (put_by_distance word xs x) → n ≤ distance word (get_or (put_by_distance word xs x) j e)
put-above word n [] x far all zero e lt = far
put-above word n [] x far all (suc j) e lt = absurd (omega arith)
put-above word n (y ∷ ys) x far all j e lt =
    by (nat_lt (distance word x) (distance word y)) (put-above word n ys x far (λ k d h. all (suc k) d (omega arith))) j e lt
  where
    by : (b : Bool) → ((k : ℕ) (d : List ℕ) → k < length (put_by_distance word ys x) → n ≤ distance word (get_or (put_by_distance word ys x) k d))
        → (k : ℕ) (d : List ℕ) → k < length (cond b (x ∷ y ∷ ys) (y ∷ put_by_distance word ys x))
        → n ≤ distance word (get_or (cond b (x ∷ y ∷ ys) (y ∷ put_by_distance word ys x)) k d)
    by true more zero d h = far
    by true more (suc k) d h = all k d (omega arith)
    by false more zero d h = all 0 d (omega arith)
    by false more (suc k) d h = more k d (omega arith)

put-ascends : (word : List ℕ) (xs : List (List ℕ)) (x : List ℕ) → IsNonDecreasingBy (distance word) xs
    → IsNonDecreasingBy (distance word) (put_by_distance word xs x)
put-ascends word [] x ascends = ascends-cons word x [] (λ j e lt. absurd (omega arith)) ascends
put-ascends word (y ∷ ys) x ascends =
    by (nat_lt (distance word x) (distance word y)) refl
    (put-ascends word ys x (λ i j e le lt. ascends (suc i) (suc j) e (omega arith) (omega arith)))
  where
    nearer : nat_lt (distance word x) (distance word y) ≡ true → distance word x < distance word y
    nearer h = grind (arith, nat_tests)

    further : nat_lt (distance word x) (distance word y) ≡ false → distance word y ≤ distance word x
    further h = grind (arith, nat_tests)

    by : (b : Bool) → nat_lt (distance word x) (distance word y) ≡ b → IsNonDecreasingBy (distance word) (put_by_distance word ys x)
        → IsNonDecreasingBy (distance word) (cond b (x ∷ y ∷ ys) (y ∷ put_by_distance word ys x))
    by true is more =
        ascends-cons word x (y ∷ ys) (λ j e lt. let near = nearer is in let first = ascends 0 j e (omega arith) lt in omega arith) ascends
    by false is more =
        ascends-cons word y (put_by_distance word ys x)
        (put-above word (distance word y) ys x (further is) (λ j e lt. ascends 0 (suc j) e (omega arith) (omega arith))) more

fold-ascends : (word : List ℕ) (done xs : List (List ℕ)) → IsNonDecreasingBy (distance word) done
    → IsNonDecreasingBy (distance word) (fold (put_by_distance word) done xs)
fold-ascends word done [] ascends = ascends
fold-ascends word done (x ∷ xs) ascends = fold-ascends word (put_by_distance word done x) xs (put-ascends word done x ascends)

-- none is nearer than one before it
pub near-ascends : (word : List ℕ) (cs : List (List ℕ)) → IsNonDecreasingBy (distance word) (near_words word cs)
near-ascends word cs = fold-ascends word [] (filter (is_near word) cs) (λ i j e le lt. absurd (omega arith))
