-- Small facts of answers, options and lengths.
use Rattle.std.proofs.Common.{◌≡◌, ◌≢◌, nat_eq, length, ℕ, List, [], ◌∷◌, Option, Some, None, is_some, Result, Ok, Err, IfOk, true, false, refl, ap, ◌∙◌, arith}
use Rattle.std.proofs.lemmas.Bool.Decides.{nat_tests}

-- what is known of an answer, made into more
pub if_ok : {A E : Type 0} {P Q : A → Type 0} (r : Result A E) → ((x : A) → P x → Q x) → IfOk r P → IfOk r Q
if_ok (Ok x) f h = f x h
if_ok (Err e) f h = tt

is_zero : (n : ℕ) → true ≡ nat_eq n 0 → n ≡ 0
is_zero n h = grind (arith, nat_tests, h)

not_zero : (n : ℕ) → false ≡ nat_eq n 0 → n ≢ 0
not_zero n h e = let f : false ≡ true = h ∙ ap (λ k. nat_eq k 0) e in cc

-- a list whose length is 0 has nothing
pub none_left : {A : Type 0} (xs : List A) (n : ℕ) → n ≡ length xs → true ≡ nat_eq n 0 → xs ≡ []
none_left [] n e h = refl
none_left (x ∷ xs) n e h = absurd (omega (arith, e, is_zero n h))

-- and any other has something
pub some_left : {A : Type 0} (xs : List A) (n : ℕ) → n ≡ length xs → false ≡ nat_eq n 0 → xs ≢ []
some_left [] n e h = absurd (not_zero n h e)
some_left (x ∷ xs) n e h = λ k. cc

pub none_is : {A : Type 0} (o : Option A) → false ≡ is_some o → o ≡ None
none_is None h = refl
none_is (Some x) h = cc
