-- Numbers that pass a test, and their places among these.
use Rattle.std.proofs.Common.{◌≡◌, ℕ, zero, suc, ◌+◌, ◌<◌, ◌≤◌, List, [], ◌∷◌, ◌++◌, length, drop, map, get_or, Bool, true, false, nat_lt, cond, refl, sym, ap, ap₂, ◌∙◌, arith, add-one}
use Rattle.std.proofs.lemmas.Bool.Decides.{nat_tests}
use Rattle.std.proofs.lemmas.List.{drop_more, length-append, get_or_append_left, get_or_push, map_push}
use Rattle.iso_plan.specs.KeptNodes.{those_below, number_among}

-- a number with its place
pub record IsAmong (passes : ℕ → Bool) (most i n : ℕ) : Type 0 where
  pub within : n < most
  pub passed : passes n ≡ true
  pub number : number_among passes n ≡ i

module _ (passes : ℕ → Bool) where
  abbrev those : ℕ → List ℕ
  those n = those_below passes n

  abbrev number : ℕ → ℕ
  number n = number_among passes n

  pub those-next : (n : ℕ) → passes n ≡ true → those (suc n) ≡ those n ++ n ∷ []
  those-next n e = ap (λ (t : Bool). cond t (those n ++ n ∷ []) (those n)) e

  pub those-skip : (n : ℕ) → passes n ≡ false → those (suc n) ≡ those n
  those-skip n e = ap (λ (t : Bool). cond t (those n ++ n ∷ []) (those n)) e

  pub number-next : (n : ℕ) → passes n ≡ true → number (suc n) ≡ number n + 1
  number-next n e = ap length (those-next n e) ∙ length-append (those n) (n ∷ [])

  grows : (n : ℕ) (t : Bool) → passes n ≡ t → number n ≤ number (suc n)
  grows n true e = let next = number-next n e in omega arith
  grows n false e = let same : number (suc n) ≡ number n = ap length (those-skip n e) in omega arith

  pub number-le : (m n : ℕ) → m ≤ n → number m ≤ number n
  number-le m zero h = let same : m ≡ 0 = omega arith in rw same (omega arith)
  number-le m (suc n) h =
      elim (nat_lt m (suc n)) as (λ t. nat_lt m (suc n) ≡ t → number m ≤ number (suc n)) [
        | true ↦ λ e. let before : m ≤ n = grind (arith, nat_tests) in let low = number-le m n before in let next = grows n (passes n) refl in omega arith
        | false ↦ λ e. let same : m ≡ suc n = grind (arith, nat_tests) in rw same (omega arith)
      ] refl

  pub number-less : (m n : ℕ) → m < n → passes m ≡ true → number m < number n
  number-less m n h e =
      let next = number-next m e in
      let low = number-le (suc m) n (omega arith) in
      omega arith

  small_by : (n : ℕ) (t : Bool) → passes n ≡ t → number n ≤ n → number (suc n) ≤ suc n
  small_by n true e ih = let next = number-next n e in omega arith
  small_by n false e ih = let same : number (suc n) ≡ number n = ap length (those-skip n e) in omega arith

  pub number-small : (n : ℕ) → number n ≤ n
  number-small zero = omega arith
  number-small (suc n) = small_by n (passes n) refl (number-small n)

  kept_at : (n : ℕ) (k i d : ℕ) (t : Bool) → passes n ≡ t → i < number n → get_or (those n) i d ≡ k → get_or (those (suc n)) i d ≡ k
  kept_at n k i d true e h at = ap (λ (ns : List ℕ). get_or ns i d) (those-next n e) ∙ get_or_append_left (those n) (n ∷ []) d i h ∙ at
  kept_at n k i d false e h at = ap (λ (ns : List ℕ). get_or ns i d) (those-skip n e) ∙ at

  -- a number that passes stands at its place
  pub those-at : (most n d : ℕ) → n < most → passes n ≡ true → get_or (those most) (number n) d ≡ n
  those-at zero n d h e = absurd (omega arith)
  those-at (suc most) n d h e =
      elim (nat_lt n most) as (λ t. nat_lt n most ≡ t → get_or (those (suc most)) (number n) d ≡ n) [
        | true ↦ λ b. let less : n < most = grind (arith, nat_tests) in kept_at most n (number n) d (passes most) refl (number-less n most less e) (those-at most n d less e)
        | false ↦ λ b.
            let same : most ≡ n = grind (arith, nat_tests) in
            let last : passes most ≡ true = ap passes same ∙ e in
            ap (λ (ns : List ℕ). get_or ns (number n) d) (those-next most last) ∙ get_or_push (those most) most d (number n) (ap number same) ∙ same
      ] refl

  still : (most i n : ℕ) → IsAmong passes most i n → IsAmong passes (suc most) i n
  still most i n a = record { within = let less = a.within in omega arith; passed = a.passed; number = a.number }

  from_before : (most i d : ℕ) (t : Bool) → passes most ≡ t → i < number most → IsAmong passes most i (get_or (those most) i d) → IsAmong passes (suc most) i (get_or (those (suc most)) i d)
  from_before most i d true e h a =
      let same : get_or (those (suc most)) i d ≡ get_or (those most) i d = ap (λ (ns : List ℕ). get_or ns i d) (those-next most e) ∙ get_or_append_left (those most) (most ∷ []) d i h in
      rw same (still most i (get_or (those most) i d) a)
  from_before most i d false e h a =
      let same : get_or (those (suc most)) i d ≡ get_or (those most) i d = ap (λ (ns : List ℕ). get_or ns i d) (those-skip most e) in
      rw same (still most i (get_or (those most) i d) a)

  at_last : (most i d : ℕ) (t : Bool) → passes most ≡ t → i < number (suc most) → number most ≤ i → IsAmong passes (suc most) i (get_or (those (suc most)) i d)
  at_last most i d true e h past =
      let next = number-next most e in
      let same : number most ≡ i = omega arith in
      let here : get_or (those (suc most)) i d ≡ most = ap (λ (ns : List ℕ). get_or ns i d) (those-next most e) ∙ get_or_push (those most) most d i same in
      rw here (record { within = omega arith; passed = e; number = same })
  at_last most i d false e h past = let same : number (suc most) ≡ number most = ap length (those-skip most e) in absurd (omega arith)

  -- at each place stands a number that passes
  pub those-are : (most i d : ℕ) → i < number most → IsAmong passes most i (get_or (those most) i d)
  those-are zero i d h = absurd (omega arith)
  those-are (suc most) i d h =
      elim (nat_lt i (number most)) as (λ t. nat_lt i (number most) ≡ t → IsAmong passes (suc most) i (get_or (those (suc most)) i d)) [
        | true ↦ λ b. let less : i < number most = grind (arith, nat_tests) in from_before most i d (passes most) refl less (those-are most i d less)
        | false ↦ λ b. let past : number most ≤ i = grind (arith, nat_tests) in at_last most i d (passes most) refl h past
      ] refl

-- where all pass, none has another number
pub number-all : (passes : ℕ → Bool) → ((n : ℕ) → passes n ≡ true) → (n : ℕ) → number_among passes n ≡ n
number-all passes all zero = refl
number-all passes all (suc n) = number-next passes n (all n) ∙ ap (λ (m : ℕ). m + 1) (number-all passes all n) ∙ add-one n

-- what is left of a list begins with what stands at its place
pub left-some : {A : Type 0} (x : A) (ys xs : List A) (i : ℕ) → x ∷ ys ≡ drop i xs → i < length xs
left-some x ys [] zero e = let same = ap length e in absurd (omega arith)
left-some x ys [] (suc i) e = let same = ap length e in absurd (omega arith)
left-some x ys (z ∷ xs) zero e = omega arith
left-some x ys (z ∷ xs) (suc i) e = let less = left-some x ys xs i e in omega arith

pub left-first : {A : Type 0} (x : A) (ys xs : List A) (i : ℕ) → x ∷ ys ≡ drop i xs → x ≡ get_or xs i x
left-first x ys xs i e = let less = left-some x ys xs i e in ap (λ l. get_or l 0 x) (e ∙ drop_more xs i x less)

pub left-rest : {A : Type 0} (x : A) (ys xs : List A) (i : ℕ) → x ∷ ys ≡ drop i xs → ys ≡ drop (i + 1) xs
left-rest x ys xs i e = let less = left-some x ys xs i e in ap (λ l. drop 1 l) (e ∙ drop_more xs i x less)

-- where nothing is left of a list, all of it was taken
pub all-taken : {A : Type 0} (xs : List A) (i : ℕ) → length (drop i xs) ≡ 0 → i ≤ length xs → i ≡ length xs
all-taken [] i e h = omega arith
all-taken (x ∷ xs) zero e h = absurd (omega arith)
all-taken (x ∷ xs) (suc i) e h = let ih = all-taken xs i e (omega arith) in omega arith

-- tests that agree below a number find the same numbers below it
pub those-agree : (f g : ℕ → Bool) (n : ℕ) → ((m : ℕ) → m < n → f m ≡ g m) → those_below f n ≡ those_below g n
those-agree f g zero same = refl
those-agree f g (suc n) same =
    ap₂ (λ (t : Bool) (ns : List ℕ). cond t (ns ++ n ∷ []) ns) (same n (omega arith)) (those-agree f g n (λ m h. same m (omega arith)))

map_one : {A : Type 0} (p : ℕ → Bool) (f g : ℕ → A) (n : ℕ) (t : Bool) → f n ≡ g n → map f (those_below p n) ≡ map g (those_below p n)
    → map f (cond t (those_below p n ++ n ∷ []) (those_below p n)) ≡ map g (cond t (those_below p n ++ n ∷ []) (those_below p n))
map_one p f g n true one rest = map_push f (those_below p n) n ∙ ap₂ (λ xs x. xs ++ x ∷ []) rest one ∙ sym (map_push g (those_below p n) n)
map_one p f g n false one rest = rest

-- and what agrees on them makes the same of them
pub map-agree : {A : Type 0} (p : ℕ → Bool) (f g : ℕ → A) (n : ℕ) → ((m : ℕ) → m < n → f m ≡ g m) → map f (those_below p n) ≡ map g (those_below p n)
map-agree p f g zero same = refl
map-agree p f g (suc n) same = map_one p f g n (p n) (same n (omega arith)) (map-agree p f g n (λ m h. same m (omega arith)))

passing_one : {A : Type 0} (p : ℕ → Bool) (f g : ℕ → A) (n : ℕ) (t : Bool) → (t ≡ true → f n ≡ g n) → map f (those_below p n) ≡ map g (those_below p n)
    → map f (cond t (those_below p n ++ n ∷ []) (those_below p n)) ≡ map g (cond t (those_below p n ++ n ∷ []) (those_below p n))
passing_one p f g n true one rest = map_one p f g n true (one refl) rest
passing_one p f g n false one rest = rest

-- and what agrees on those of them that pass
pub map-passing : {A : Type 0} (p : ℕ → Bool) (f g : ℕ → A) (n : ℕ) → ((m : ℕ) → m < n → p m ≡ true → f m ≡ g m) → map f (those_below p n) ≡ map g (those_below p n)
map-passing p f g zero same = refl
map-passing p f g (suc n) same = passing_one p f g n (p n) (same n (omega arith)) (map-passing p f g n (λ m h. same m (omega arith)))
