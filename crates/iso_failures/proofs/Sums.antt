-- How many numbers pass, as sums.
use Rattle.std.proofs.Common.{◌≡◌, ◌<◌, ◌≤◌, ℕ, zero, suc, ◌+◌, List, [], ◌∷◌, ◌++◌, length, Bool, true, false, ◌&&◌, ◌==◌, cond, ◌⊎◌, inl, inr, refl, sym, ap, ap₂, ◌∙◌, arith}
use Rattle.std.proofs.lemmas.List.Sums.{sum_by-cons, sum_by_push}
use Rattle.std.specs.List.{sum_by}
use Rattle.iso_plan.proofs.NumberLemmas.{number-next, number-small, those-skip}
use Rattle.iso_plan.proofs.PathLemmas.{eq_not, eq_same}
use Rattle.iso_plan.specs.KeptNodes.{those_below}
use Rattle.iso_failures.specs.Counting.{how_many}

pub numbers : (a b : ℕ) → (a ≡ b) ⊎ (a ≡ b → ⊥)
numbers a b = grind arith

-- what one number adds
abbrev pub one : Bool → ℕ
one true = 1
one false = 0

step_by : (p : ℕ → Bool) (n : ℕ) (t : Bool) → p n ≡ t → how_many p (suc n) ≡ how_many p n + one t
step_by p n true e = number-next p n e
step_by p n false e = let same : how_many p (suc n) ≡ how_many p n = ap length (those-skip p n e) in omega arith

pub many-step : (p : ℕ → Bool) (n : ℕ) → how_many p (suc n) ≡ how_many p n + one (p n)
many-step p n = step_by p n (p n) refl

pub many-small : (p : ℕ → Bool) (n : ℕ) → how_many p n ≤ n
many-small p n = number-small p n

-- none passes
pub many-none : (p : ℕ → Bool) (n : ℕ) → ((m : ℕ) → m < n → p m ≡ false) → how_many p n ≡ 0
many-none p zero h = refl
many-none p (suc n) h =
    let step = many-step p n in
    let last : one (p n) ≡ 0 = ap one (h n (omega arith)) in
    let before = many-none p n (λ m less. h m (omega arith)) in
    omega arith

-- each that passes one test passes one of two others, and not both
pub many-both : (p q r : ℕ → Bool) (n : ℕ) → ((m : ℕ) → m < n → one (p m) ≡ one (q m) + one (r m)) → how_many p n ≡ how_many q n + how_many r n
many-both p q r zero h = refl
many-both p q r (suc n) h =
    let here = h n (omega arith) in
    let before = many-both p q r n (λ m less. h m (omega arith)) in
    let sp = many-step p n in
    let sq = many-step q n in
    let sr = many-step r n in
    omega arith

-- each that passes a test passes just one of four others
pub many-four : (p q r s all : ℕ → Bool) (n : ℕ) → ((m : ℕ) → one (p m) + one (q m) + one (r m) + one (s m) ≡ one (all m)) → how_many p n + how_many q n + how_many r n + how_many s n ≡ how_many all n
many-four p q r s all zero h = refl
many-four p q r s all (suc n) h =
    let here = h n in
    let before = many-four p q r s all n h in
    let sp = many-step p n in
    let sq = many-step q n in
    let sr = many-step r n in
    let ss = many-step s n in
    let sa = many-step all n in
    omega arith

-- a number alone, where it passes
abbrev pub alone : (ℕ → Bool) → ℕ → ℕ → Bool
alone p m n = p n && n == m

not_alone : (p : ℕ → Bool) (m n : ℕ) (t : Bool) → (n ≡ m → ⊥) → p n ≡ t → alone p m n ≡ false
not_alone p m n true ne e = rw (e, eq_not n m ne) refl
not_alone p m n false ne e = rw e refl

none_alone : (p : ℕ → Bool) (m n : ℕ) → n ≤ m → how_many (alone p m) n ≡ 0
none_alone p m n h = many-none (alone p m) n (λ k less. not_alone p m k (p k) (λ same. absurd (omega arith)) refl)

and_true : (t : Bool) → one (t && true) ≡ one t
and_true true = refl
and_true false = refl

pub many-alone : (p : ℕ → Bool) (m n : ℕ) → m < n → how_many (alone p m) n ≡ one (p m)
many-alone p m zero h = absurd (omega arith)
many-alone p m (suc n) h =
    let step = many-step (alone p m) n in
    elim (numbers n m) [
      | inl same ↦
          let before = none_alone p m n (omega arith) in
          let last : one (alone p m n) ≡ one (p m) = ap (λ (k : ℕ). one (alone p m k)) same ∙ rw (eq_same m) (and_true (p m)) in
          omega arith
      | inr ne ↦
          let before = many-alone p m n (omega arith) in
          let last : one (alone p m n) ≡ 0 = ap one (not_alone p m n (p n) ne refl) in
          omega arith
    ]

sum_same : (f g : ℕ → ℕ) (cs : List ℕ) → ((c : ℕ) → f c ≡ g c) → sum_by f cs ≡ sum_by g cs
sum_same f g [] h = refl
sum_same f g (c ∷ cs) h = sum_by-cons f c cs ∙ ap₂ (λ (m n : ℕ). m + n) (h c) (sum_same f g cs h) ∙ sym (sum_by-cons g c cs)

pub sum-zero : (cs : List ℕ) → sum_by (λ c. 0) cs ≡ 0
sum-zero [] = refl
sum-zero (c ∷ cs) = let first = sum_by-cons (λ c. 0) c cs in let rest = sum-zero cs in omega arith

sum_both : (f g : ℕ → ℕ) (cs : List ℕ) → sum_by f cs + sum_by g cs ≡ sum_by (λ c. f c + g c) cs
sum_both f g [] = refl
sum_both f g (c ∷ cs) =
    let ff = sum_by-cons f c cs in
    let gg = sum_by-cons g c cs in
    let hh = sum_by-cons (λ c. f c + g c) c cs in
    let rest = sum_both f g cs in
    omega arith

-- where each number passes as often as it passes the tests of a list, so do all together
pub many-sum : (p : ℕ → Bool) (q : ℕ → ℕ → Bool) (cs : List ℕ) (n : ℕ) → ((m : ℕ) → m < n → one (p m) ≡ sum_by (λ c. one (q c m)) cs)
    → how_many p n ≡ sum_by (λ c. how_many (q c) n) cs
many-sum p q cs zero h = sym (sum-zero cs)
many-sum p q cs (suc n) h =
    many-step p n
    ∙ ap₂ (λ (a b : ℕ). a + b) (many-sum p q cs n (λ m less. h m (omega arith))) (h n (omega arith))
    ∙ sum_both (λ c. how_many (q c) n) (λ c. one (q c n)) cs
    ∙ sum_same (λ c. how_many (q c) n + one (q c n)) (λ c. how_many (q c) (suc n)) cs (λ c. sym (many-step (q c) n))

push_by : (f : ℕ → ℕ) (cs : List ℕ) (n : ℕ) (t : Bool) → sum_by f (cond t (cs ++ n ∷ []) cs) ≡ sum_by f cs + cond t (f n) 0
push_by f cs n true = sum_by_push f cs n
push_by f cs n false = omega arith

where_so : (a b : ℕ) (t : Bool) → (t ≡ true → a ≡ b) → cond t a 0 ≡ cond t b 0
where_so a b true h = h refl
where_so a b false h = refl

-- sums over the numbers below one that pass
module _ (p : ℕ → Bool) where
  those_step : (f : ℕ → ℕ) (n : ℕ) → sum_by f (those_below p (suc n)) ≡ sum_by f (those_below p n) + cond (p n) (f n) 0
  those_step f n = push_by f (those_below p n) n (p n)

  pub those-same : (f g : ℕ → ℕ) (n : ℕ) → ((c : ℕ) → c < n → p c ≡ true → f c ≡ g c) → sum_by f (those_below p n) ≡ sum_by g (those_below p n)
  those-same f g zero h = refl
  those-same f g (suc n) h =
      those_step f n
      ∙ ap₂ (λ (a b : ℕ). a + b) (those-same f g n (λ c less e. h c (omega arith) e)) (where_so (f n) (g n) (p n) (h n (omega arith)))
      ∙ sym (those_step g n)

  pub those-zero : (f : ℕ → ℕ) (n : ℕ) → ((c : ℕ) → c < n → p c ≡ true → f c ≡ 0) → sum_by f (those_below p n) ≡ 0
  those-zero f n h = those-same f (λ c. 0) n h ∙ sum-zero (those_below p n)

  not_here : (m n : ℕ) (t : Bool) → (m ≡ n → ⊥) → cond t (one (m == n)) 0 ≡ 0
  not_here m n true ne = ap one (eq_not m n ne)
  not_here m n false ne = refl

  -- a number that passes stands among them once
  those_before : (m n : ℕ) → n ≤ m → sum_by (λ c. one (m == c)) (those_below p n) ≡ 0
  those_before m zero h = refl
  those_before m (suc n) h =
      let step = those_step (λ c. one (m == c)) n in
      let before = those_before m n (omega arith) in
      let here = not_here m n (p n) (λ same. absurd (omega arith)) in
      omega arith

  pub those-once : (m n : ℕ) → p m ≡ true → m < n → sum_by (λ c. one (m == c)) (those_below p n) ≡ 1
  those-once m zero e h = absurd (omega arith)
  those-once m (suc n) e h =
      let step = those_step (λ c. one (m == c)) n in
      elim (numbers m n) [
        | inl same ↦
            let before = those_before m n (omega arith) in
            let here : cond (p n) (one (m == n)) 0 ≡ 1 = rw (ap p (sym same) ∙ e, ap (λ (k : ℕ). m == k) (sym same) ∙ eq_same m) refl in
            omega arith
        | inr ne ↦
            let before = those-once m n e (omega arith) in
            let here = not_here m n (p n) ne in
            omega arith
      ]
