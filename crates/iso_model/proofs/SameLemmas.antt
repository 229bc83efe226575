-- Where parts of scripts say the same.
use Rattle.std.proofs.Common.{◌≡◌, ◌↔◌, ℕ, ◌<◌, ◌==◌, Bool, false, IsTrue, List, [], ◌∷◌, map, length, get_or, refl, ap, ap₂, sym, ◌∙◌, arith, Vec, vec_len}
use Rattle.std.proofs.lemmas.Bool.Decides.{nat_tests}
use Rattle.std.proofs.lemmas.List.{get_or-map}
use Rattle.iso_model.specs.Syntax.{Term, chain, Act, choice, repeat, Acts}
use Rattle.iso_model.specs.SyntaxView.{terms_of, acts_of}
use Rattle.iso_model.specs.declared.tree.Operator.{Operator}

-- several terms tell each one
pub terms_of-inj : (xs ys : List Term) → terms_of xs ≡ terms_of ys → xs ≡ ys
terms_of-inj [] [] e = refl
terms_of-inj (x ∷ xs) (y ∷ ys) e =
    let first : x ≡ y = cc in
    let rest : terms_of xs ≡ terms_of ys = cc in
    ap₂ ◌∷◌ first (terms_of-inj xs ys rest)
terms_of-inj xs ys e = absurd cc

-- the statements of a body tell each one
pub acts_of-inj : (xs ys : List (ℕ × Act)) → acts_of xs ≡ acts_of ys → xs ≡ ys
acts_of-inj [] [] e = refl
acts_of-inj (x ∷ xs) (y ∷ ys) e =
    let row : x.0 ≡ y.0 = cc in
    let form : x.1 ≡ y.1 = cc in
    let rest : acts_of xs ≡ acts_of ys = cc in
    ap₂ ◌∷◌ (λ i. (row i, form i)) (acts_of-inj xs ys rest)
acts_of-inj xs ys e = absurd cc

-- where all say the same, so does each
pub same_here : {A B : Type 0} (f : A → B) (xs ys : List A) (i : ℕ) (x y : A) → length xs ≡ length ys
    → i < length xs → x ≡ get_or xs i x → y ≡ get_or ys i y → map f xs ≡ map f ys → f x ≡ f y
same_here f xs ys i x y same within at_x at_y all =
    let within_ys : i < length ys = omega arith in
    ap f at_x ∙ sym (get_or-map f xs i x (f x) within) ∙ ap (λ l. get_or l i (f x)) all ∙ get_or-map f ys i y (f x) within_ys ∙ ap f (sym at_y)

-- what two chains of equal operators and first operands say is told by the operands after them
pub chains_same : {r : Bool} {s t : Term} {o p : Operator} {x y : Term} {xs ys : List Term}
    → s ≡ chain o x (terms_of xs) → t ≡ chain p y (terms_of ys) → o ≡ p → x ≡ y → (IsTrue r ↔ (xs ≡ ys))
    → IsTrue r ↔ (s ≡ t)
chains_same {r} {s} {t} {o} {p} {x} {y} {xs} {ys} at_s at_t o_p x_y told = (
  λ yes_. let tails : terms_of xs ≡ terms_of ys = ap terms_of (told.0 yes_) in cc,
  λ e. let tails : terms_of xs ≡ terms_of ys = cc in told.1 (terms_of-inj xs ys tails),
)

-- what two choices of equal conditions and first bodies say is told by the second bodies
pub choices_same : {r : Bool} {s t : Act} {x y : Term} {ps bs cs ds : List (ℕ × Act)}
    → s ≡ choice x (acts_of ps) (acts_of bs) → t ≡ choice y (acts_of cs) (acts_of ds) → x ≡ y → ps ≡ cs
    → (IsTrue r ↔ (bs ≡ ds)) → IsTrue r ↔ (s ≡ t)
choices_same {r} {s} {t} {x} {y} {ps} {bs} {cs} {ds} at_s at_t x_y ps_cs told = (
  λ yes_.
      let firsts : acts_of ps ≡ acts_of cs = ap acts_of ps_cs in
      let seconds : acts_of bs ≡ acts_of ds = ap acts_of (told.0 yes_) in
      cc,
  λ e. let seconds : acts_of bs ≡ acts_of ds = cc in told.1 (acts_of-inj bs ds seconds),
)

-- two choices differ where their first bodies do
pub choices_differ : {r : Bool} {s t : Act} {x y : Term} {ps cs : List (ℕ × Act)} {us vs : Acts}
    → s ≡ choice x (acts_of ps) us → t ≡ choice y (acts_of cs) vs → r ≡ false → (x ≡ y → ps ≡ cs → ⊥)
    → IsTrue r ↔ (s ≡ t)
choices_differ {r} {s} {t} {x} {y} {ps} {cs} {us} {vs} at_s at_t r_no apart = (
  λ yes_. absurd cc,
  λ e.
      let same_x : x ≡ y = cc in
      let firsts : acts_of ps ≡ acts_of cs = cc in
      absurd (apart same_x (acts_of-inj ps cs firsts)),
)

-- what two choices of equal conditions and second bodies say is told by the first bodies
pub ifs_same : {r : Bool} {s t : Act} {x y : Term} {ps cs : List (ℕ × Act)} {us : Acts} → s ≡ choice x (acts_of ps) us
    → t ≡ choice y (acts_of cs) us → x ≡ y → (IsTrue r ↔ (ps ≡ cs)) → IsTrue r ↔ (s ≡ t)
ifs_same {r} {s} {t} {x} {y} {ps} {cs} at_s at_t x_y told = (
  λ yes_. let firsts : acts_of ps ≡ acts_of cs = ap acts_of (told.0 yes_) in cc,
  λ e. let firsts : acts_of ps ≡ acts_of cs = cc in told.1 (acts_of-inj ps cs firsts),
)

-- whether a list is empty is told of what it is mapped to
empty_list : {A B : Type 0} {r : Bool} (f : A → B) (xs : List A) → r ≡ (length xs == 0) → IsTrue r ↔ (map f xs ≡ [])
empty_list f [] e = (λ yes_. refl, λ none. e)
empty_list f (x ∷ xs) e =
    let some : (length (x ∷ xs) == 0) ≡ false = grind (arith, nat_tests) in
    (λ yes_. absurd cc, λ none. absurd cc)

pub empty_told : {A B Z : Type 0} {r : Bool} (f : A → B) (v : Vec A Z) → r ≡ (vec_len v == 0) → IsTrue r ↔ (map f v.items ≡ [])
empty_told f v e =
    let all : vec_len v ≡ length v.items = omega (arith, v.ok.0) in
    empty_list f v.items (e ∙ ap (λ n. n == 0) all)

-- what two repeats of equal numbers of turns say is told by their bodies
pub repeats_same : {r : Bool} {s t : Act} {x y : Term} {ps cs : List (ℕ × Act)} → s ≡ repeat x (acts_of ps)
    → t ≡ repeat y (acts_of cs) → x ≡ y → (IsTrue r ↔ (ps ≡ cs)) → IsTrue r ↔ (s ≡ t)
repeats_same {r} {s} {t} {x} {y} {ps} {cs} at_s at_t x_y told = (
  λ yes_. let bodies : acts_of ps ≡ acts_of cs = ap acts_of (told.0 yes_) in cc,
  λ e. let bodies : acts_of ps ≡ acts_of cs = cc in told.1 (acts_of-inj ps cs bodies),
)

-- what two blocks say is told by their statements
pub blocks_same : {r : Bool} {ps qs : List (ℕ × Act)} → (IsTrue r ↔ (ps ≡ qs))
    → IsTrue r ↔ (acts_of ps ≡ acts_of qs)
blocks_same {r} {ps} {qs} told = (λ yes_. ap acts_of (told.0 yes_), λ e. told.1 (acts_of-inj ps qs e))
