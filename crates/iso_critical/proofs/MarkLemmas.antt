-- Marks, place by place.
use Rattle.std.proofs.Common.{◌≡◌, ◌<◌, ℕ, List, ◌+◌, Bool, true, false, ◌==◌, ◌||◌, get_or, set, take, length, refl, ap, ap₂, sym, ◌∙◌, get_or-set_same, get_or-set_other, arith}
use Rattle.std.proofs.lemmas.Bool.Decides.{nat_tests}
use Rattle.std.proofs.lemmas.List.Folds.{list_any_more}
use Rattle.std.specs.List.{list_any}
use Rattle.iso_critical.specs.declared.body.Body.{Body}

set-read : (xs : List Bool) (m n : ℕ) → m < length xs → get_or (set xs m true) n false ≡ (get_or xs n false || m == n)
set-read xs m n h = by (m == n) refl
  where
    or-true : (b : Bool) → true ≡ (b || true)
    or-true true = refl
    or-true false = refl

    or-false : (b : Bool) → b ≡ (b || false)
    or-false true = refl
    or-false false = refl

    by : (b : Bool) → (m == n) ≡ b → get_or (set xs m true) n false ≡ (get_or xs n false || b)
    by true e = let same : n ≡ m = grind (arith, nat_tests) in ap (λ (k : ℕ). get_or (set xs m true) k false) same ∙ get_or-set_same xs m true false h ∙ or-true (get_or xs n false)
    by false e = get_or-set_other xs m n true false (λ same. absurd (let no : (m == m) ≡ true = grind (arith, nat_tests) in cc)) ∙ or-false (get_or xs n false)

pub mark-more : (xs : List Bool) (bs : List Body) (i : ℕ) (b : Body) (n : ℕ) → i < length bs → b ≡ get_or bs i b → b.place < length xs
    → get_or xs n false ≡ list_any (λ c. c.place == n) (take i bs) → get_or (set xs b.place true) n false ≡ list_any (λ c. c.place == n) (take (i + 1) bs)
mark-more xs bs i b n h is inside before =
    set-read xs b.place n inside
    ∙ ap₂ (λ (t : Bool) (c : Body). t || c.place == n) before is
    ∙ sym (list_any_more (λ c. c.place == n) bs i b h)
