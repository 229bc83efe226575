-- Where a mark more stands among others.
use Rattle.std.proofs.Common.{◌≡◌, ℕ, zero, suc, ◌<◌, ◌≤◌, List, [], ◌∷◌, ◌++◌, length, get_or, set, Bool, true, false, cond, ap, ◌∙◌, refl, arith}
use Rattle.iso_model.specs.declared.heads.Mark.{Mark}
use Rattle.iso_plan.specs.Merged.{as_one, is_same_key, with_mark}

-- at the first mark of its key and target
pub merges-at : (most : ℕ) (ns : List Mark) (m d : Mark) (i : ℕ) → i < most → i < length ns → ((j : ℕ) → j < i → is_same_key (get_or ns j d) m ≡ false)
    → is_same_key (get_or ns i d) m ≡ true → with_mark most ns m ≡ set ns i (as_one (get_or ns i d) m)
merges-at zero ns m d i fits less none here = absurd (omega arith)
merges-at (suc most) [] m d i fits less none here = absurd (omega arith)
merges-at (suc most) (n ∷ ns) m d zero fits less none here = ap (λ (b : Bool). cond b (as_one n m ∷ ns) (n ∷ with_mark most ns m)) here
merges-at (suc most) (n ∷ ns) m d (suc i) fits less none here =
    ap (λ (b : Bool). cond b (as_one n m ∷ ns) (n ∷ with_mark most ns m)) (none 0 (omega arith))
    ∙ ap (λ (xs : List Mark). n ∷ xs) (merges-at most ns m d i (omega arith) (omega arith) (λ j before. none (suc j) (omega arith)) here)

-- after all others, where there is none
pub merges-last : (most : ℕ) (ns : List Mark) (m d : Mark) → length ns < most → ((j : ℕ) → j < length ns → is_same_key (get_or ns j d) m ≡ false)
    → with_mark most ns m ≡ ns ++ m ∷ []
merges-last zero ns m d less none = absurd (omega arith)
merges-last (suc most) [] m d less none = refl
merges-last (suc most) (n ∷ ns) m d less none =
    ap (λ (b : Bool). cond b (as_one n m ∷ ns) (n ∷ with_mark most ns m)) (none 0 (omega arith))
    ∙ ap (λ (xs : List Mark). n ∷ xs) (merges-last most ns m d (omega arith) (λ j before. none (suc j) (omega arith)))

-- nowhere, where there is none among so many
pub merges-full : (most : ℕ) (ns : List Mark) (m d : Mark) → most ≤ length ns → ((j : ℕ) → j < most → is_same_key (get_or ns j d) m ≡ false)
    → with_mark most ns m ≡ ns
merges-full zero ns m d full none = refl
merges-full (suc most) [] m d full none = absurd (omega arith)
merges-full (suc most) (n ∷ ns) m d full none =
    ap (λ (b : Bool). cond b (as_one n m ∷ ns) (n ∷ with_mark most ns m)) (none 0 (omega arith))
    ∙ ap (λ (xs : List Mark). n ∷ xs) (merges-full most ns m d (omega arith) (λ j before. none (suc j) (omega arith)))
