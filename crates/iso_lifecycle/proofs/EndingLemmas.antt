-- Endings of which those at the front are counted.
use Rattle.std.proofs.Common.{◌≡◌, ℕ, zero, suc, ◌+◌, ◌<◌, List, [], ◌∷◌, ◌++◌, replicate, length, ◌==◌, true, false, true≢false, refl, ap, ◌∙◌, sym, add-one, append-nil, arith}
use Rattle.std.proofs.lemmas.Grind.{common_steps}
use Rattle.std.proofs.lemmas.List.{replicate-append-replicate}
use Rattle.std.specs.List.{list_all}
use Rattle.iso_model.specs.Bodies.{first_ending}
use Rattle.iso_model.specs.Statements.{is_well}
use Rattle.iso_model.specs.Verdicts.{verdict}
use Rattle.iso_model.specs.declared.outcome.Ending.{Ending}
use Rattle.iso_model.specs.declared.outcome.Ending.TheVariants as E
use Rattle.iso_model.specs.declared.outcome.Ending.TheVariants.{Well}
use Rattle.iso_lifecycle.specs.Endings.{BeginIll}

well-is : (e : Ending) → is_well e ≡ true → e ≡ Well
well-is E.Well h = refl
well-is (E.Fail note) h = absurd (true≢false (sym h))
well-is (E.Fault kind note) h = absurd (true≢false (sym h))
well-is (E.Assumed note) h = absurd (true≢false (sym h))

well-more : (n : ℕ) → replicate n Well ++ Well ∷ [] ≡ replicate (suc n) Well ++ []
well-more zero = refl
well-more (suc n) = ap (λ (es : List Ending). Well ∷ es) (well-more n)

-- one more that is well, where all are
pub counted : (n m : ℕ) (old new : List Ending) (e : Ending) → old ≡ [] → new ≡ [] → m ≡ n + 1 → is_well e ≡ true → replicate m Well ++ new ≡ (replicate n Well ++ old) ++ e ∷ []
counted n m old new e none still more well =
    let next : m ≡ suc n = more ∙ add-one n in
    (λ i. replicate (next i) Well ++ still i) ∙ sym (well-more n)
    ∙ ap (λ (d : Ending). replicate n Well ++ d ∷ []) (sym (well-is e well))
    ∙ ap (λ (es : List Ending). es ++ e ∷ []) (sym (append-nil (replicate n Well)) ∙ ap (λ (es : List Ending). replicate n Well ++ es) (sym none))

some : (n : ℕ) → (suc n == 0) ≡ false
some n = grind (arith, common_steps)

-- whether all are well
pub all-well : (n : ℕ) (others : List Ending) → BeginIll others → list_all is_well (replicate n Well ++ others) ≡ (length others == 0)
all-well zero [] ill = refl
all-well zero (e ∷ es) ill = rw ill (sym (some (length es)))
all-well (suc n) others ill = all-well n others ill

-- the first of them
pub first-well : (n : ℕ) (others : List Ending) → 0 < n → first_ending (replicate n Well ++ others) ≡ Well
first-well zero others some = absurd (omega arith)
first-well (suc n) others some = refl

-- those that are well change no verdict
pub others-count : (n : ℕ) (others : List Ending) → verdict (replicate n Well ++ others) ≡ verdict others
others-count zero others = refl
others-count (suc n) others = others-count n others

-- one that isn't well, or one behind such a one
pub begin-more : (others : List Ending) (e : Ending) → BeginIll others → (length others ≡ 0 → is_well e ≡ false) → BeginIll (others ++ e ∷ [])
begin-more [] e ill first = first refl
begin-more (x ∷ xs) e ill first = ill

none-other : (others : List Ending) → (length others == 0) ≡ true → others ≡ []
none-other [] h = refl
none-other (e ∷ es) h = absurd (true≢false (sym h ∙ some (length es)))

-- more that are well, where all are
pub counted-more : (n m k : ℕ) (others : List Ending) → BeginIll others → list_all is_well (replicate n Well ++ others) ≡ true → m ≡ n + k
    → replicate m Well ++ others ≡ (replicate n Well ++ others) ++ replicate k Well
counted-more n m k others ill all more =
    let none : others ≡ [] = none-other others (sym (all-well n others ill) ∙ all) in
    (λ i. replicate (more i) Well ++ none i) ∙ append-nil (replicate (n + k) Well) ∙ sym (replicate-append-replicate n k Well)
    ∙ ap (λ (es : List Ending). es ++ replicate k Well) (sym (append-nil (replicate n Well)) ∙ ap (λ (es : List Ending). replicate n Well ++ es) (sym none))

pub still-all : (n m : ℕ) (others : List Ending) → BeginIll others → list_all is_well (replicate n Well ++ others) ≡ true → list_all is_well (replicate m Well ++ others) ≡ true
still-all n m others ill all = all-well m others ill ∙ sym (all-well n others ill) ∙ all
