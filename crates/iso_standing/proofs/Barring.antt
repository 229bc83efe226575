-- What becomes of the phases where a class is barred.
use Rattle.std.proofs.Common.{◌≡◌, ℕ, ◌<◌, ◌≤◌, List, length, Bool, true, false, cond, eqb, ◌&&◌, get_or, set, ap, sym, ◌∙◌, arith, inl, inr, refl}
use Rattle.std.proofs.lemmas.Bool.{cases_eq}
use Rattle.std.proofs.lemmas.List.{get_or-set_other, get_or-set_same}
use Rattle.iso_standing.proofs.Inside.{not-inside}
use Rattle.iso_standing.specs.Phases.{bare}
use Rattle.iso_standing.specs.Standings.{Standing, is_inside, phase_at, phase_under}
use Rattle.iso_standing.specs.declared.phase.Phase.{Phase}
use Rattle.iso_standing.specs.declared.phase.Phase.TheVariants.{Barred, Finished, Open}
use Rattle.iso_isolation.specs.States.{is_waiting}
use Rattle.iso_plan.proofs.PathLemmas.{IsBelow, eq_not, eq_same}
use Rattle.iso_plan.specs.RowView.{tree_of}

and-false : (a : Bool) → (a && false) ≡ false
and-false true = refl
and-false false = refl

-- what doesn't wait stays
stays : (v : Standing) (c m : ℕ) → is_waiting (bare (phase_at v m)) ≡ false → phase_under v c m ≡ phase_at v m
stays v c m e = ap (λ (b : Bool). cond b Finished (phase_at v m)) (ap (λ (b : Bool). is_inside v m c && b) e ∙ and-false (is_inside v m c))

-- and so does what stands elsewhere
pub stays-outside : (v : Standing) (c m : ℕ) → is_inside v m c ≡ false → phase_under v c m ≡ phase_at v m
stays-outside v c m e = ap (λ (b : Bool). cond (b && is_waiting (bare (phase_at v m))) Finished (phase_at v m)) e

-- a node that isn't behind the class doesn't stand in it
pub stays-before : (v : Standing) → IsBelow (tree_of v.plan) → phase_at v 0 ≡ Open → (c m : ℕ) → m ≤ c → phase_under v c m ≡ phase_at v m
stays-before v below root c m h = elim (cases_eq m 0) [
  | inl first ↦ stays v c m (ap (λ j. is_waiting (bare (phase_at v j))) first ∙ ap (λ (p : Phase). is_waiting (bare p)) root)
  | inr other ↦
      let less = below m (omega (arith, other)) in
      stays-outside v c m (not-inside (tree_of v.plan) below _ c (omega arith))
]

-- the phases with the class barred, before any other node is looked at
pub barred-at : (ps : List Phase) (d : Phase) (c m : ℕ) → c < length ps → get_or (set ps c Barred) m d ≡ cond (eqb m c) Barred (get_or ps m d)
barred-at ps d c m h = elim (cases_eq m c) [
  | inl same ↦
      ap (λ j. get_or (set ps c Barred) j d) same ∙ get_or-set_same ps c Barred d h
      ∙ sym (ap (λ (b : Bool). cond b Barred (get_or ps m d)) (ap (λ j. eqb j c) same ∙ eq_same c))
  | inr other ↦ get_or-set_other ps c m Barred d other ∙ sym (ap (λ (b : Bool). cond b Barred (get_or ps m d)) (eq_not m c other))
]

-- what stands in the class is finished where it waits
pub under-inside : (v : Standing) (c m : ℕ) → is_inside v m c ≡ true → (p : Phase) → p ≡ phase_at v m → cond (is_waiting (bare p)) Finished p ≡ phase_under v c m
under-inside v c m inside p e =
    ap (λ (q : Phase). cond (is_waiting (bare q)) Finished q) e
    ∙ sym (ap (λ (b : Bool). cond (b && is_waiting (bare (phase_at v m))) Finished (phase_at v m)) inside)
