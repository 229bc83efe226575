-- What a standing keeps of the nodes that hold their locks.
use Rattle.std.proofs.Common.{◌≡◌, ℕ, zero, suc, ◌<◌, List, length, get_or, set, replicate, Bool, true, false, is_some, ap, ap₂, sym, ◌∙◌, inl, inr, arith, refl}
use Rattle.std.proofs.lemmas.Bool.{cases_eq}
use Rattle.std.proofs.lemmas.List.{get_or-set_other, get_or-set_same, length-replicate, length-set}
use Rattle.iso_isolation.specs.States as States
use Rattle.iso_plan.specs.Conflicts.{lowest_in_the_way}
use Rattle.iso_plan.specs.HeldNodes.{HeldView, holding, is_held, none_held}
use Rattle.iso_plan.specs.Planned.{Planned}
use Rattle.iso_plan.specs.RowView.{tree_of}
use Rattle.iso_standing.specs.Holding.{KeepsHeld, with_held}
use Rattle.iso_standing.specs.Phases.{bare}
use Rattle.iso_standing.specs.declared.phase.Phase.{Phase}
use Rattle.iso_standing.specs.declared.phase.Phase.TheVariants.{Open, Waiting}

-- what a held node is in the way of, one that holds its locks by its phase is
pub excluded-same : (p : Planned) (phases : List Phase) (h : HeldView) (n : ℕ) → KeepsHeld p phases h
    → is_some (lowest_in_the_way (tree_of h.plan) (is_held h.held) n) ≡ is_some (lowest_in_the_way (tree_of p) (λ m. States.is_held (bare (get_or phases m Waiting))) n)
excluded-same p phases h n k =
    let same : is_held h.held ≡ (λ m. States.is_held (bare (get_or phases m Waiting))) = λ i m. k.held m i in
    ap₂ (λ (q : Planned) (f : ℕ → Bool). is_some (lowest_in_the_way (tree_of q) f n)) k.plan same

-- a node that comes to a phase is held where the phase holds locks
pub holding-phase : (p : Planned) (phases : List Phase) (h : HeldView) (n : ℕ) (to : Phase) → n < length phases → n < length p.rows → KeepsHeld p phases h
    → KeepsHeld p (set phases n to) (with_held h n (States.is_held (bare to)))
holding-phase p phases h n to within there k =
    let each = k.each in
    let inside : n < length h.held = omega arith in
    let b = States.is_held (bare to) in
    record {
      plan = k.plan;
      each = length-set h.held n b ∙ k.each;
      held = λ m. elim (cases_eq m n) [
        | inl here ↦
            ap (is_held (set h.held n b)) here ∙ get_or-set_same h.held n b false inside
            ∙ ap (λ (q : Phase). States.is_held (bare q)) (sym (ap (λ j. get_or (set phases n to) j Waiting) here ∙ get_or-set_same phases n to Waiting within))
        | inr other ↦
            get_or-set_other h.held n m b false other ∙ k.held m ∙ ap (λ (q : Phase). States.is_held (bare q)) (sym (get_or-set_other phases n m to Waiting other))
      ];
    }

none-at : (n m : ℕ) → is_held (replicate n false) m ≡ States.is_held (bare (get_or (replicate n Waiting) m Waiting))
none-at zero m = refl
none-at (suc n) zero = refl
none-at (suc n) (suc m) = none-at n m

-- at first none is
pub holding-none : (p : Planned) (n : ℕ) → n ≡ length p.rows → KeepsHeld p (replicate n Waiting) (none_held p)
holding-none p n e =
    record {
      plan = refl;
      each = length-replicate (length p.rows) false;
      held = λ m. ap (λ (k : ℕ). is_held (replicate k false) m) (sym e) ∙ none-at n m;
    }

-- then the root alone
pub holding-root : (p : Planned) (n : ℕ) → n ≡ length p.rows → 0 < n → KeepsHeld p (set (replicate n Waiting) 0 Open) (holding 0 (none_held p))
holding-root p n e some =
    let long = length-replicate n Waiting in
    holding-phase p (replicate n Waiting) (none_held p) 0 Open (omega arith) (omega arith) (holding-none p n e)
