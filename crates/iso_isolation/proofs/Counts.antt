-- How many steps a body still needs to end.
use Rattle.std.proofs.Common.{◌≡◌, ℕ, zero, suc, ◌≤◌, List, Bool, true, false, cond, inl, inr, refl, sym, ap, ◌∙◌, arith, le_refl}
use Rattle.iso_isolation.specs.Languages.{Content, Language}
use Rattle.iso_isolation.specs.Runs.{steps_to_end, steps_left}
use Rattle.iso_isolation.specs.Histories.{EndLaws}
use Rattle.iso_isolation.proofs.Changes.{true_or_false}

module _ {H K V B F R : Type 0} (l : Language H K V B F R) (ends : EndLaws l) (hs : List H) where
  none_at : (most : ℕ) (b : B) (m : Content K V) → l.ended b ≡ true → steps_to_end l most hs b m ≡ 0
  none_at zero b m e = refl
  none_at (suc most) b m e =
      ap (λ (t : Bool). cond t 0 (suc (steps_to_end l most hs (l.step hs b m).body (l.step hs b m).content))) e

  one_at : (most : ℕ) (b : B) (m : Content K V) → l.ended b ≡ false
      → steps_to_end l (suc most) hs b m ≡ suc (steps_to_end l most hs (l.step hs b m).body (l.step hs b m).content)
  one_at most b m e = ap (λ (t : Bool). cond t 0 (suc (steps_to_end l most hs (l.step hs b m).body (l.step hs b m).content))) e

  -- counting further changes nothing
  enough : (i j : ℕ) (b : B) (m : Content K V) → ends.is_ready b ≡ true → l.distance b ≤ i → l.distance b ≤ j → steps_to_end l i hs b m ≡ steps_to_end l j hs b m
  enough zero zero b m r lo hi = refl
  enough zero (suc j) b m r lo hi = elim (true_or_false (l.ended b)) [
    | inl t ↦ sym (none_at (suc j) b m t)
    | inr f ↦ let less = ends.nearer hs b m r f in absurd (omega arith)
  ]
  enough (suc i) zero b m r lo hi = elim (true_or_false (l.ended b)) [
    | inl t ↦ none_at (suc i) b m t
    | inr f ↦ let less = ends.nearer hs b m r f in absurd (omega arith)
  ]
  enough (suc i) (suc j) b m r lo hi = elim (true_or_false (l.ended b)) [
    | inl t ↦ none_at (suc i) b m t ∙ sym (none_at (suc j) b m t)
    | inr f ↦
        let less = ends.nearer hs b m r f in
        let p = l.step hs b m in
        one_at i b m f
        ∙ ap suc (enough i j p.body p.content (ends.steps hs b m r) (omega arith) (omega arith))
        ∙ sym (one_at j b m f)
  ]

  pub none_left : (b : B) (m : Content K V) → l.ended b ≡ true → steps_left l hs b m ≡ 0
  none_left b m e = none_at (l.distance b) b m e

  one_by : (d : ℕ) (b : B) (m : Content K V) → l.distance b ≡ d → ends.is_ready b ≡ true → l.ended b ≡ false
      → steps_to_end l d hs b m ≡ suc (steps_left l hs (l.step hs b m).body (l.step hs b m).content)
  one_by zero b m e r f = let less = ends.nearer hs b m r f in absurd (omega arith)
  one_by (suc d) b m e r f =
      let less = ends.nearer hs b m r f in
      let p = l.step hs b m in
      one_at d b m f ∙ ap suc (enough d (l.distance p.body) p.body p.content (ends.steps hs b m r) (omega arith) (le_refl (l.distance p.body)))

  pub one_less : (b : B) (m : Content K V) → ends.is_ready b ≡ true → l.ended b ≡ false
      → steps_left l hs b m ≡ suc (steps_left l hs (l.step hs b m).body (l.step hs b m).content)
  one_less b m r f = one_by (l.distance b) b m refl r f
