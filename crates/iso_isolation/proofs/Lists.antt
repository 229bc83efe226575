-- Runs of lists put together, and histories in full.
use Rattle.std.proofs.Common.{◌≡◌, ℕ, zero, suc, List, [], ◌∷◌, ◌++◌, replicate, Bool, true, false, ◌&&◌, refl, sym, ap, ◌∙◌, append_assoc}
use Rattle.iso_isolation.specs.Languages.{Language}
use Rattle.iso_isolation.specs.Suites.{Suite}
use Rattle.iso_isolation.specs.States.{State}
use Rattle.iso_isolation.specs.Events.{Event, Enter, Step, Leave, Shut, after}
use Rattle.iso_isolation.specs.Runs.{is_accepted, is_run, after_all_of, with_steps, steps_needed, full, history_of}
use Rattle.iso_isolation.specs.Histories.{has_no_step}

module _ {H K V B F R : Type 0} (l : Language H K V B F R) (x : Suite H K V) where
  pub after_append : (es fs : List Event) (s : State K V B F R) → after_all_of l x s (es ++ fs) ≡ after_all_of l x (after_all_of l x s es) fs
  after_append [] fs s = refl
  after_append (e ∷ es) fs s = after_append es fs (after l x s e)

  and_assoc : (a b c : Bool) → (a && (b && c)) ≡ ((a && b) && c)
  and_assoc true b c = refl
  and_assoc false b c = refl

  pub run_append : (workers : ℕ) (es fs : List Event) (s : State K V B F R)
      → is_run l x workers s (es ++ fs) ≡ (is_run l x workers s es && is_run l x workers (after_all_of l x s es) fs)
  run_append workers [] fs s = refl
  run_append workers (e ∷ es) fs s =
      ap (λ (b : Bool). is_accepted l x workers s e && b) (run_append workers es fs (after l x s e))
      ∙ and_assoc (is_accepted l x workers s e) (is_run l x workers (after l x s e) es) (is_run l x workers (after_all_of l x (after l x s e) es) fs)

  pub full_append : (h g : List Event) (s : State K V B F R) → full l x s (h ++ g) ≡ full l x s h ++ full l x (after_all_of l x s (full l x s h)) g
  full_append [] g s = refl
  full_append (e ∷ h) g s =
      let es = with_steps l x s e in
      let t = after_all_of l x s es in
      ap (λ (j : List Event). es ++ j) (full_append h g t)
      ∙ ap (λ (j : State K V B F R). es ++ (full l x t h ++ full l x j g)) (sym (after_append es (full l x t h) s))
      ∙ sym (append_assoc es (full l x t h) (full l x (after_all_of l x s (es ++ full l x t h)) g))

  both : (a b : Bool) → a ≡ true → b ≡ true → (a && b) ≡ true
  both true b e f = f
  both false b e f = absurd cc

  pub run_on : (workers : ℕ) (es fs : List Event) (s : State K V B F R) → is_run l x workers s es ≡ true → is_run l x workers (after_all_of l x s es) fs ≡ true
      → is_run l x workers s (es ++ fs) ≡ true
  run_on workers es fs s e f = run_append workers es fs s ∙ both _ _ e f

steps_are_no_history : (i w : ℕ) (es : List Event) → history_of (replicate i (Step w) ++ es) ≡ history_of es
steps_are_no_history zero w es = refl
steps_are_no_history (suc i) w es = steps_are_no_history i w es

module _ {H K V B F R : Type 0} (l : Language H K V B F R) (x : Suite H K V) where
  -- a history in full is that history, but for its Steps
  pub full_history : (h : List Event) (s : State K V B F R) → has_no_step h ≡ true → history_of (full l x s h) ≡ h
  full_history [] s clean = refl
  full_history (Enter w n ∷ h) s clean = ap (λ (g : List Event). Enter w n ∷ g) (full_history h (after_all_of l x s (Enter w n ∷ [])) clean)
  full_history (Step w ∷ h) s clean = absurd cc
  full_history (Shut w n ∷ h) s clean = ap (λ (g : List Event). Shut w n ∷ g) (full_history h (after_all_of l x s (Shut w n ∷ [])) clean)
  full_history (Leave w ∷ h) s clean =
      let steps = replicate (steps_needed l x s w) (Step w) in
      let rest = full l x (after_all_of l x s (with_steps l x s (Leave w))) h in
      ap history_of (append_assoc steps (Leave w ∷ []) rest)
      ∙ steps_are_no_history (steps_needed l x s w) w (Leave w ∷ rest)
      ∙ ap (λ (g : List Event). Leave w ∷ g) (full_history h (after_all_of l x s (with_steps l x s (Leave w))) clean)
