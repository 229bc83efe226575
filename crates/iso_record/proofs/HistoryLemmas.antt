-- Histories that go on, and how a run in full comes to its next event.
use Rattle.std.proofs.Common.{◌≡◌, ℕ, List, [], ◌∷◌, ◌++◌, Bool, true, false, ◌&&◌, refl, sym, ap, subst, ◌∙◌, append-nil}
use Rattle.iso_isolation.proofs.Accepted.{body_found, leave_told, none_applies, not_refused}
use Rattle.iso_isolation.proofs.Lists.{full_append, full_history, run_append}
use Rattle.iso_isolation.specs.Events.{Event, Enter, Leave, Shut, Step, where_some}
use Rattle.iso_isolation.specs.Histories.{IsHistory, has_no_step, state_of}
use Rattle.iso_isolation.specs.Languages.{Language}
use Rattle.iso_isolation.specs.Refusals as Why
use Rattle.iso_isolation.specs.Refusals.{body_of, kinds}
use Rattle.iso_isolation.specs.Runs.{after_all_of, full, history_of, is_accepted, is_run, with_steps}
use Rattle.iso_isolation.specs.States.{State, first}
use Rattle.iso_isolation.specs.Suites.{Suite}

both : (a b : Bool) → (a && b) ≡ true → (a ≡ true) × (b ≡ true)
both true b e = (refl, e)
both false b e = absurd cc

no_step_before : (h g : List Event) → has_no_step (h ++ g) ≡ true → has_no_step h ≡ true
no_step_before [] g e = refl
no_step_before (Enter w n ∷ h) g e = no_step_before h g e
no_step_before (Step w ∷ h) g e = absurd cc
no_step_before (Leave w ∷ h) g e = no_step_before h g e
no_step_before (Shut w n ∷ h) g e = no_step_before h g e

pub no_step_after : (h g : List Event) → has_no_step (h ++ g) ≡ true → has_no_step g ≡ true
no_step_after [] g e = e
no_step_after (Enter w n ∷ h) g e = no_step_after h g e
no_step_after (Step w ∷ h) g e = absurd cc
no_step_after (Leave w ∷ h) g e = no_step_after h g e
no_step_after (Shut w n ∷ h) g e = no_step_after h g e

module _ {H K V B F R : Type 0} (l : Language H K V B F R) (x : Suite H K V) (workers : ℕ) where
  -- the rest of a run is a run from where it has come
  pub run_left : (es fs : List Event) (s : State K V B F R) → is_run l x workers s (es ++ fs) ≡ true → is_run l x workers (after_all_of l x s es) fs ≡ true
  run_left es fs s e = (both _ _ (sym (run_append l x workers es fs s) ∙ e)).1

  run_before : (es fs : List Event) (s : State K V B F R) → is_run l x workers s (es ++ fs) ≡ true → is_run l x workers s es ≡ true
  run_before es fs s e = (both _ _ (sym (run_append l x workers es fs s) ∙ e)).0

  pub next_accepted : (s : State K V B F R) (e : Event) (es : List Event) → is_run l x workers s (e ∷ es) ≡ true → is_accepted l x workers s e ≡ true
  next_accepted s e es run = (both _ _ run).0

  -- the beginning of a history is one
  pub history_before : (h g : List Event) → IsHistory l x workers (h ++ g) → IsHistory l x workers h
  history_before h g is = record {
    no_step = no_step_before h g is.no_step;
    run = run_before (full l x (first l x) h) _ (first l x) (subst (λ (es : List Event). is_run l x workers (first l x) es ≡ true) (full_append l x h g (first l x)) is.run);
  }

  -- a history in full with one event more
  pub full_next : (h : List Event) (e : Event) → full l x (first l x) (h ++ e ∷ []) ≡ full l x (first l x) h ++ with_steps l x (state_of l x h) e
  full_next h e =
      full_append l x h (e ∷ []) (first l x)
      ∙ ap (λ (es : List Event). full l x (first l x) h ++ es) (append-nil (with_steps l x (state_of l x h) e))

  -- what is left of it from where it has come
  pub next_run : (h : List Event) (e : Event) → IsHistory l x workers (h ++ e ∷ []) → is_run l x workers (state_of l x h) (with_steps l x (state_of l x h) e) ≡ true
  next_run h e is =
      run_left (full l x (first l x) h) (with_steps l x (state_of l x h) e) (first l x)
      (subst (λ (es : List Event). is_run l x workers (first l x) es ≡ true) (full_next h e) is.run)

  pub history_again : (h : List Event) → IsHistory l x workers h → history_of (full l x (first l x) h) ≡ h
  history_again h is = full_history l x h (first l x) is.no_step

  -- a body that makes a step hasn't ended, so that it isn't left
  pub step_or_leave : (s : State K V B F R) (w : ℕ) → is_accepted l x workers s (Step w) ≡ true → is_accepted l x workers s (Leave w) ≡ true → ⊥
  step_or_leave s w step leave =
      let h = leave_told l x workers s w leave in
      let t = none_applies (kinds l x workers s (Step w)) step in
      let on : where_some (body_of l x workers s w) false l.ended ≡ false = not_refused _ Why.BodyEnded t.1.1.1.0 in
      let off : where_some (body_of l x workers s w) false l.ended ≡ true = ap (λ o. where_some o false l.ended) (body_found l x workers s w h.has) ∙ h.over in
      cc
