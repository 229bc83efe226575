-- Runs of scripts: no event stops them, and no worker past their number has a body.
use Rattle.std.proofs.Common.{◌≡◌, ℕ, ◌<◌, ◌≤◌, List, [], ◌∷◌, Option, Some, None, Bool, true, false, ◌&&◌, leb, refl, sym, ap, ◌∙◌, arith}
use Rattle.iso_isolation.proofs.Accepted.{in_plan, none_applies, not_refused}
use Rattle.iso_isolation.proofs.Changes.{put_elsewhere}
use Rattle.iso_isolation.specs.Events as E
use Rattle.iso_isolation.specs.Events.{after}
use Rattle.iso_isolation.specs.Refusals as Why
use Rattle.iso_isolation.specs.Refusals.{kinds}
use Rattle.iso_isolation.specs.Runs.{after_all_of, is_accepted, is_run}
use Rattle.iso_isolation.specs.States.{put}
use Rattle.iso_isolation.specs.Suites.{Suite}
use Rattle.iso_model.specs.declared.resource.Resource.{Resource}
use Rattle.iso_suites.specs.ScriptLanguage.{Head, scripts}
use Rattle.iso_suites.specs.SuiteStates.{RunState, stopped_if}

pub both-true : (a b : Bool) → (a && b) ≡ true → (a ≡ true) × (b ≡ true)
both-true true b e = (refl, e)
both-true false b e = absurd cc

module _ (x : Suite Head (List ℕ) Resource) where
  -- no event stops a run
  pub stopped-after : (s : RunState) (e : E.Event) → (after scripts x s e).stopped ≡ s.stopped
  stopped-after s (E.Enter w n) = refl
  stopped-after s (E.Step w) = refl
  stopped-after s (E.Leave w) = refl
  stopped-after s (E.Shut w n) = refl

  pub stopped-run : (es : List E.Event) (s : RunState) → (after_all_of scripts x s es).stopped ≡ s.stopped
  stopped-run [] s = refl
  stopped-run (e ∷ es) s = stopped-run es (after scripts x s e) ∙ stopped-after s e

  module _ (workers : ℕ) where
    -- no worker past their number has a body
    abbrev pub Idle : RunState → Type 0
    Idle s = (u : ℕ) → workers ≤ u → s.busy u ≡ None

    worker-below : (s : RunState) (w : ℕ) → Why.no_worker scripts x workers s w ≡ None → w < workers
    worker-below s w e = in_plan workers w (not_refused (leb workers w) Why.NoWorker e)

    idle-put : (s : RunState) (w : ℕ) (o : Option ℕ) → Idle s → w < workers → (u : ℕ) → workers ≤ u → put w o s.busy u ≡ None
    idle-put s w o idle h u past = put_elsewhere u w o s.busy (λ e. absurd (omega arith)) ∙ idle u past

    idle-after : (s : RunState) (e : E.Event) → Idle s → is_accepted scripts x workers s e ≡ true → Idle (after scripts x s e)
    idle-after s (E.Enter w n) idle ok = idle-put s w (Some n) idle (worker-below s w (none_applies (kinds scripts x workers s (E.Enter w n)) ok).1.0)
    idle-after s (E.Step w) idle ok = idle
    idle-after s (E.Leave w) idle ok = idle-put s w None idle (worker-below s w (none_applies (kinds scripts x workers s (E.Leave w)) ok).1.0)
    idle-after s (E.Shut w n) idle ok = idle-put s w (Some n) idle (worker-below s w (none_applies (kinds scripts x workers s (E.Shut w n)) ok).1.0)

    pub idle-run : (es : List E.Event) (s : RunState) → Idle s → is_run scripts x workers s es ≡ true → Idle (after_all_of scripts x s es)
    idle-run [] s idle run = idle
    idle-run (e ∷ es) s idle run =
        let parts = both-true (is_accepted scripts x workers s e) (is_run scripts x workers (after scripts x s e) es) run in
        idle-run es (after scripts x s e) (idle-after s e idle parts.0) parts.1

pub as-is : (b : Bool) (s : RunState) → s.stopped ≡ b → stopped_if b s ≡ s
as-is b s e = ap (λ (t : Bool). stopped_if t s) (sym e)
