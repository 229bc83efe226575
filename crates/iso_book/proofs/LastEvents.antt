-- A worker's node after a history is that of its last event, where this begins a body.
use Rattle.std.proofs.Common.{◌≡◌, ℕ, zero, suc, List, [], ◌∷◌, Option, Some, None, Bool, true, false, cond, eqb, ◌==◌, replicate, refl, sym, ap, ◌∙◌}
use Rattle.std.specs.Option.{option_or}
use Rattle.iso_book.proofs.LeaveRuns.{unrefused}
use Rattle.iso_book.specs.Books.{BookView, state_in, suite_in}
use Rattle.iso_book.specs.Leaves.{Began, begun_by, is_body_at, is_under_way, last_of, leave_refusal_in}
use Rattle.iso_isolation.proofs.Lists.{after_append}
use Rattle.iso_isolation.specs.Events as E
use Rattle.iso_isolation.specs.Events.{after, where_some}
use Rattle.iso_isolation.specs.Histories.{has_no_step}
use Rattle.iso_isolation.specs.Runs.{after_all_of, full, steps_needed, with_steps}
use Rattle.iso_isolation.specs.States.{first}
use Rattle.iso_isolation.specs.Suites.{Suite}
use Rattle.iso_lifecycle.specs.DoneViews.{DoneView}
use Rattle.iso_model.specs.declared.resource.Resource.{Resource}
use Rattle.iso_plan.proofs.PathLemmas.{eq_from}
use Rattle.iso_standing.specs.CodeEvents.{event_of, events_of, worker_of}
use Rattle.iso_standing.specs.declared.event.Event.{Event}
use Rattle.iso_standing.specs.declared.event.Event.TheVariants as Code
use Rattle.iso_suites.proofs.StateRuns.{both-true}
use Rattle.iso_suites.specs.ScriptLanguage.{Head, scripts}
use Rattle.iso_suites.specs.SuiteStates.{RunState}

-- the node of a worker after an event, and after a history
abbrev node-next : Option ℕ → ℕ → Event → Option ℕ
node-next o w e = cond (eqb w (worker_of e)) (begun_by e) o

abbrev node-after : Option ℕ → ℕ → List Event → Option ℕ
node-after o w [] = o
node-after o w (e ∷ es) = node-after (node-next o w e) w es

either : (t : Bool) (e : Event) (o : Option ℕ) → cond t (begun_by e) o ≡ where_some (cond t (Some e) None) o begun_by
either true e o = refl
either false e o = refl

later : (l : Option Event) (t : Bool) (e : Event) (o : Option ℕ)
    → where_some l (cond t (begun_by e) o) begun_by ≡ where_some (option_or l (cond t (Some e) None)) o begun_by
later None t e o = either t e o
later (Some f) t e o = refl

by-last : (w : ℕ) (h : List Event) (o : Option ℕ) → node-after o w h ≡ where_some (last_of w h) o begun_by
by-last w [] o = refl
by-last w (e ∷ es) o = by-last w es (node-next o w e) ∙ later (last_of w es) (eqb w (worker_of e)) e o

module _ (x : Suite Head (List ℕ) Resource) (w : ℕ) where
  steps-stay : (i u : ℕ) (s : RunState) → (after_all_of scripts x s (replicate i (E.Step u))).busy w ≡ s.busy w
  steps-stay zero u s = refl
  steps-stay (suc i) u s = steps-stay i u (after scripts x s (E.Step u))

  one : (s : RunState) (e : Event) (es : List Event) → has_no_step (events_of (e ∷ es)) ≡ true
      → (after_all_of scripts x s (with_steps scripts x s (event_of e))).busy w ≡ node-next (s.busy w) w e
  one s (Code.Enter u n) es no_step = refl
  one s (Code.Step u) es no_step = absurd cc
  one s (Code.Leave u) es no_step =
      ap (λ (q : RunState). q.busy w) (after_append scripts x (replicate (steps_needed scripts x s u) (E.Step u)) (E.Leave u ∷ []) s)
      ∙ ap (λ (o : Option ℕ). cond (eqb w u) None o) (steps-stay (steps_needed scripts x s u) u s)
  one s (Code.Shut u n) es no_step = refl

  rest : (e : Event) (es : List Event) → has_no_step (events_of (e ∷ es)) ≡ true → has_no_step (events_of es) ≡ true
  rest (Code.Enter u n) es no_step = no_step
  rest (Code.Step u) es no_step = absurd cc
  rest (Code.Leave u) es no_step = no_step
  rest (Code.Shut u n) es no_step = no_step

  node-is : (h : List Event) (s : RunState) → has_no_step (events_of h) ≡ true → (after_all_of scripts x s (full scripts x s (events_of h))).busy w ≡ node-after (s.busy w) w h
  node-is [] s no_step = refl
  node-is (e ∷ es) s no_step =
      let steps = with_steps scripts x s (event_of e) in
      let next = after_all_of scripts x s steps in
      ap (λ (q : RunState). q.busy w) (after_append scripts x steps (full scripts x next (events_of es)) s)
      ∙ node-is es next (rest e es no_step)
      ∙ ap (λ (o : Option ℕ). node-after o w es) (one s e es no_step)

-- a worker's last event is the one that began the body that it has
last-begins : (b : BookView) (w : ℕ) → has_no_step (events_of b.history) ≡ true → (state_in b).busy w ≡ where_some (last_of w b.history) None begun_by
last-begins b w no_step = node-is (suite_in b) w b.history (first scripts (suite_in b)) no_step ∙ by-last w b.history None

node-by : (b : BookView) (d : DoneView) (o : Option ℕ) → where_some o false (is_body_at b d) ≡ true → o ≡ Some d.subject.node
node-by b d None e = absurd cc
node-by b d (Some n) e = ap (λ (m : ℕ). Some m) (eq_from n d.subject.node (both-true (n == d.subject.node) (is_under_way b n d.kind) e).0)

pub began : (b : BookView) (w : ℕ) (d : DoneView) → has_no_step (events_of b.history) ≡ true → leave_refusal_in b w d ≡ None → Began b.history w d.subject.node
began b w d no_step none = sym (last-begins b w no_step) ∙ node-by b d ((state_in b).busy w) (unrefused b w d none).1
