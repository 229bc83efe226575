-- Every run keeps it.
use Rattle.std.proofs.Common.{◌≡◌, ℕ, ◌<◌, List, [], ◌∷◌, Option, Some, None, is_some, true, false, leb, inl, inr, refl, sym, ap, subst, ◌∙◌}
use Rattle.iso_isolation.specs.Languages.{Language, BodyLaws}
use Rattle.iso_isolation.specs.Suites.{Suite, chain, SuiteLaws}
use Rattle.iso_isolation.specs.States as S
use Rattle.iso_isolation.specs.States.{Status, Nodes, State, put, is_waiting, is_open, is_at_rest, body_in, first}
use Rattle.iso_isolation.specs.Events.{Event, Enter, Step, Leave, Shut, frames_of, stepping, leaving, where_some, after}
use Rattle.iso_isolation.specs.Refusals as Why
use Rattle.iso_isolation.specs.Refusals.{body_of}
use Rattle.iso_isolation.specs.Runs.{is_accepted, is_run, after_all_of}
use Rattle.iso_isolation.proofs.Accepted.{enter_passes, in_plan, leave_told, not_refused, shut_passes, shut_told, step_told}
use Rattle.iso_isolation.proofs.Barred.{keeps_first}
use Rattle.iso_isolation.proofs.Changes.{on_put}
use Rattle.iso_isolation.proofs.Invariant.{Kept}
use Rattle.iso_isolation.proofs.Runs.{keeps_event, run_parts}
use Rattle.iso_progress.specs.NeverStuck.{IsReached}
use Rattle.iso_progress.specs.ProgressLaws.{ProgressLaws}
use Rattle.iso_progress.proofs.Staffed.{Staffed, Standing, is_closed, rest_open_or_closed, waiting_unfinished, begins, goes_on}
use Rattle.iso_progress.proofs.Leaves.{leaves}

module _ {H K V B F R : Type 0} (l : Language H K V B F R) (x : Suite H K V) (plan : SuiteLaws l x) (laws : BodyLaws l) (more : ProgressLaws l x) (workers : ℕ) where
  module _ (s : State K V B F R) (kept : Kept l x s.nodes) (t : Staffed l x workers s) where
    -- a worker that isn't busy has no body anywhere
    idle : (w : ℕ) → is_some (body_of l x workers s w) ≡ false → (m : ℕ) (b : B) → s.busy w ≡ Some m → body_in (s.nodes.status m) ≡ Some b → ⊥
    idle w none m b at here =
        let found : is_some (body_of l x workers s w) ≡ true =
        ap (λ (o : Option ℕ). is_some (where_some o None (λ n. body_in (s.nodes.status n)))) at ∙ ap is_some here
        in cc

    owned_put : (w n : ℕ) → w < workers → (m : ℕ) → put n w s.owner m < workers
    owned_put w n lt m = on_put (λ (j v : ℕ). v < workers) n w s.owner m lt (λ ne. t.owned m)

    staffed_enter : (w n : ℕ) → is_accepted l x workers s (Enter w n) ≡ true → Staffed l x workers (after l x s (Enter w n))
    staffed_enter w n ok =
        let told = enter_passes l x workers s w n ok in
        let lt = in_plan workers w (not_refused (leb workers w) Why.NoWorker told.worker) in
        let free = not_refused (is_some (body_of l x workers s w)) Why.WorkerBusy told.free in
        let b = l.begin (chain x n) (frames_of (s.nodes.status (x.parent n))) in
        record {
          going = t.going;
          owned = owned_put w n lt;
          standing = begins l x workers s.nodes.status s.busy t.standing n w lt (idle w free) (S.Begun b) b refl refl (λ c. absurd cc);
        }

    staffed_shut : (w n : ℕ) → is_accepted l x workers s (Shut w n) ≡ true → Staffed l x workers (after l x s (Shut w n))
    staffed_shut w n ok =
        let told = shut_passes l x workers s w n ok in
        let lt = in_plan workers w (not_refused (leb workers w) Why.NoWorker told.worker) in
        let free = not_refused (is_some (body_of l x workers s w)) Why.WorkerBusy told.free in
        let may = shut_told l x workers s w n ok in
        let fs = frames_of (s.nodes.status n) in
        let b = l.begin_closing (chain x n) fs in
        record {
          going = t.going;
          owned = t.owned;
          standing = begins l x workers s.nodes.status s.busy t.standing n w lt (idle w free) (S.Closing fs b) b refl refl
              (λ c m mz inside p h. elim (rest_open_or_closed (s.nodes.status n) may.rests) [
                | inl o ↦ waiting_unfinished (s.nodes.status m) h (may.children o m inside mz p)
                | inr e ↦ t.standing.left m mz inside h (ap (λ (j : ℕ). is_closed (s.nodes.status j)) p ∙ e)
              ]);
        }

    staffed_step : (w : ℕ) → is_accepted l x workers s (Step w) ≡ true → Staffed l x workers (after l x s (Step w))
    staffed_step w ok =
        let h = step_told l x workers s w ok in
        record {
          going = t.going;
          owned = t.owned;
          standing =
              subst (λ (o : Option ℕ). Standing l x workers (where_some o s.nodes (λ n. where_some (body_in (s.nodes.status n)) s.nodes (stepping l x n s.nodes))).status s.busy) (sym h.busy)
              (subst (λ (o : Option B). Standing l x workers (where_some o s.nodes (stepping l x h.node s.nodes)).status s.busy) (sym h.here)
              (goes_on l x workers s.nodes.status s.busy t.standing h.node w h.body (l.step (chain x h.node) h.body s.nodes.flat).body h.here));
        }

    staffed_leave : (w : ℕ) → is_accepted l x workers s (Leave w) ≡ true → Staffed l x workers (after l x s (Leave w))
    staffed_leave w ok =
        let h = (leave_told l x workers s w ok).has in
        let after_kept = keeps_event l x plan laws workers s kept (Leave w) ok in
        let there = ap (λ (o : Option ℕ). (where_some o s.nodes (λ n. leaving l x n s.nodes (s.nodes.status n))).status 0) (sym h.busy) ∙ after_kept.locked.root in
        let nz : h.node ≡ 0 → ⊥ = λ z. let o : body_in (s.nodes.status h.node) ≡ None = ap (λ (j : ℕ). body_in (s.nodes.status j)) z ∙ ap body_in kept.locked.root in let e = h.here in cc in
        record {
          going = t.going;
          owned = t.owned;
          standing =
              subst (λ (o : Option ℕ). Standing l x workers (where_some o s.nodes (λ n. leaving l x n s.nodes (s.nodes.status n))).status (put w None s.busy)) (sym h.busy)
              (leaves l x plan more workers s.nodes s.busy t.standing h.node w h.busy nz h.body (s.nodes.status h.node) refl h.here there);
        }

    staffed_event : (e : Event) → is_accepted l x workers s e ≡ true → Staffed l x workers (after l x s e)
    staffed_event (Enter w n) ok = staffed_enter w n ok
    staffed_event (Step w) ok = staffed_step w ok
    staffed_event (Leave w) ok = staffed_leave w ok
    staffed_event (Shut w n) ok = staffed_shut w n ok

  -- of a state, both
  pub record Going (s : State K V B F R) : Type 0 where
    pub kept : Kept l x s.nodes
    pub staffed : Staffed l x workers s

  going_run : (es : List Event) (s : State K V B F R) → Going s → is_run l x workers s es ≡ true → Going (after_all_of l x s es)
  going_run [] s g run = g
  going_run (e ∷ es) s g run =
      let parts = run_parts l x plan laws (is_accepted l x workers s e) (is_run l x workers (after l x s e) es) run in
      going_run es (after l x s e)
      (record { kept = keeps_event l x plan laws workers s g.kept e parts.0; staffed = staffed_event s g.kept g.staffed e parts.0 }) parts.1

  abbrev nobody : ℕ → Status B F R
  nobody m = S.Waiting

  going_first : 0 < workers → Going (first l x)
  going_first manned = record {
    kept = keeps_first l x plan laws;
    staffed = record {
      going = refl;
      owned = λ n. manned;
      standing = record {
        manned = λ m b e. absurd (on_put (λ (j : ℕ) (u : Status B F R). body_in u ≡ Some b → ⊥) 0 (S.Open []) nobody m (λ h. cc) (λ ne h. cc) e);
        class = λ m nz. on_put (λ (j : ℕ) (u : Status B F R). (j ≡ 0 → ⊥) → is_at_rest u ≡ true → l.is_test (x.head j) ≡ false) 0 (S.Open []) nobody m
            (λ z e. absurd (z refl)) (λ ne z e. absurd cc) nz;
        left = λ m nz lt w. on_put (λ (j : ℕ) (u : Status B F R). is_closed u ≡ true → ⊥) 0 (S.Open []) nobody (x.parent m) (λ e. cc) (λ ne e. cc);
      };
    };
  }

  pub reached : (s : State K V B F R) → IsReached l x workers s → Going s
  reached s r = subst Going r.state (going_run r.events (first l x) (going_first r.manned) r.run)
