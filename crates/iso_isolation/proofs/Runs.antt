-- Every run keeps the invariant.
use Rattle.std.proofs.Common.{◌≡◌, ℕ, List, [], ◌∷◌, Option, Some, Bool, true, false, cond, ◌&&◌, inl, inr, refl, sym, ap, subst, ◌∙◌}
use Rattle.iso_isolation.specs.Languages.{Language, BodyLaws}
use Rattle.iso_isolation.specs.Suites.{Suite, chain, SuiteLaws}
use Rattle.iso_isolation.specs.Alone.{closed}
use Rattle.iso_isolation.specs.States as S
use Rattle.iso_isolation.specs.States.{Status, Nodes, State, is_open, is_closing, is_finished, is_held, body_in, frames_in, first}
use Rattle.iso_isolation.specs.Events.{Event, Enter, Step, Leave, Shut, where_some, open_or_barred, frames_left, ended_well, stepping, opening_left, barring, leaving, after}
use Rattle.iso_isolation.specs.Restoring.{finishing}
use Rattle.iso_isolation.specs.Runs.{is_accepted, is_run, after_all_of}
use Rattle.iso_isolation.proofs.Accepted.{enter_told, step_told, leave_told, shut_told, MayShut}
use Rattle.iso_isolation.proofs.Changes.{true_or_false, put_here}
use Rattle.iso_isolation.proofs.Statuses.{finished_unheld}
use Rattle.iso_isolation.proofs.Bodies.{alike_by, ends_as}
use Rattle.iso_isolation.proofs.LockEvents.{Quiet, quiet}
use Rattle.iso_isolation.proofs.Openings.{opening_at, defined, test_defined, class_defined}
use Rattle.iso_isolation.proofs.Invariant.{source, Kept}
use Rattle.iso_isolation.proofs.Steps.{nonzero, keeps_step}
use Rattle.iso_isolation.proofs.Enters.{keeps_enter}
use Rattle.iso_isolation.proofs.OpeningLeaves.{came, nonzero_here, parent_well, keeps_opening_left}
use Rattle.iso_isolation.proofs.Shuts.{keeps_shut}
use Rattle.iso_isolation.proofs.Finishes.{keeps_finish}
use Rattle.iso_isolation.proofs.Barred.{keeps_barring}

module _ {H K V B F R : Type 0} (l : Language H K V B F R) (x : Suite H K V) (plan : SuiteLaws l x) (laws : BodyLaws l) where
  module _ (s : Nodes K V B F R) (kept : Kept l x s) (n : ℕ) (b : B) (over : l.ended b ≡ true) where
    test_right : s.status n ≡ S.Begun b → l.is_test (x.head n) ≡ true → l.test_result b ≡ defined l x n
    test_right here t =
        ap l.test_result (came l x plan laws s kept n b here over).body
        ∙ sym (test_defined l x plan laws n (nonzero_here l x plan laws s kept n b here over) t (parent_well l x plan laws s kept n b here over))

    class_right : (fs : List F) → s.status n ≡ S.Closing fs b → l.class_result fs b ≡ defined l x n
    class_right fs here =
        let t = kept.class n (ap is_closing here) in
        let nz = nonzero l x plan laws s kept n b (ap body_in here) in
        let o = kept.locked.tree n nz (ap is_held here) in
        let old = kept.going n b (ap body_in here) in
        let c = alike_by l (chain x n) _ _ _ _ refl (ap (λ (j : Bool). l.finish (chain x n) (source l x n j).body (source l x n j).content) (ap is_closing here))
        (ends_as l (chain x n) laws old.steps b s.flat (source l x n (is_closing (s.status n))) old.alone over) in
        ap (λ (j : B). l.class_result fs j) c.body
        ∙ ap (λ (j : List F). l.class_result j (closed l (chain x n) (opening_at l x n)).body) (sym (kept.told n fs (ap frames_in here)))
        ∙ sym (class_defined l x plan laws n nz t (kept.well (x.parent n) o))

    -- a `before_all` that ended: well, or not
    opening_ends : s.status n ≡ S.Begun b → (well : Bool) → ended_well l x n b s ≡ well
        → Kept l x (cond well (opening_left l x n b s) (barring l x n (frames_left l x n b s) (opening_left l x n b s)))
    opening_ends here true w = keeps_opening_left l x plan laws s kept n b here over
    opening_ends here false w =
        keeps_barring l x plan laws (opening_left l x n b s) (keeps_opening_left l x plan laws s kept n b here over) n (frames_left l x n b s)
        (put_here n (open_or_barred (ended_well l x n b s) (frames_left l x n b s)) s.status ∙ ap (λ (t : Bool). open_or_barred t (frames_left l x n b s)) w)

    begun_ends : s.status n ≡ S.Begun b → (t : Bool) → l.is_test (x.head n) ≡ t
        → Kept l x (cond t (finishing l x n (l.test_result b) s) (cond (ended_well l x n b s) (opening_left l x n b s) (barring l x n (frames_left l x n b s) (opening_left l x n b s))))
    begun_ends here true t = keeps_finish l x plan laws s kept n b (ap body_in here) (l.test_result b) (test_right here t)
    begun_ends here false t = opening_ends here (ended_well l x n b s) refl

    pub keeps_leaving : (st : Status B F R) → s.status n ≡ st → body_in st ≡ Some b → Kept l x (leaving l x n s st)
    keeps_leaving S.Waiting here e = absurd cc
    keeps_leaving (S.Open fs) here e = absurd cc
    keeps_leaving (S.Barred fs) here e = absurd cc
    keeps_leaving (S.Finished r) here e = absurd cc
    keeps_leaving (S.Begun c) here e =
        let eq : c ≡ b = cc in
        let now : s.status n ≡ S.Begun b = here ∙ ap S.Begun eq in
        subst (λ (d : B). Kept l x (leaving l x n s (S.Begun d))) (sym eq) (begun_ends now (l.is_test (x.head n)) refl)
    keeps_leaving (S.Closing fs c) here e =
        let eq : c ≡ b = cc in
        let now : s.status n ≡ S.Closing fs b = here ∙ ap (S.Closing fs) eq in
        subst (λ (d : B). Kept l x (leaving l x n s (S.Closing fs d))) (sym eq) (keeps_finish l x plan laws s kept n b (ap body_in now) (l.class_result fs b) (class_right fs now))

  module _ (workers : ℕ) (s : State K V B F R) (kept : Kept l x s.nodes) where
    -- nothing in a class that may be shut is entered
    pub nothing_inside : (n : ℕ) → MayShut l x workers s n → Quiet x s.nodes.status n
    nothing_inside n may = elim (true_or_false (is_open (s.nodes.status n))) [
      | inl o ↦ (λ m nz p h. finished_unheld (s.nodes.status m) (may.children o m (kept.locked.inside m nz h) nz p) h)
      | inr o ↦ quiet x s.nodes.status kept.locked n o
    ]

    pub keeps_event : (e : Event) → is_accepted l x workers s e ≡ true → Kept l x (after l x s e).nodes
    keeps_event (Enter w n) ok = keeps_enter l x plan laws s.nodes kept n (enter_told l x workers s plan w n ok)
    keeps_event (Step w) ok =
        let h = step_told l x workers s w ok in
        subst (λ (o : Option ℕ). Kept l x (where_some o s.nodes (λ n. where_some (body_in (s.nodes.status n)) s.nodes (stepping l x n s.nodes)))) (sym h.busy)
        (subst (λ (o : Option B). Kept l x (where_some o s.nodes (stepping l x h.node s.nodes))) (sym h.here)
        (keeps_step l x plan laws s.nodes kept h.node h.body h.here))
    keeps_event (Leave w) ok =
        let h = leave_told l x workers s w ok in
        subst (λ (o : Option ℕ). Kept l x (where_some o s.nodes (λ n. leaving l x n s.nodes (s.nodes.status n)))) (sym h.has.busy)
        (keeps_leaving s.nodes kept h.has.node h.has.body h.over (s.nodes.status h.has.node) refl h.has.here)
    keeps_event (Shut w n) ok =
        let may = shut_told l x workers s w n ok in
        keeps_shut l x plan laws s.nodes kept n may.nonzero may.rests (nothing_inside n may) may.class

  pub run_parts : (a b : Bool) → (a && b) ≡ true → (a ≡ true) × (b ≡ true)
  run_parts true true e = (refl, refl)
  run_parts true false e = absurd cc
  run_parts false b e = absurd cc

  pub keeps_run : (workers : ℕ) (es : List Event) (s : State K V B F R) → Kept l x s.nodes → is_run l x workers s es ≡ true → Kept l x (after_all_of l x s es).nodes
  keeps_run workers [] s kept run = kept
  keeps_run workers (e ∷ es) s kept run =
      let parts = run_parts (is_accepted l x workers s e) (is_run l x workers (after l x s e) es) run in
      keeps_run workers es (after l x s e) (keeps_event workers s kept e parts.0) parts.1
