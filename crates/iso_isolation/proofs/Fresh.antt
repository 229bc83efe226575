-- A history in full: each body makes its steps directly before its Leave, so all others stand at their beginning.
use Rattle.std.proofs.Common.{◌≡◌, ℕ, zero, suc, List, [], ◌∷◌, ◌++◌, replicate, Option, Some, None, Bool, true, false, cond, ◌&&◌, refl, sym, ap, subst, ◌∙◌}
use Rattle.iso_isolation.specs.Languages.{Content, Language, Alike, BodyLaws}
use Rattle.iso_isolation.specs.Suites.{Suite, chain, may_write, SuiteLaws}
use Rattle.iso_isolation.specs.States as S
use Rattle.iso_isolation.specs.States.{Status, Nodes, State, put, is_waiting, is_closing, body_in, with_body, first}
use Rattle.iso_isolation.specs.Events.{Event, Enter, Step, Leave, Shut, where_some, open_or_barred, stands_in, frames_of, frames_left, ended_well, entering, stepping, shutting, opening_left, barring, leaving, after}
use Rattle.iso_isolation.specs.Restoring.{finishing}
use Rattle.iso_isolation.specs.Runs.{is_accepted, is_run, after_all_of, with_steps, steps_needed, full}
use Rattle.iso_isolation.specs.Histories.{IsHistory, has_no_step, is_being_written, standing_value}
use Rattle.iso_isolation.proofs.Changes.{on_put}
use Rattle.iso_isolation.proofs.Bodies.{alike_then}
use Rattle.iso_isolation.proofs.Accepted.{enter_told, step_told, leave_told, shut_told}
use Rattle.iso_isolation.proofs.Lists.{after_append, run_append}
use Rattle.iso_isolation.proofs.LockEvents.{MayEnter, Quiet}
use Rattle.iso_isolation.proofs.Invariant.{source, Kept}
use Rattle.iso_isolation.proofs.Steps.{alone_there}
use Rattle.iso_isolation.proofs.Enters as Enters
use Rattle.iso_isolation.proofs.Shuts as Shuts
use Rattle.iso_isolation.proofs.Keys.{FreshBut, home, value}
use Rattle.iso_isolation.proofs.Runs.{keeps_event, keeps_run, nothing_inside, run_parts}
use Rattle.iso_isolation.proofs.Barred.{keeps_first}

pub left_no_body : (B F R : Type 0) (w : Bool) (fs : List F) → body_in {B = B} {F = F} {R = R} (open_or_barred w fs) ≡ None
left_no_body B F R true fs = refl
left_no_body B F R false fs = refl

module _ {B F R : Type 0} where
  -- what doesn't tell waiting from finished is the same after a class was barred
  pub unbarred : {A : Type 0} (P : Status B F R → A) → ((r : R) → P (S.Finished r) ≡ P S.Waiting) → (a : Bool) (st : Status B F R) (r : R)
      → P (cond (a && is_waiting st) (S.Finished r) st) ≡ P st
  unbarred P e false st r = refl
  unbarred P e true S.Waiting r = e r
  unbarred P e true (S.Begun b) r = refl
  unbarred P e true (S.Open fs) r = refl
  unbarred P e true (S.Barred fs) r = refl
  unbarred P e true (S.Closing fs b) r = refl
  unbarred P e true (S.Finished q) r = refl

module _ {H K V B F R : Type 0} (l : Language H K V B F R) (x : Suite H K V) (plan : SuiteLaws l x) (laws : BodyLaws l) where
  -- a body at a status, on a content, stands at its beginning
  abbrev Begins : Content K V → ℕ → Status B F R → B → Type 0
  Begins flat j v c = body_in v ≡ Some c → Alike l (chain x j) (record { body = c; content = flat }) (source l x j (is_closing v))

  module _ (s : Nodes K V B F R) (kept : Kept l x s) where
    fresh_enter : FreshBut l x 0 s → (n : ℕ) → MayEnter x s.status n → FreshBut l x 0 (entering l x n s)
    fresh_enter fresh n may m c nz =
        on_put (λ (j : ℕ) (v : Status B F R). (j ≡ 0 → ⊥) → Begins s.flat j v c) n (S.Begun (l.begin (chain x n) (frames_of (s.status (x.parent n))))) s.status m
        (λ nz e. Enters.begins l x plan laws s kept n may c e)
        (λ ne nz e. fresh m c nz e) nz

    fresh_shut : FreshBut l x 0 s → (n : ℕ) (nz : n ≡ 0 → ⊥) (resting : S.is_at_rest (s.status n) ≡ true) (q : Quiet x s.status n) (is_class : l.is_test (x.head n) ≡ false)
        → FreshBut l x 0 (shutting l x n s)
    fresh_shut fresh n nzn resting q is_class m c nz =
        on_put (λ (j : ℕ) (v : Status B F R). (j ≡ 0 → ⊥) → Begins s.flat j v c) n (S.Closing (frames_of (s.status n)) (l.begin_closing (chain x n) (frames_of (s.status n)))) s.status m
        (λ nz e. Shuts.begins l x plan laws s kept n nzn resting q is_class c e)
        (λ ne nz e. fresh m c nz e) nz

    module _ (n : ℕ) (b : B) (here : body_in (s.status n) ≡ Some b) (fresh : FreshBut l x n s) where
      -- a change of what this body may change leaves the others where they are
      others_begin : (flat : Content K V) → ((k : K) → may_write l x n k ≡ false → flat k ≡ s.flat k) → (m : ℕ) (c : B) → (m ≡ n → ⊥) → Begins flat m (s.status m) c
      others_begin flat still m c ne e =
          alike_then l (chain x m) _ _ _ (record { body = refl; at = λ k r. still k (alone_there l x plan laws s kept n b here m c k e ne r) }) (fresh m c ne e)

      fresh_step : FreshBut l x n (stepping l x n s b)
      fresh_step m c ne =
          let p = l.step (chain x n) b s.flat in
          on_put (λ (j : ℕ) (v : Status B F R). (j ≡ n → ⊥) → Begins p.content j v c) n (with_body (s.status n) p.body) s.status m
          (λ ne. absurd (ne refl))
          (λ other ne e. others_begin p.content (λ k w. laws.step_writes (chain x n) b s.flat k w) m c other e) ne

      fresh_finish : (r : R) → FreshBut l x 0 (finishing l x n r s)
      fresh_finish r m c nz =
          on_put (λ (j : ℕ) (v : Status B F R). Begins (λ k. cond (may_write l x n k) (s.saved n k) (s.flat k)) j v c) n (S.Finished r) s.status m
          (λ e. absurd cc)
          (λ other e. others_begin (λ k. cond (may_write l x n k) (s.saved n k) (s.flat k)) (λ k w. ap (λ (t : Bool). cond t (s.saved n k) (s.flat k)) w) m c other e)

      fresh_left : FreshBut l x 0 (opening_left l x n b s)
      fresh_left m c nz =
          on_put (λ (j : ℕ) (v : Status B F R). Begins s.flat j v c) n (open_or_barred (ended_well l x n b s) (frames_left l x n b s)) s.status m
          (λ e. let bare = left_no_body B F R (ended_well l x n b s) (frames_left l x n b s) in absurd cc)
          (λ other e. fresh m c other e)

      fresh_barring : (fs : List F) (t : Nodes K V B F R) → FreshBut l x 0 t → FreshBut l x 0 (barring l x n fs t)
      fresh_barring fs t was m c nz e =
          let a = stands_in l x m n in
          subst (λ (j : Bool). Alike l (chain x m) (record { body = c; content = t.flat }) (source l x m j)) (sym (unbarred is_closing (λ r. refl) a (t.status m) (l.blocked fs)))
          (was m c nz (sym (unbarred body_in (λ r. refl) a (t.status m) (l.blocked fs)) ∙ e))

      either : (w : Bool) (t u : Nodes K V B F R) → FreshBut l x 0 t → FreshBut l x 0 u → FreshBut l x 0 (cond w t u)
      either true t u f g = f
      either false t u f g = g

    fresh_leave : (n : ℕ) (b : B) → FreshBut l x n s → (st : Status B F R) → s.status n ≡ st → body_in st ≡ Some b → FreshBut l x 0 (leaving l x n s st)
    fresh_leave n b fresh S.Waiting here e = absurd cc
    fresh_leave n b fresh (S.Open fs) here e = absurd cc
    fresh_leave n b fresh (S.Barred fs) here e = absurd cc
    fresh_leave n b fresh (S.Finished r) here e = absurd cc
    fresh_leave n b fresh (S.Begun c) here e =
        let at = ap body_in here in
        either n c at fresh (l.is_test (x.head n)) _ _ (fresh_finish n c at fresh (l.test_result c))
        (either n c at fresh (ended_well l x n c s) _ _ (fresh_left n c at fresh)
        (fresh_barring n c at fresh (frames_left l x n c s) (opening_left l x n c s) (fresh_left n c at fresh)))
    fresh_leave n b fresh (S.Closing fs c) here e = fresh_finish n c (ap body_in here) fresh (l.class_result fs c)

  module _ (workers : ℕ) where
    parts : (s : State K V B F R) (f : Event) (fs : List Event) → is_run l x workers s (f ∷ fs) ≡ true → (is_accepted l x workers s f ≡ true) × (is_run l x workers (after l x s f) fs ≡ true)
    parts s f fs run = run_parts l x plan laws (is_accepted l x workers s f) (is_run l x workers (after l x s f) fs) run

    step_keeps : (s : State K V B F R) (w n : ℕ) → Kept l x s.nodes → FreshBut l x n s.nodes
        → s.busy w ≡ Some n → is_accepted l x workers s (Step w) ≡ true → FreshBut l x n (after l x s (Step w)).nodes
    step_keeps s w n kept fresh at ok =
        let h = step_told l x workers s w ok in
        let same_node : h.node ≡ n = let e = h.busy in cc in
        let here : body_in (s.nodes.status n) ≡ Some h.body = ap (λ (j : ℕ). body_in (s.nodes.status j)) (sym same_node) ∙ h.here in
        subst (λ (o : Option ℕ). FreshBut l x n (where_some o s.nodes (λ n. where_some (body_in (s.nodes.status n)) s.nodes (stepping l x n s.nodes)))) (sym at)
        (subst (λ (o : Option B). FreshBut l x n (where_some o s.nodes (stepping l x n s.nodes))) (sym here)
        (fresh_step s.nodes kept n h.body here fresh))

    -- so many Steps of a body, and its Leave
    leave_after : (i : ℕ) (s : State K V B F R) (w n : ℕ) → Kept l x s.nodes → FreshBut l x n s.nodes → s.busy w ≡ Some n
        → is_run l x workers s (replicate i (Step w) ++ Leave w ∷ []) ≡ true → FreshBut l x 0 (after_all_of l x s (replicate i (Step w) ++ Leave w ∷ [])).nodes
    leave_after zero s w n kept fresh at run =
        let p = parts s (Leave w) [] run in
        let h = leave_told l x workers s w p.0 in
        let same_node : h.has.node ≡ n = let e = h.has.busy in cc in
        let here : body_in (s.nodes.status n) ≡ Some h.has.body = ap (λ (j : ℕ). body_in (s.nodes.status j)) (sym same_node) ∙ h.has.here in
        subst (λ (o : Option ℕ). FreshBut l x 0 (where_some o s.nodes (λ n. leaving l x n s.nodes (s.nodes.status n)))) (sym at)
        (fresh_leave s.nodes kept n h.has.body fresh (s.nodes.status n) refl here)
    leave_after (suc i) s w n kept fresh at run =
        let p = parts s (Step w) (replicate i (Step w) ++ Leave w ∷ []) run in
        leave_after i (after l x s (Step w)) w n (keeps_event l x plan laws workers s kept (Step w) p.0) (step_keeps s w n kept fresh at p.0) at p.1

    -- the node of a worker that leaves, or nothing is left
    leave_from : (i : ℕ) (s : State K V B F R) (w : ℕ) (o : Option ℕ) → s.busy w ≡ o → Kept l x s.nodes → FreshBut l x 0 s.nodes
        → is_run l x workers s (replicate i (Step w) ++ Leave w ∷ []) ≡ true → FreshBut l x 0 (after_all_of l x s (replicate i (Step w) ++ Leave w ∷ [])).nodes
    leave_from i s w (Some n) at kept fresh run =
        leave_after i s w n kept (λ m c ne e. fresh m c (λ z. let st : body_in (s.nodes.status m) ≡ None = ap (λ (j : ℕ). body_in (s.nodes.status j)) z ∙ ap body_in kept.locked.root in cc) e) at run
    leave_from zero s w None at kept fresh run =
        let h = (leave_told l x workers s w (parts s (Leave w) [] run).0).has.busy in absurd cc
    leave_from (suc i) s w None at kept fresh run =
        let h = (step_told l x workers s w (parts s (Step w) (replicate i (Step w) ++ Leave w ∷ []) run).0).busy in absurd cc

    fresh_event : (s : State K V B F R) (e : Event) → has_no_step (e ∷ []) ≡ true → Kept l x s.nodes → FreshBut l x 0 s.nodes → is_run l x workers s (with_steps l x s e) ≡ true
        → FreshBut l x 0 (after_all_of l x s (with_steps l x s e)).nodes
    fresh_event s (Enter w n) clean kept fresh run = fresh_enter s.nodes kept fresh n (enter_told l x workers s plan w n (parts s (Enter w n) [] run).0)
    fresh_event s (Step w) clean kept fresh run = absurd cc
    fresh_event s (Leave w) clean kept fresh run = leave_from (steps_needed l x s w) s w (s.busy w) refl kept fresh run
    fresh_event s (Shut w n) clean kept fresh run =
        let may = shut_told l x workers s w n (parts s (Shut w n) [] run).0 in
        fresh_shut s.nodes kept fresh n may.nonzero may.rests (nothing_inside l x plan laws workers s kept n may) may.class

    no_step_parts : (e : Event) (h : List Event) → has_no_step (e ∷ h) ≡ true → (has_no_step (e ∷ []) ≡ true) × (has_no_step h ≡ true)
    no_step_parts (Enter w n) h t = (refl, t)
    no_step_parts (Step w) h t = absurd cc
    no_step_parts (Leave w) h t = (refl, t)
    no_step_parts (Shut w n) h t = (refl, t)

    fresh_full : (h : List Event) (s : State K V B F R) → has_no_step h ≡ true → Kept l x s.nodes → FreshBut l x 0 s.nodes → is_run l x workers s (full l x s h) ≡ true
        → FreshBut l x 0 (after_all_of l x s (full l x s h)).nodes
    fresh_full [] s clean kept fresh run = fresh
    fresh_full (e ∷ h) s clean kept fresh run =
        let es = with_steps l x s e in
        let t = after_all_of l x s es in
        let n = no_step_parts e h clean in
        let p = run_parts l x plan laws (is_run l x workers s es) (is_run l x workers t (full l x t h)) (sym (run_append l x workers es (full l x t h) s) ∙ run) in
        subst (λ (j : State K V B F R). FreshBut l x 0 j.nodes) (sym (after_append l x es (full l x t h) s))
        (fresh_full h t n.1 (keeps_run l x plan laws workers es s kept p.0) (fresh_event s e n.0 kept fresh p.0) p.1)

    fresh_first : FreshBut l x 0 (first l x).nodes
    fresh_first m c nz = on_put (λ (j : ℕ) (v : Status B F R). Begins x.start j v c) 0 (S.Open []) (λ n. S.Waiting) m (λ e. absurd cc) (λ ne e. absurd cc)

    module _ (h : List Event) (is : IsHistory l x workers h) where
      abbrev reached : State K V B F R
      reached = after_all_of l x (first l x) (full l x (first l x) h)

      kept_there : Kept l x reached.nodes
      kept_there = keeps_run l x plan laws workers (full l x (first l x) h) (first l x) (keeps_first l x plan laws) is.run

      fresh_there : FreshBut l x 0 reached.nodes
      fresh_there = fresh_full h (first l x) is.no_step (keeps_first l x plan laws) fresh_first is.run

      pub history_value : (k : K) → reached.nodes.flat k ≡ standing_value l x reached k
      history_value k = value l x plan laws reached.nodes kept_there fresh_there k

      pub history_home : (k : K) → is_being_written l x reached k ≡ false → reached.nodes.flat k ≡ x.start k
      history_home k none = home l x plan laws reached.nodes kept_there fresh_there k none
