-- A history goes on by an event that is accepted after it, and by a Leave whose body still needs steps.
use Rattle.std.proofs.Common.{◌≡◌, ℕ, zero, suc, List, [], ◌∷◌, ◌++◌, replicate, Option, Some, None, is_some, is_none, Bool, true, false, cond, not, leb, ◌&&◌, inl, inr, refl, sym, ap, subst, ◌∙◌, arith, append-nil}
use Rattle.iso_isolation.specs.Languages.{Content, Language, BodyLaws}
use Rattle.iso_isolation.specs.Suites.{Suite, chain, SuiteLaws}
use Rattle.iso_isolation.specs.States as S
use Rattle.iso_isolation.specs.States.{Status, Nodes, State, put, is_waiting, body_in, with_body, first}
use Rattle.iso_isolation.specs.Events.{Event, Enter, Step, Leave, Shut, where_some, open_or_barred, stands_in, frames_of, frames_left, ended_well, stepping, opening_left, barring, leaving, after}
use Rattle.iso_isolation.specs.Restoring.{finishing}
use Rattle.iso_isolation.specs.Refusals as Why
use Rattle.iso_isolation.specs.Refusals.{Refused, refuse, first_of, refusal, body_of}
use Rattle.iso_isolation.specs.Runs.{is_accepted, is_run, after_all_of, with_steps, steps_left, steps_needed, full}
use Rattle.iso_isolation.specs.Histories.{EndLaws, IsHistory, GoesOn, has_no_step, state_of}
use Rattle.iso_isolation.proofs.Changes.{true_or_false, put_here, on_put}
use Rattle.iso_isolation.proofs.Statuses.{other_body}
use Rattle.iso_isolation.proofs.Accepted.{HasBody, body_found, has_body as has_body_from, step_told, leave_told}
use Rattle.iso_isolation.proofs.Lists.{after_append, run_on, full_append}
use Rattle.iso_isolation.proofs.Counts.{none_left, one_less}
use Rattle.iso_isolation.proofs.Fresh.{left_no_body, unbarred}
use Rattle.iso_isolation.proofs.Runs.{run_parts}

none_of_four : (a b c d : Bool) (p q r t : Refused) → a ≡ false → b ≡ false → c ≡ false → d ≡ false
    → is_none (first_of (refuse a p ∷ refuse b q ∷ refuse c r ∷ refuse d t ∷ [])) ≡ true
none_of_four false false false false p q r t e f g h = refl
none_of_four true b c d p q r t e f g h = absurd cc
none_of_four false true c d p q r t e f g h = absurd cc
none_of_four false false true d p q r t e f g h = absurd cc
none_of_four false false false true p q r t e f g h = absurd cc

-- nothing but the steps that are left stands against a Leave
record OnlyEnd (a b c d : Bool) : Type 0 where
  stopped : a ≡ false
  worker : b ≡ false
  body : c ≡ false

only_end : (a b c d : Bool) → first_of (refuse a Why.Stopped ∷ refuse b Why.NoWorker ∷ refuse c Why.NoBody ∷ refuse d Why.BodyNotEnded ∷ []) ≡ Some Why.BodyNotEnded → OnlyEnd a b c d
only_end true b c d e = absurd cc
only_end false true c d e = absurd cc
only_end false false true d e = absurd cc
only_end false false false d e = record { stopped = refl; worker = refl; body = refl }

both : (a b : Bool) → a ≡ true → b ≡ true → (a && b) ≡ true
both true b e f = f
both false b e f = absurd cc

no_step_more : (h : List Event) (e : Event) → has_no_step h ≡ true → has_no_step (e ∷ []) ≡ true → has_no_step (h ++ e ∷ []) ≡ true
no_step_more [] e t u = u
no_step_more (Enter w n ∷ h) e t u = no_step_more h e t u
no_step_more (Step w ∷ h) e t u = absurd cc
no_step_more (Leave w ∷ h) e t u = no_step_more h e t u
no_step_more (Shut w n ∷ h) e t u = no_step_more h e t u

module _ {H K V B F R : Type 0} (l : Language H K V B F R) (x : Suite H K V) (plan : SuiteLaws l x) (laws : BodyLaws l) (ends : EndLaws l) (workers : ℕ) where
  -- each body under way is ready
  abbrev AllReady : Nodes K V B F R → Type 0
  AllReady s = (m : ℕ) (c : B) → body_in (s.status m) ≡ Some c → ends.is_ready c ≡ true

  ready_left : (n : ℕ) (b : B) (s : Nodes K V B F R) → AllReady s → AllReady (opening_left l x n b s)
  ready_left n b s ready m c =
      on_put (λ (j : ℕ) (v : Status B F R). body_in v ≡ Some c → ends.is_ready c ≡ true) n (open_or_barred (ended_well l x n b s) (frames_left l x n b s)) s.status m
      (λ e. let bare = left_no_body B F R (ended_well l x n b s) (frames_left l x n b s) in absurd cc)
      (λ ne e. ready m c e)

  ready_finish : (n : ℕ) (r : R) (s : Nodes K V B F R) → AllReady s → AllReady (finishing l x n r s)
  ready_finish n r s ready m c =
      on_put (λ (j : ℕ) (v : Status B F R). body_in v ≡ Some c → ends.is_ready c ≡ true) n (S.Finished r) s.status m (λ e. absurd cc) (λ ne e. ready m c e)

  ready_barring : (n : ℕ) (fs : List F) (s : Nodes K V B F R) → AllReady s → AllReady (barring l x n fs s)
  ready_barring n fs s ready m c e = ready m c (sym (unbarred body_in (λ r. refl) (stands_in l x m n) (s.status m) (l.blocked fs)) ∙ e)

  either : (w : Bool) (s t : Nodes K V B F R) → AllReady s → AllReady t → AllReady (cond w s t)
  either true s t f g = f
  either false s t f g = g

  ready_leave : (n : ℕ) (s : Nodes K V B F R) → AllReady s → (st : Status B F R) → AllReady (leaving l x n s st)
  ready_leave n s ready S.Waiting = ready
  ready_leave n s ready (S.Open fs) = ready
  ready_leave n s ready (S.Barred fs) = ready
  ready_leave n s ready (S.Finished r) = ready
  ready_leave n s ready (S.Closing fs c) = ready_finish n (l.class_result fs c) s ready
  ready_leave n s ready (S.Begun c) =
      either (l.is_test (x.head n)) _ _ (ready_finish n (l.test_result c) s ready)
      (either (ended_well l x n c s) _ _ (ready_left n c s ready) (ready_barring n (frames_left l x n c s) (opening_left l x n c s) (ready_left n c s ready)))

  ready_node : (o : Option ℕ) (s : Nodes K V B F R) → AllReady s → AllReady (where_some o s (λ n. leaving l x n s (s.status n)))
  ready_node None s ready = ready
  ready_node (Some n) s ready = ready_leave n s ready (s.status n)

  module _ (s : State K V B F R) where
    -- the state after a Step
    stepped : (w : ℕ) (h : HasBody l x workers s w) → (after l x s (Step w)).nodes ≡ stepping l x h.node s.nodes h.body
    stepped w h =
        ap (λ (o : Option ℕ). where_some o s.nodes (λ n. where_some (body_in (s.nodes.status n)) s.nodes (stepping l x n s.nodes))) h.busy
        ∙ ap (λ (o : Option B). where_some o s.nodes (stepping l x h.node s.nodes)) h.here

    ready_step : (w : ℕ) → HasBody l x workers s w → AllReady s.nodes → AllReady (after l x s (Step w)).nodes
    ready_step w h ready =
        let b = (l.step (chain x h.node) h.body s.nodes.flat).body in
        subst AllReady (sym (stepped w h)) (λ m c.
        on_put (λ (j : ℕ) (v : Status B F R). body_in v ≡ Some c → ends.is_ready c ≡ true) h.node (with_body (s.nodes.status h.node) b) s.nodes.status m
        (λ e.
        let now : b ≡ c = let f = other_body (s.nodes.status h.node) h.body b h.here in cc in
        ap ends.is_ready (sym now) ∙ ends.steps (chain x h.node) h.body s.nodes.flat (ready h.node h.body h.here))
        (λ ne e. ready m c e))

    ready_event : (e : Event) → is_accepted l x workers s e ≡ true → AllReady s.nodes → AllReady (after l x s e).nodes
    ready_event (Enter w n) ok ready m c =
        on_put (λ (j : ℕ) (v : Status B F R). body_in v ≡ Some c → ends.is_ready c ≡ true) n (S.Begun (l.begin (chain x n) (frames_of (s.nodes.status (x.parent n))))) s.nodes.status m
        (λ e. let now : l.begin (chain x n) (frames_of (s.nodes.status (x.parent n))) ≡ c = cc in ap ends.is_ready (sym now) ∙ ends.begins (chain x n) (frames_of (s.nodes.status (x.parent n))))
        (λ ne e. ready m c e)
    ready_event (Shut w n) ok ready m c =
        on_put (λ (j : ℕ) (v : Status B F R). body_in v ≡ Some c → ends.is_ready c ≡ true) n
        (S.Closing (frames_of (s.nodes.status n)) (l.begin_closing (chain x n) (frames_of (s.nodes.status n)))) s.nodes.status m
        (λ e. let now : l.begin_closing (chain x n) (frames_of (s.nodes.status n)) ≡ c = cc in ap ends.is_ready (sym now) ∙ ends.begins_closing (chain x n) (frames_of (s.nodes.status n)))
        (λ ne e. ready m c e)
    ready_event (Step w) ok ready m c = ready_step w (step_told l x workers s w ok) ready m c
    ready_event (Leave w) ok ready m c = ready_node (s.busy w) s.nodes ready m c

    -- a worker whose body may make its steps
    record Goes (w : ℕ) : Type 0 where
      stopped : s.stopped ≡ false
      worker : leb workers w ≡ false
      has : HasBody l x workers s w

    needed : (w : ℕ) (h : HasBody l x workers s w) → steps_needed l x s w ≡ steps_left l (chain x h.node) h.body s.nodes.flat
    needed w h =
        ap (λ (o : Option ℕ). where_some o 0 (λ n. where_some (body_in (s.nodes.status n)) 0 (λ b. steps_left l (chain x n) b s.nodes.flat))) h.busy
        ∙ ap (λ (o : Option B). where_some o 0 (λ b. steps_left l (chain x h.node) b s.nodes.flat)) h.here

    has_body : (w : ℕ) (h : HasBody l x workers s w) → not (is_some (body_of l x workers s w)) ≡ false
    has_body w h = ap (λ (o : Option B). not (is_some o)) (body_found l x workers s w h)

    may_step : (w : ℕ) (g : Goes w) → l.ended g.has.body ≡ false → is_accepted l x workers s (Step w) ≡ true
    may_step w g e = none_of_four s.stopped (leb workers w) (not (is_some (body_of l x workers s w))) (where_some (body_of l x workers s w) false l.ended)
        Why.Stopped Why.NoWorker Why.NoBody Why.BodyEnded g.stopped g.worker (has_body w g.has)
        (ap (λ (o : Option B). where_some o false l.ended) (body_found l x workers s w g.has) ∙ e)

    may_leave : (w : ℕ) (g : Goes w) → l.ended g.has.body ≡ true → is_accepted l x workers s (Leave w) ≡ true
    may_leave w g e = none_of_four s.stopped (leb workers w) (not (is_some (body_of l x workers s w))) (where_some (body_of l x workers s w) false (λ b. not (l.ended b)))
        Why.Stopped Why.NoWorker Why.NoBody Why.BodyNotEnded g.stopped g.worker (has_body w g.has)
        (ap (λ (o : Option B). where_some o false (λ b. not (l.ended b))) (body_found l x workers s w g.has) ∙ ap not e)

  abbrev goes_further : (s : State K V B F R) (w : ℕ) → Goes s w → Goes (after l x s (Step w)) w
  goes_further s w g =
      let b = (l.step (chain x g.has.node) g.has.body s.nodes.flat).body in
      record {
        stopped = g.stopped;
        worker = g.worker;
        has = record {
          node = g.has.node;
          body = b;
          busy = g.has.busy;
          here =
              ap (λ (t : Nodes K V B F R). body_in (t.status g.has.node)) (stepped s w g.has)
              ∙ ap body_in (put_here g.has.node (with_body (s.nodes.status g.has.node) b) s.nodes.status)
              ∙ other_body (s.nodes.status g.has.node) g.has.body b g.has.here;
        };
      }

  -- the steps that a body needs, and its Leave
  steps_and_leave : (i : ℕ) (s : State K V B F R) (w : ℕ) → AllReady s.nodes → (g : Goes s w) → steps_left l (chain x g.has.node) g.has.body s.nodes.flat ≡ i
      → is_run l x workers s (replicate i (Step w) ++ Leave w ∷ []) ≡ true
  steps_and_leave zero s w ready g e = elim (true_or_false (l.ended g.has.body)) [
    | inl t ↦ both (is_accepted l x workers s (Leave w)) true (may_leave s w g t) refl
    | inr f ↦ let more = one_less l ends (chain x g.has.node) g.has.body s.nodes.flat (ready g.has.node g.has.body g.has.here) f in absurd (omega arith)
  ]
  steps_and_leave (suc i) s w ready g e = elim (true_or_false (l.ended g.has.body)) [
    | inl t ↦ let none = none_left l ends (chain x g.has.node) g.has.body s.nodes.flat t in absurd (omega arith)
    | inr f ↦
        let hs = chain x g.has.node in
        let p = l.step hs g.has.body s.nodes.flat in
        let more = one_less l ends hs g.has.body s.nodes.flat (ready g.has.node g.has.body g.has.here) f in
        let flat : (after l x s (Step w)).nodes.flat ≡ p.content = ap (λ (t : Nodes K V B F R). t.flat) (stepped s w g.has) in
        let less : steps_left l hs p.body p.content ≡ i = omega arith in
        both (is_accepted l x workers s (Step w)) _ (may_step s w g f)
        (steps_and_leave i (after l x s (Step w)) w (ready_step s w g.has ready) (goes_further s w g) (ap (λ (m : Content K V). steps_left l hs p.body m) flat ∙ less))
  ]

  ready_run : (es : List Event) (s : State K V B F R) → AllReady s.nodes → is_run l x workers s es ≡ true → AllReady (after_all_of l x s es).nodes
  ready_run [] s ready run = ready
  ready_run (e ∷ es) s ready run =
      let p = run_parts l x plan laws (is_accepted l x workers s e) (is_run l x workers (after l x s e) es) run in
      ready_run es (after l x s e) (ready_event s e p.0 ready) p.1

  ready_first : AllReady (first l x).nodes
  ready_first m c = on_put (λ (j : ℕ) (v : Status B F R). body_in v ≡ Some c → ends.is_ready c ≡ true) 0 (S.Open []) (λ n. S.Waiting) m (λ e. absurd cc) (λ ne e. absurd cc)

  -- an accepted event of a history needs no step before it
  none_needed : (s : State K V B F R) (e : Event) → has_no_step (e ∷ []) ≡ true → is_accepted l x workers s e ≡ true → with_steps l x s e ≡ e ∷ []
  none_needed s (Enter w n) clean ok = refl
  none_needed s (Step w) clean ok = absurd cc
  none_needed s (Shut w n) clean ok = refl
  none_needed s (Leave w) clean ok =
      let h = leave_told l x workers s w ok in
      ap (λ (i : ℕ). replicate i (Step w) ++ Leave w ∷ []) (needed s w h.has ∙ none_left l ends (chain x h.has.node) h.has.body s.nodes.flat h.over)

  -- a history goes on by an event that is accepted once the steps before it are made
  going_on : (h : List Event) (e : Event) → IsHistory l x workers h → has_no_step (e ∷ []) ≡ true
      → is_run l x workers (state_of l x h) (with_steps l x (state_of l x h) e) ≡ true → GoesOn l x workers h e
  going_on h e is clean more =
      let s = first l x in
      let es = with_steps l x (state_of l x h) e in
      let longer : full l x s (h ++ e ∷ []) ≡ full l x s h ++ es = full_append l x h (e ∷ []) s ∙ ap (λ (fs : List Event). full l x s h ++ fs) (append-nil es) in
      record {
        history = record {
          no_step = no_step_more h e is.no_step clean;
          run = subst (λ (fs : List Event). is_run l x workers s fs ≡ true) (sym longer) (run_on l x workers (full l x s h) es s is.run more);
        };
        state = ap (after_all_of l x s) longer ∙ after_append l x (full l x s h) es s;
      }

  pub goes_on : (h : List Event) (e : Event) → IsHistory l x workers h → has_no_step (e ∷ []) ≡ true → is_accepted l x workers (state_of l x h) e ≡ true → GoesOn l x workers h e
  goes_on h e is clean ok =
      let t = state_of l x h in
      going_on h e is clean
      (subst (λ (fs : List Event). is_run l x workers t fs ≡ true) (sym (none_needed t e clean ok)) (both (is_accepted l x workers t e) true ok refl))

  pub leaves : (h : List Event) (w : ℕ) → IsHistory l x workers h → refusal l x workers (state_of l x h) (Leave w) ≡ Some Why.BodyNotEnded → GoesOn l x workers h (Leave w)
  leaves h w is e =
      let t = state_of l x h in
      let only = only_end t.stopped (leb workers w) (not (is_some (body_of l x workers t w))) (where_some (body_of l x workers t w) false (λ b. not (l.ended b))) e in
      let g : Goes t w = record { stopped = only.stopped; worker = only.worker; has = has_body_from l x workers t w only.body } in
      going_on h (Leave w) is refl
      (steps_and_leave (steps_needed l x t w) t w (ready_run (full l x (first l x) h) (first l x) ready_first is.run) g (sym (needed t w g.has)))
