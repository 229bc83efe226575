-- How a run by worker 0 alone goes on by an Enter or a Shut, and the Leave of the body.
use Rattle.std.proofs.Common.{◌≡◌, ℕ, ◌<◌, List, [], ◌∷◌, ◌++◌, ◌⊎◌, inl, inr, Option, Some, None, is_some, Bool, true, false, cond, not, leb, eqb, eq-eqb, refl, sym, ap, subst, ◌∙◌, arith, length}
use Rattle.std.proofs.lemmas.Bool.Decides.{leb_tells}
use Rattle.iso_isolation.proofs.Barred.{path_on}
use Rattle.iso_isolation.proofs.Changes.{equal_or_not, put_elsewhere, put_here, true_or_false}
use Rattle.iso_isolation.proofs.Going.{goes_on}
use Rattle.iso_isolation.proofs.Locks.{on_le, on_split, step_down}
use Rattle.iso_isolation.specs.Events as E
use Rattle.iso_isolation.specs.Events.{after, is_in, leaving, stands_in, where_some}
use Rattle.iso_isolation.specs.Histories.{GoesOn, IsHistory, has_no_step, state_of}
use Rattle.iso_isolation.specs.Refusals as Why
use Rattle.iso_isolation.specs.Refusals.{Refused, first_of, refuse}
use Rattle.iso_isolation.specs.Runs.{full, is_accepted}
use Rattle.iso_isolation.specs.States as S
use Rattle.iso_isolation.specs.States.{body_in, first, is_held, put}
use Rattle.iso_isolation.specs.Suites.{On, Suite, SuiteLaws, same, up}
use Rattle.iso_model.specs.declared.resource.Resource.{Resource}
use Rattle.iso_plan.specs.Paths.{IsTree, parent}
use Rattle.iso_plan.specs.Planned.{Planned}
use Rattle.iso_plan.specs.RowView.{tree_of}
use Rattle.iso_settings.specs.Worlds.{Start}
use Rattle.iso_record.specs.SerialWalks.{BetweenNodes, ComesNext, IsDone, IsOpened, left_in, phase_in, rest_of}
use Rattle.iso_record.proofs.SerialEvents.{enter_ok, shut_ok}
use Rattle.iso_record.proofs.SerialStates.{IsFinished, IsLeftAt, NodeStatus, SameLook, left_class, left_closing, left_test, steps_look}
use Rattle.iso_standing.proofs.Looks.{held-is}
use Rattle.iso_standing.specs.Phases.{bare, phase_of}
use Rattle.iso_standing.specs.declared.phase.Phase.{Phase}
use Rattle.iso_standing.specs.declared.phase.Phase.TheVariants.{Begun, Closing, Finished}
use Rattle.iso_suites.proofs.BodyEnds.{scripts-end}
use Rattle.iso_suites.proofs.HistoryLeaves.{goes-on-by-leave}
use Rattle.iso_suites.proofs.LanguageLaws.{scripts-laws}
use Rattle.iso_suites.proofs.PlanOpenings.{laws}
use Rattle.iso_lifecycle.specs.Subjects.{started}
use Rattle.iso_suites.proofs.Progressing.{progress-laws}
use Rattle.iso_suites.proofs.StateRuns.{stopped-run}
use Rattle.iso_suites.specs.ScriptLanguage.{Head, is_of_test, scripts}
use Rattle.iso_suites.specs.SuiteStates.{GoesOnByLeave, RunNodes, RunState, booking_refusal, suite_at}

-- a body is under way
is_going : (st : NodeStatus) → (phase_of st ≡ Begun) ⊎ (phase_of st ≡ Closing) → is_some (body_in st) ≡ true
is_going (S.Begun b) e = refl
is_going (S.Closing fs b) e = refl
is_going S.Waiting (inl e) = absurd cc
is_going S.Waiting (inr e) = absurd cc
is_going (S.Open fs) (inl e) = absurd cc
is_going (S.Open fs) (inr e) = absurd cc
is_going (S.Barred fs) (inl e) = absurd cc
is_going (S.Barred fs) (inr e) = absurd cc
is_going (S.Finished r) (inl e) = absurd cc
is_going (S.Finished r) (inr e) = absurd cc

none_of_three : (a b c : Bool) → a ≡ false → b ≡ false → c ≡ false → first_of (refuse a Why.Stopped ∷ refuse b Why.NoWorker ∷ refuse c Why.NoBody ∷ []) ≡ None
none_of_three false false false e f g = refl
none_of_three true b c e f g = absurd cc
none_of_three false true c e f g = absurd cc
none_of_three false false true e f g = absurd cc

above_zero : (n : ℕ) → 0 < n → leb n 0 ≡ false
above_zero n lt = elim (leb_tells n 0) [
  | inl p ↦ let low = p.1 in absurd (omega arith)
  | inr p ↦ p.0
]

module _ (x : Suite Head (List ℕ) Resource) where
  -- worker 0 alone has a body, of this node at this phase, and owns all
  pub record AtWork (n : ℕ) (p : Phase) (s : RunState) : Type 0 where
    pub busy : s.busy 0 ≡ Some n
    pub free : (w : ℕ) → (w ≡ 0 → ⊥) → s.busy w ≡ None
    pub owned : (m : ℕ) → s.owner m ≡ 0
    pub phase : phase_in s n ≡ p

  -- it has left its body, as the state machine says
  pub record HasLeft (n : ℕ) (s t : RunState) : Type 0 where
    pub before : RunNodes
    pub same : (m : ℕ) → phase_of (before.status m) ≡ phase_in s m
    pub nodes : t.nodes ≡ leaving scripts x n before (before.status n)
    pub free : (w : ℕ) → t.busy w ≡ None
    pub owned : (m : ℕ) → t.owner m ≡ 0

module _ (plan : Planned) (world : Start) (tree : IsTree (tree_of plan)) (workers : ℕ) (manned : 0 < workers) where
  abbrev x : Suite Head (List ℕ) Resource
  x = suite_at plan world

  abbrev st : List E.Event → RunState
  st h = state_of scripts x h

  suite_laws : SuiteLaws scripts x
  suite_laws = laws plan world tree

  module _ (h : List E.Event) (is : IsHistory scripts x workers h) where
    goes : (e : E.Event) → has_no_step (e ∷ []) ≡ true → is_accepted scripts x workers (st h) e ≡ true → GoesOn scripts x workers h e
    goes e clean ok = goes_on scripts x suite_laws scripts-laws scripts-end workers h e is clean ok

    -- worker 0 leaves its body
    module _ (n : ℕ) (p : Phase) (work : AtWork x n p (st h)) (first : (p ≡ Begun) ⊎ (p ≡ Closing)) where
      phase_is : (phase_in (st h) n ≡ Begun) ⊎ (phase_in (st h) n ≡ Closing)
      phase_is = elim first [ inl e ↦ inl (work.phase ∙ e) | inr e ↦ inr (work.phase ∙ e) ]

      allowed : booking_refusal x workers (st h) 0 ≡ None
      allowed =
          none_of_three (st h).stopped (leb workers 0) _
          (stopped-run x (full scripts x (S.first scripts x) h) (S.first scripts x)) (above_zero workers manned)
          (ap (λ (o : Option ℕ). not (is_some (where_some o None (λ m. body_in ((st h).nodes.status m))))) work.busy ∙ ap not (is_going ((st h).nodes.status n) phase_is))

      on : GoesOnByLeave plan world workers h 0
      on = goes-on-by-leave plan world workers h 0 tree is allowed

      look : SameLook (st h) on.before
      look = subst (λ (t : RunState). SameLook (st h) t) on.made (steps_look x workers 0 on.steps (st h) on.run)

      pub leaves_history : IsHistory scripts x workers (h ++ E.Leave 0 ∷ [])
      leaves_history = on.history

      pub has_left : HasLeft x n (st h) (st (h ++ E.Leave 0 ∷ []))
      has_left = record {
        before = on.before.nodes;
        same = look.phases;
        nodes = ap (λ (t : RunState). t.nodes) on.state
            ∙ ap (λ (o : Option ℕ). where_some o on.before.nodes (λ m. leaving scripts x m on.before.nodes (on.before.nodes.status m))) (look.busy 0 ∙ work.busy);
        free = λ w. ap (λ (t : RunState). t.busy w) on.state ∙ free_by w;
        owned = λ m. ap (λ (t : RunState). t.owner m) on.state ∙ look.owner m ∙ work.owned m;
      }
        where
          free_by : (w : ℕ) → put 0 None on.before.busy w ≡ None
          free_by w = elim (equal_or_not w 0) [
            | inl e ↦ ap (put 0 None on.before.busy) e ∙ put_here 0 None on.before.busy
            | inr ne ↦ put_elsewhere w 0 None on.before.busy ne ∙ look.busy w ∙ work.free w ne
          ]

held_as : (a b : NodeStatus) → phase_of a ≡ phase_of b → is_held a ≡ is_held b
held_as a b e = held-is a ∙ ap (λ (p : Phase). is_held (bare p)) e ∙ sym (held-is b)

waits_unheld : (w : Bool) (a : NodeStatus) → phase_of a ≡ left_in w → is_held a ≡ true → ⊥
waits_unheld true a e h = let f = held-is a ∙ ap (λ (p : Phase). is_held (bare p)) e in cc
waits_unheld false a e h = let f = held-is a ∙ ap (λ (p : Phase). is_held (bare p)) e in cc

module _ (plan : Planned) (world : Start) (tree : IsTree (tree_of plan)) where
  abbrev y : Suite Head (List ℕ) Resource
  y = suite_at plan world

  y_laws : SuiteLaws scripts y
  y_laws = laws plan world tree

  -- a node above another is on its path, and what is on it is above
  in_path : (n m : ℕ) (ms : List ℕ) → (m ≡ n) ⊎ (is_in n ms ≡ true) → is_in n (m ∷ ms) ≡ true
  in_path n m ms (inl e) = ap (λ (b : Bool). cond b true (is_in n ms)) (eq-eqb m n e)
  in_path n m ms (inr h) = by (eqb m n) refl
    where
      by : (b : Bool) → eqb m n ≡ b → cond b true (is_in n ms) ≡ true
      by true e = refl
      by false e = h

  on_path : {n m : ℕ} → (n ≡ 0 → ⊥) → On y n m → is_in n (y.path m) ≡ true
  on_path {n} nz same = ap (is_in n) (y_laws.path n nz) ∙ in_path n n (y.path (y.parent n)) (inl refl)
  on_path {n} {m} nz (up inner on) = ap (is_in n) (y_laws.path m inner) ∙ in_path n m (y.path (y.parent m)) (inr (on_path nz on))

  module _ (n : ℕ) (pos : 0 < n) where
    nonzero : n ≡ 0 → ⊥
    nonzero e = omega arith

    inside_stands : (m : ℕ) → (m ≡ n → ⊥) → On y n m → stands_in scripts y m n ≡ true
    inside_stands m ne on = elim (on_split y on) [
      | inl e ↦ absurd (ne (sym e))
      | inr r ↦ on_path nonzero r.1
    ]

    stands_inside : (m : ℕ) → stands_in scripts y m n ≡ true → On y n m
    stands_inside m h =
        let on : On y n (y.parent m) = path_on scripts y y_laws scripts-laws n (y.parent m) h in
        elim (equal_or_not m 0) [
          | inl z ↦
              let top : y.parent m ≡ 0 = ap y.parent z ∙ ap (λ r. r.parent) tree.root_is in
              let le = on_le scripts y y_laws on in
              absurd (omega arith)
          | inr nz ↦ up nz on
        ]

    outside_stands : (m : ℕ) → (On y n m → ⊥) → stands_in scripts y m n ≡ false
    outside_stands m out = elim (true_or_false (stands_in scripts y m n)) [
      | inl t ↦ absurd (out (stands_inside m t))
      | inr f ↦ f
    ]

    -- nothing stands in a test
    alone : is_of_test (y.head n) ≡ true → (m : ℕ) → On y n m → m ≡ n
    alone test m on = elim (step_down y on) [
      | inl e ↦ sym e
      | inr c ↦
          let low : is_of_test (y.head (y.parent c.child)) ≡ false =
          (progress-laws (tree_of plan) tree plan.settings (started world)).tests c.child c.nonzero (λ e. let u = c.under in absurd (omega arith)) in
          let wrong : true ≡ false = sym test ∙ ap (λ (j : ℕ). is_of_test (y.head j)) (sym c.under) ∙ low in
          absurd cc
    ]

  module _ (workers : ℕ) (manned : 0 < workers) (h : List E.Event) (is : IsHistory scripts y workers h) (n : ℕ) (pos : 0 < n) (within : n < length (tree_of plan)) where
    abbrev now : List E.Event → RunState
    now g = state_of scripts y g

    module _ (between : BetweenNodes y (parent (tree_of plan) n) (now h)) (next : ComesNext y n (now h)) where
      abbrev entered : List E.Event
      entered = h ++ E.Enter 0 n ∷ []

      enters : GoesOn scripts y workers h (E.Enter 0 n)
      enters = goes plan world tree workers manned h is (E.Enter 0 n) refl (enter_ok plan world tree workers manned h is n pos within between next)

      pub may_enter : is_accepted scripts y workers (now h) (E.Enter 0 n) ≡ true
      may_enter = enter_ok plan world tree workers manned h is n pos within between next

      pub entered_history : IsHistory scripts y workers entered
      entered_history = enters.history

      entered_phase : (m : ℕ) → (m ≡ n → ⊥) → phase_in (now entered) m ≡ phase_in (now h) m
      entered_phase m ne = ap (λ (t : RunState). phase_in t m) enters.state ∙ ap phase_of (put_elsewhere m n _ (now h).nodes.status ne)

      entered_work : AtWork y n Begun (now entered)
      entered_work = record {
        busy = ap (λ (t : RunState). t.busy 0) enters.state ∙ put_here 0 (Some n) (now h).busy;
        free = λ w ne. ap (λ (t : RunState). t.busy w) enters.state ∙ put_elsewhere w 0 (Some n) (now h).busy ne ∙ between.free w;
        owned = λ m. ap (λ (t : RunState). t.owner m) enters.state ∙ owned_by m;
        phase = ap (λ (t : RunState). phase_in t n) enters.state ∙ ap phase_of (put_here n _ (now h).nodes.status);
      }
        where
          owned_by : (m : ℕ) → put n 0 (now h).owner m ≡ 0
          owned_by m = elim (equal_or_not m n) [
            | inl e ↦ ap (put n 0 (now h).owner) e ∙ put_here n 0 (now h).owner
            | inr ne ↦ put_elsewhere m n 0 (now h).owner ne ∙ between.owned m
          ]

      abbrev after_first : List E.Event
      after_first = entered ++ E.Leave 0 ∷ []

      pub first_history : IsHistory scripts y workers after_first
      first_history = leaves_history plan world tree workers manned entered entered_history n Begun entered_work (inl refl)

      left : HasLeft y n (now entered) (now after_first)
      left = has_left plan world tree workers manned entered entered_history n Begun entered_work (inl refl)

      begun : phase_of (left.before.status n) ≡ Begun
      begun = left.same n ∙ entered_work.phase

      abbrev t : RunState
      t = now after_first

      module _ (test : is_of_test (y.head n) ≡ true) where
        end : IsFinished y n left.before (leaving scripts y n left.before (left.before.status n))
        end = left_test y n left.before (left.before.status n) begun test

        here : phase_in t n ≡ Finished
        here = ap (λ (q : RunNodes). phase_of (q.status n)) left.nodes ∙ end.here

        there : (m : ℕ) → (m ≡ n → ⊥) → phase_in t m ≡ phase_in (now h) m
        there m ne = ap (λ (q : RunNodes). phase_of (q.status m)) left.nodes ∙ ap phase_of (end.there m ne) ∙ left.same m ∙ entered_phase m ne

        pub test_done : IsDone y n (now h) t
        test_done = record {
          done = λ m lt on. ap (phase_in t) (alone n pos test m on) ∙ here;
          others = λ m out. there m (λ e. out (subst (λ (j : ℕ). On y n j) (sym e) same));
        }

        pub test_between : BetweenNodes y (parent (tree_of plan) n) t
        test_between = record {
          free = left.free;
          owned = left.owned;
          held = λ m held. elim (equal_or_not m n) [
            | inl e ↦ absurd (waits_unheld false (t.nodes.status m) (ap (phase_in t) e ∙ here) held)
            | inr ne ↦ between.held m (sym (held_as (t.nodes.status m) ((now h).nodes.status m) (there m ne)) ∙ held)
          ];
        }

      module _ (class : is_of_test (y.head n) ≡ false) where
        opens : IsLeftAt y n left.before (leaving scripts y n left.before (left.before.status n))
        opens = left_class y n left.before (left.before.status n) begun class

        apart : (m : ℕ) → (m ≡ n → ⊥) → stands_in scripts y m n ≡ false → phase_in t m ≡ phase_in (now h) m
        apart m ne out = ap (λ (q : RunNodes). phase_of (q.status m)) left.nodes ∙ opens.others m ne out ∙ left.same m ∙ entered_phase m ne

        inner : (m : ℕ) → (m ≡ n → ⊥) → On y n m → phase_in t m ≡ left_in opens.well
        inner m ne on =
            ap (λ (q : RunNodes). phase_of (q.status m)) left.nodes
            ∙ opens.inside m ne (inside_stands n pos m ne on) (left.same m ∙ entered_phase m ne ∙ next.waits m on)

        pub class_opened : IsOpened y n (now h) t
        class_opened = record {
          well = opens.well;
          here = ap (λ (q : RunNodes). phase_of (q.status n)) left.nodes ∙ opens.here;
          inside = inner;
          others = λ m out. apart m (λ e. out (subst (λ (j : ℕ). On y n j) (sym e) same)) (outside_stands n pos m out);
        }

        held_by : (m : ℕ) → is_held (t.nodes.status m) ≡ true → (b : Bool) → stands_in scripts y m n ≡ b → On y m n
        held_by m held b e = elim (equal_or_not m n) [
          | inl z ↦ subst (λ (j : ℕ). On y j n) (sym z) same
          | inr ne ↦ by_side b e ne
        ]
          where
            by_side : (b : Bool) → stands_in scripts y m n ≡ b → (m ≡ n → ⊥) → On y m n
            by_side true e ne = absurd (waits_unheld opens.well (t.nodes.status m) (inner m ne (stands_inside n pos m e)) held)
            by_side false e ne = up (nonzero n pos) (between.held m (sym (held_as (t.nodes.status m) ((now h).nodes.status m) (apart m ne e)) ∙ held))

        pub class_between : BetweenNodes y n t
        class_between = record { free = left.free; owned = left.owned; held = λ m held. held_by m held (stands_in scripts y m n) refl }

    module _ (between : BetweenNodes y n (now h)) (w : Bool) (rests : phase_in (now h) n ≡ rest_of w) (children : (m : ℕ) → m < y.nodes → 0 < m → y.parent m ≡ n → phase_in (now h) m ≡ Finished) where
      abbrev shut : List E.Event
      shut = h ++ E.Shut 0 n ∷ []

      pub may_shut : is_accepted scripts y workers (now h) (E.Shut 0 n) ≡ true
      may_shut = shut_ok plan world tree workers manned h is n pos within between w rests children

      shuts : GoesOn scripts y workers h (E.Shut 0 n)
      shuts = goes plan world tree workers manned h is (E.Shut 0 n) refl may_shut

      pub shut_history : IsHistory scripts y workers shut
      shut_history = shuts.history

      shut_phase : (m : ℕ) → (m ≡ n → ⊥) → phase_in (now shut) m ≡ phase_in (now h) m
      shut_phase m ne = ap (λ (t : RunState). phase_in t m) shuts.state ∙ ap phase_of (put_elsewhere m n _ (now h).nodes.status ne)

      shut_work : AtWork y n Closing (now shut)
      shut_work = record {
        busy = ap (λ (t : RunState). t.busy 0) shuts.state ∙ put_here 0 (Some n) (now h).busy;
        free = λ v ne. ap (λ (t : RunState). t.busy v) shuts.state ∙ put_elsewhere v 0 (Some n) (now h).busy ne ∙ between.free v;
        owned = λ m. ap (λ (t : RunState). t.owner m) shuts.state ∙ between.owned m;
        phase = ap (λ (t : RunState). phase_in t n) shuts.state ∙ ap phase_of (put_here n _ (now h).nodes.status);
      }

      abbrev after_last : List E.Event
      after_last = shut ++ E.Leave 0 ∷ []

      pub last_history : IsHistory scripts y workers after_last
      last_history = leaves_history plan world tree workers manned shut shut_history n Closing shut_work (inr refl)

      last : HasLeft y n (now shut) (now after_last)
      last = has_left plan world tree workers manned shut shut_history n Closing shut_work (inr refl)

      closed : IsFinished y n last.before (leaving scripts y n last.before (last.before.status n))
      closed = left_closing y n last.before (last.before.status n) (last.same n ∙ shut_work.phase)

      abbrev z : RunState
      z = now after_last

      pub closed_here : phase_in z n ≡ Finished
      closed_here = ap (λ (q : RunNodes). phase_of (q.status n)) last.nodes ∙ closed.here

      pub closed_there : (m : ℕ) → (m ≡ n → ⊥) → phase_in z m ≡ phase_in (now h) m
      closed_there m ne = ap (λ (q : RunNodes). phase_of (q.status m)) last.nodes ∙ ap phase_of (closed.there m ne) ∙ last.same m ∙ shut_phase m ne

      pub closed_between : BetweenNodes y (parent (tree_of plan) n) z
      closed_between = record {
        free = last.free;
        owned = last.owned;
        held = λ m held. elim (equal_or_not m n) [
          | inl e ↦ absurd (waits_unheld false (z.nodes.status m) (ap (phase_in z) e ∙ closed_here) held)
          | inr ne ↦ elim (on_split y (between.held m (sym (held_as (z.nodes.status m) ((now h).nodes.status m) (closed_there m ne)) ∙ held))) [
            | inl e ↦ absurd (ne e)
            | inr r ↦ r.1
          ]
        ];
      }
