-- Cores that worker 0 alone runs.
use Rattle.std.proofs.Common.{◌≡◌, ℕ, ◌<◌, List, [], ◌∷◌, ◌++◌, Option, Some, None, option_map, is_some, get_or, length, ◌+◌, true, false, refl, sym, ap, subst, ◌∙◌}
use Rattle.iso_core.specs.Cores.{CoreView, new_core, outcome_in, state_in, suite_in}
use Rattle.iso_isolation.specs.Events as E
use Rattle.iso_isolation.specs.Histories.{IsHistory}
use Rattle.iso_isolation.specs.Runs as Runs
use Rattle.iso_isolation.specs.Runs.{after_all_of, full, history_of, is_run, result_of}
use Rattle.iso_isolation.specs.States as S
use Rattle.iso_isolation.specs.States.{first, is_finished, result_in}
use Rattle.iso_model.specs.declared.outcome.Outcome.{Outcome}
use Rattle.iso_plan.specs.Paths.{IsTree, children, is_test, row_at}
use Rattle.iso_plan.specs.Planned.{Planned}
use Rattle.iso_plan.specs.RowView.{tree_of}
use Rattle.iso_record.proofs.RecordLemmas.{moved, same_on, stands}
use Rattle.iso_record.proofs.SerialNodes.{may_close, may_inside, may_next, out_next, ran_class, run_next, closed, enter_history, first_history, last_history, opened, run_complete, run_test, shut_history}
use Rattle.iso_record.proofs.SerialStates.{NodeStatus}
use Rattle.iso_record.proofs.SerialEvents.{finished_by}
use Rattle.iso_record.proofs.SerialWorkers.{all_firsts}
use Rattle.iso_record.specs.Recordings.{GoesOnBy, HasGoneOnBy, HasTaken, OfSameSuite, history_in}
use Rattle.iso_record.specs.SerialRuns.{AreSerialRecordOf, IsSerialHistory, HasClosed, HasOpened, HasRun, HasRunInside, HasRunSome, HasRunTest, MayClose, MayRun, MayRunInside, after_history}
use Rattle.iso_settings.specs.Worlds.{Start}
use Rattle.iso_standing.specs.Phases.{phase_of}
use Rattle.iso_standing.specs.declared.phase.Phase.TheVariants.{Finished}
use Rattle.iso_standing.specs.CodeEvents.{events_of}
use Rattle.iso_standing.specs.declared.event.Event.{Event}
use Rattle.iso_standing.specs.declared.event.Event.TheVariants as Code
use Rattle.iso_suites.specs.ScriptLanguage.{scripts}
use Rattle.iso_suites.specs.SuiteStates.{RunState, suite_at}

finished_is : (st : NodeStatus) → is_some (result_in st) ≡ is_finished st
finished_is S.Waiting = refl
finished_is (S.Begun b) = refl
finished_is (S.Open fs) = refl
finished_is (S.Barred fs) = refl
finished_is (S.Closing fs b) = refl
finished_is (S.Finished r) = refl

finished_phase : (st : NodeStatus) → is_finished st ≡ true → phase_of st ≡ Finished
finished_phase (S.Finished r) e = refl
finished_phase S.Waiting e = absurd cc
finished_phase (S.Begun b) e = absurd cc
finished_phase (S.Open fs) e = absurd cc
finished_phase (S.Barred fs) e = absurd cc
finished_phase (S.Closing fs b) e = absurd cc

some_map : {A B : Type 0} (f : A → B) (o : Option A) → is_some (option_map f o) ≡ is_some o
some_map f None = refl
some_map f (Some a) = refl

-- whether an outcome is there tells whether the node is finished
pub outcome_tells : {A : Type 0} (f : A → Outcome) (o : Option A) (c : CoreView) (n : ℕ) → HasTaken c (history_in c) → option_map f o ≡ outcome_in c n
    → is_some o ≡ is_finished ((after_history c.plan c.world c.workers (history_in c)).nodes.status n)
outcome_tells f o c n taken e =
    sym (some_map f o)
    ∙ ap is_some e
    ∙ finished_is ((state_in c).nodes.status n)
    ∙ ap (λ (s : RunState). is_finished (s.nodes.status n)) (stands c (history_in c) taken)

module _ (c d e : CoreView) (tree : IsTree (tree_of c.plan)) (n : ℕ) where
  -- a node is entered, and its first body left
  module _ (may : MayRun c.plan c.world c.workers n (history_in c)) where
    pub enters : GoesOnBy c (Code.Enter 0 n)
    enters = enter_history c.plan c.world c.workers tree n (history_in c) may

    pub leaves_first : OfSameSuite c d → HasGoneOnBy (Code.Enter 0 n) c d → GoesOnBy d (Code.Leave 0)
    leaves_first same on =
        moved (λ (p : Planned) (w : Start) (k : ℕ). IsHistory scripts (suite_at p w) k (history_in d ++ E.Leave 0 ∷ [])) c d same
        (subst (λ (g : List E.Event). IsHistory scripts (suite_in c) c.workers (g ++ E.Leave 0 ∷ [])) (sym on.history)
        (first_history c.plan c.world c.workers tree n (history_in c) may))

    module _ (on : HasGoneOnBy (Code.Enter 0 n) c d) (left : HasGoneOnBy (Code.Leave 0) d e) where
      both_taken : history_in e ≡ (history_in c ++ E.Enter 0 n ∷ []) ++ E.Leave 0 ∷ []
      both_taken = left.history ∙ ap (λ (g : List E.Event). g ++ E.Leave 0 ∷ []) on.history

      pub test_run : is_test (row_at (tree_of c.plan) n).kind ≡ true → HasRunTest c.plan c.world c.workers n (history_in c) (history_in e)
      test_run test =
          subst (λ (g : List E.Event). HasRunTest c.plan c.world c.workers n (history_in c) g) (sym both_taken)
          (run_test c.plan c.world c.workers tree n (history_in c) may test)

      pub class_opened : is_test (row_at (tree_of c.plan) n).kind ≡ false → HasOpened c.plan c.world c.workers n (history_in c) (history_in e)
      class_opened class =
          subst (λ (g : List E.Event). HasOpened c.plan c.world c.workers n (history_in c) g) (sym both_taken)
          (opened c.plan c.world c.workers tree n (history_in c) may class)

  -- a class is shut, and its last body left
  module _ (may : MayClose c.plan c.world c.workers n (history_in c)) where
    pub shuts : GoesOnBy c (Code.Shut 0 n)
    shuts = shut_history c.plan c.world c.workers tree n (history_in c) may

    pub leaves_last : OfSameSuite c d → HasGoneOnBy (Code.Shut 0 n) c d → GoesOnBy d (Code.Leave 0)
    leaves_last same on =
        moved (λ (p : Planned) (w : Start) (k : ℕ). IsHistory scripts (suite_at p w) k (history_in d ++ E.Leave 0 ∷ [])) c d same
        (subst (λ (g : List E.Event). IsHistory scripts (suite_in c) c.workers (g ++ E.Leave 0 ∷ [])) (sym on.history)
        (last_history c.plan c.world c.workers tree n (history_in c) may))

    pub class_closed : HasGoneOnBy (Code.Shut 0 n) c d → HasGoneOnBy (Code.Leave 0) d e → HasClosed c.plan c.world c.workers n (history_in c) (history_in e)
    class_closed on left =
        subst (λ (g : List E.Event). HasClosed c.plan c.world c.workers n (history_in c) g)
        (sym (left.history ∙ ap (λ (g : List E.Event). g ++ E.Leave 0 ∷ []) on.history))
        (closed c.plan c.world c.workers tree n (history_in c) may)

-- a whole run by worker 0 is a record
pub are_serial : (plan : Planned) (world : Start) (workers : ℕ) → IsTree (tree_of plan) → (c : CoreView) → OfSameSuite (new_core plan world workers) c → HasTaken c (history_in c)
    → HasRunInside plan world workers 0 [] (history_in c) → (es : List Event) → es ≡ c.events → AreSerialRecordOf plan world workers es
are_serial plan world workers tree c same taken run es are =
    let x = suite_at plan world in
    let to : OfSameSuite c (new_core plan world workers) = record { plan = sym same.plan; world = sym same.world; workers = sym same.workers } in
    let h : history_of (events_of es) ≡ history_in c = ap (λ (v : List Event). history_of (events_of v)) are in
    let in_full_is : events_of es ≡ full scripts x (first scripts x) (history_in c) =
    ap events_of are
    ∙ moved (λ (p : Planned) (w : Start) (k : ℕ). events_of c.events ≡ full scripts (suite_at p w) (first scripts (suite_at p w)) (history_in c)) c (new_core plan world workers) to taken.events in
    record {
      alone = all_firsts x (first scripts x) (tree_of plan) (children (tree_of plan) 0) (history_in c) es
          (subst (λ (g : List E.Event). IsSerialHistory (tree_of plan) g) (sym run.more) run.history) in_full_is;
      serial = subst (λ (g : List E.Event). IsSerialHistory (tree_of plan) g) (sym (h ∙ run.more)) run.history;
      in_full = in_full_is ∙ ap (full scripts x (first scripts x)) (sym h);
      accepted = subst (λ (t : List E.Event). is_run scripts x workers (first scripts x) t ≡ true) (sym in_full_is) run.at.history.run;
      complete =
          ap (λ (t : List E.Event). Runs.is_complete x (after_all_of scripts x (first scripts x) t)) in_full_is
          ∙ run_complete plan world workers tree (history_in c) run;
    }

back : (c d : CoreView) → OfSameSuite c d → OfSameSuite d c
back c d s = record { plan = sym s.plan; world = sym s.world; workers = sym s.workers }

-- a class that was opened is run inside and closed: the cores before it, once it was opened, once
-- it was run inside, and at the end
module _ (c d e f : CoreView) (tree : IsTree (tree_of c.plan)) (n : ℕ) (to_d : OfSameSuite c d) (to_e : OfSameSuite d e) (to_f : OfSameSuite e f)
    (may : MayRun c.plan c.world c.workers n (history_in c)) (o : HasOpened c.plan c.world c.workers n (history_in c) (history_in d)) where
  opened_may : MayRunInside c.plan c.world c.workers n (history_in d)
  opened_may = may_inside c.plan c.world c.workers tree n (history_in c) (history_in d) may.within o

  pub may_run_inside : MayRunInside d.plan d.world d.workers n (history_in d)
  may_run_inside = moved (λ (p : Planned) (w : Start) (k : ℕ). MayRunInside p w k n (history_in d)) c d to_d opened_may

  module _ (run : HasRunInside d.plan d.world d.workers n (history_in d) (history_in e)) where
    run_here : HasRunInside c.plan c.world c.workers n (history_in d) (history_in e)
    run_here = moved (λ (p : Planned) (w : Start) (k : ℕ). HasRunInside p w k n (history_in d) (history_in e)) d c (back c d to_d) run

    pub may_be_closed : MayClose e.plan e.world e.workers n (history_in e)
    may_be_closed =
        moved (λ (p : Planned) (w : Start) (k : ℕ). MayClose p w k n (history_in e)) c e (same_on c d e to_d to_e)
        (may_close c.plan c.world c.workers tree n (history_in d) (history_in e) may.positive opened_may run_here)

    pub has_run_class : HasClosed e.plan e.world e.workers n (history_in e) (history_in f) → HasRun c.plan c.world c.workers n (history_in c) (history_in f)
    has_run_class closed =
        ran_class c.plan c.world c.workers tree n (history_in c) (history_in d) (history_in e) (history_in f) o run_here
        (moved (λ (p : Planned) (w : Start) (k : ℕ). HasClosed p w k n (history_in e) (history_in f)) e c (back c e (same_on c d e to_d to_e)) closed)

-- the children of a class: the cores before the first, before one, and after it
module _ (c d e : CoreView) (tree : IsTree (tree_of c.plan)) (n i : ℕ) (to_d : OfSameSuite c d)
    (some : HasRunSome c.plan c.world c.workers n (history_in c) i (history_in d)) (lt : i < length (children (tree_of c.plan) n)) where
  pub may_run_child : is_finished ((after_history d.plan d.world d.workers (history_in d)).nodes.status (get_or (children (tree_of c.plan) n) i 0)) ≡ false
      → MayRun d.plan d.world d.workers (get_or (children (tree_of c.plan) n) i 0) (history_in d)
  may_run_child unfinished =
      let m = get_or (children (tree_of c.plan) n) i 0 in
      let here : is_finished ((after_history c.plan c.world c.workers (history_in d)).nodes.status m) ≡ false =
      moved (λ (p : Planned) (w : Start) (k : ℕ). is_finished ((after_history p w k (history_in d)).nodes.status m) ≡ false) d c (back c d to_d) unfinished in
      moved (λ (p : Planned) (w : Start) (k : ℕ). MayRun p w k m (history_in d)) c d to_d
      (may_next c.plan c.world c.workers tree n (history_in c) i (history_in d) some lt (λ e. let f = finished_by ((after_history c.plan c.world c.workers (history_in d)).nodes.status m) e in cc))

  pub child_run : HasRun d.plan d.world d.workers (get_or (children (tree_of c.plan) n) i 0) (history_in d) (history_in e)
      → HasRunSome c.plan c.world c.workers n (history_in c) (i + 1) (history_in e)
  child_run run =
      run_next c.plan c.world c.workers tree n (history_in c) i (history_in d) some lt (history_in e)
      (moved (λ (p : Planned) (w : Start) (k : ℕ). HasRun p w k (get_or (children (tree_of c.plan) n) i 0) (history_in d) (history_in e)) d c (back c d to_d) run)

  pub child_left_out : is_finished ((after_history d.plan d.world d.workers (history_in d)).nodes.status (get_or (children (tree_of c.plan) n) i 0)) ≡ true
      → HasRunSome c.plan c.world c.workers n (history_in c) (i + 1) (history_in d)
  child_left_out finished =
      let m = get_or (children (tree_of c.plan) n) i 0 in
      let here : is_finished ((after_history c.plan c.world c.workers (history_in d)).nodes.status m) ≡ true =
      moved (λ (p : Planned) (w : Start) (k : ℕ). is_finished ((after_history p w k (history_in d)).nodes.status m) ≡ true) d c (back c d to_d) finished in
      out_next c.plan c.world c.workers tree n (history_in c) i (history_in d) some lt (finished_phase ((after_history c.plan c.world c.workers (history_in d)).nodes.status m) here)
