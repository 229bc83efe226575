-- What is told of the course of a run is told of the suite that its inputs are.
use Rattle.std.proofs.Common.{◌≡◌, ◌≤◌, ◌^◌, ◌∙◌, ℕ, List, Bool, true, false, cond, Option, None, Some, Result, Ok, Err, OnOk, length, is_some, ◌||◌, refl, sym, ap, subst, arith}
use Rattle.std.proofs.Math.Dec.{ltb}
use Rattle.std.proofs.lemmas.Bool.{leb-true, ltb-false}
use Rattle.std.specs.Option.{option_map, option_or}
use Rattle.iso_book.specs.Books as Books
use Rattle.iso_book.specs.Books.{BookView}
use Rattle.iso_core.specs.Cores.{is_complete}
use Rattle.iso_core.specs.EventRuns.{core_after}
use Rattle.iso_isolation.specs.Runs.{full}
use Rattle.iso_isolation.specs.States.{first}
use Rattle.iso_model.specs.Scripts.{Script}
use Rattle.iso_model.specs.declared.limits.TheConstants.{FILE_BYTES, NODES}
use Rattle.iso_plan.specs.Faults.{full_fault, plan_fault}
use Rattle.iso_plan.specs.Planned.{Planned}
use Rattle.iso_plan.specs.KeptNodes.{plan_tree, texts_of}
use Rattle.iso_plan.specs.Tree.{Row}
use Rattle.iso_plan.specs.declared.fault.PlanFault.{PlanFault}
use Rattle.iso_plan.specs.declared.fault.PlanFault.TheVariants.{TooManyNodes}
use Rattle.iso_record.proofs.ShortLemmas.{short_run}
use Rattle.iso_record.proofs.TextLemmas.{events_read}
use Rattle.iso_record.specs.Recordings.{AreRecordOf}
use Rattle.iso_record.specs.SerialRuns.{AreSerialRecordOf}
use Rattle.iso_record.specs.Texts.{schedule_text}
use Rattle.iso_run.specs.Courses.{AreEvents, AreInOrder, AreRecord, AreWhole, HasObserved, IsCounted, IsCourse, IsRunOf, IsScheduled, IsUnasked, ObservedView, TellsCourse, trace_of, wants_times}
use Rattle.iso_run.specs.Runs.{IsRead}
use Rattle.iso_run.specs.Watches.{IsWatch, WasWatched, WasWatchedOf, watched_with}
use Rattle.iso_run.specs.declared.watch.Watch.{Watch}
use Rattle.iso_run.specs.Suites.{asks_for_paths, kept_fault, kept_nodes, planned, suite_of, wishes_in}
use Rattle.iso_run.specs.declared.course.Course.{Course}
use Rattle.iso_run.specs.declared.inputs.Inputs.{Inputs}
use Rattle.iso_run.specs.declared.inputs.Suite.{Suite as ReadSuite}
use Rattle.iso_run.specs.declared.way.Way.{Way}
use Rattle.iso_run.specs.declared.way.Way.TheVariants.{Serial, ByWorkers}
use Rattle.iso_schedule.specs.Schedules.{AreRead, as_events}
use Rattle.iso_selection.specs.PickedPlans.{picked_plan_fault, picked_tree}
use Rattle.iso_settings.specs.Worlds.{Start}
use Rattle.iso_standing.specs.declared.event.Event.{Event}
use Rattle.iso_suites.specs.ScriptLanguage.{scripts}
use Rattle.iso_suites.specs.SuiteStates.{suite_at}
use Rattle.iso_tap.specs.Sinks.{Account, Wrote}
use Rattle.iso_telling.specs.Pages.{WatchedView}
use Rattle.iso_telling.specs.Telling.{IsTold}

-- what a book's record and a record of worker 0 alone are
pub whole-of_book : (b : BookView) (es : List Event) → AreRecordOf b.plan b.world b.workers b.history es
    → is_complete (core_after b.plan b.world b.workers es) ≡ Books.is_complete b → Books.is_complete b ≡ true → AreEvents ByWorkers b.plan b.world b.workers es
whole-of_book b es r same whole =
    let x = suite_at b.plan b.world in
    (record { accepted = r.accepted; in_full = r.in_full ∙ ap (full scripts x (first scripts x)) (sym r.history); complete = same ∙ whole }, tt)

pub whole-of_serial : (plan : Planned) (start : Start) (workers : ℕ) (es : List Event) → AreSerialRecordOf plan start workers es → AreEvents Serial plan start workers es
whole-of_serial plan start workers es r = (record { accepted = r.accepted; in_full = r.in_full; complete = r.complete }, (r.alone, r.serial))

-- lines of events that were written are told
pub scheduled-told : {A F : Type 0} (Are : List Event → Type 0) (old new : Account) (es : List Event) (result : Result A F) → Are es → OnOk result (Wrote old new (schedule_text es))
    → OnOk result (IsScheduled Are (Some old) (Some new))
scheduled-told Are old new es (Ok a) are wrote = (es, are, wrote)
scheduled-told Are old new es (Err e) are wrote = tt

-- where no fault is found, none is found by either part
or-none : (a b : Option PlanFault) → option_or a b ≡ None → (a ≡ None) × (b ≡ None)
or-none None b h = (refl, h)
or-none (Some f) b h = absurd (let some : Some f ≡ None = h in cc)

few-nodes : (tree : List Row) → full_fault tree ≡ None → length tree ≤ NODES
few-nodes tree = by (ltb NODES (length tree)) refl
  where
    by : (t : Bool) → ltb NODES (length tree) ≡ t → cond t (Some TooManyNodes) None ≡ None → length tree ≤ NODES
    by true e h = absurd (let some : Some TooManyNodes ≡ None = h in cc)
    by false e h = ltb-false NODES (length tree) e

kept-few : (inputs : Inputs) (ss : List Script) → kept_fault inputs ss ≡ None → length (kept_nodes inputs ss) ≤ NODES
kept-few inputs ss = by (asks_for_paths inputs)
  where
    by : (asks : Bool) → cond asks (plan_fault ss (texts_of inputs.only.now)) (picked_plan_fault ss (wishes_in inputs) inputs.shard) ≡ None
        → length (cond asks (plan_tree ss (texts_of inputs.only.now)) (picked_tree ss (wishes_in inputs) inputs.shard)) ≤ NODES
    by true h = few-nodes _ (or-none _ _ (or-none _ _ (or-none _ _ h).1).0).1
    by false h = few-nodes _ (or-none _ _ (or-none _ _ (or-none _ _ h).1).1).0

most : NODES ≤ 10 ^ 9
most = leb-true NODES (10 ^ 9) refl

many : 64 ≤ 10 ^ 9
many = leb-true 64 (10 ^ 9) refl

module _ (inputs : Inputs) (keeps : Bool) (suite : ReadSuite) (is : IsRead inputs keeps suite) where
  -- the events of a run of a suite that was read are the record of the suite that its inputs are
  record-of : (way : Way) (events : List Event) → AreEvents way suite.plan suite.world suite.settings.worker_count events → AreRecord inputs (suite_of inputs suite) way events
  record-of way events h =
      let s = suite_of inputs suite in
      let workers = suite.settings.worker_count in
      let all = subst (λ (p : Planned). AreWhole p suite.world workers events) is.planned_as h.0 in
      let x = suite_at (planned s) s.start in
      let fits = subst (λ (ns : List Row). length ns ≤ NODES) (sym is.is_suite.kept) (kept-few inputs is.is_suite.scripts is.is_suite.planned) in
      let small : length s.nodes ≤ 10 ^ 9 = omega (arith, fits, most) in
      let few : workers ≤ 10 ^ 9 = omega (arith, is.manned.1, many) in
      let short = short_run x workers few small (first scripts x) events all.accepted in
      record {
        whole = all;
        in_order = subst (λ (p : Planned). AreInOrder way p events) is.planned_as h.1;
        replays =
            λ schedule same fits.
            let read = as_events (subst (λ (t : List ℕ). length t ≤ FILE_BYTES) same fits) (events_read events short) in
            (s, is.is_suite, (events, subst (λ (t : List ℕ). AreRead t (Ok events)) (sym same) read, (all.accepted, all.complete)));
      }

  scheduled : (way : Way) (old new : Option Account) → IsScheduled (AreEvents way suite.plan suite.world suite.settings.worker_count) old new
      → IsScheduled (AreRecord inputs (suite_of inputs suite) way) old new
  scheduled way None new h = h
  scheduled way (Some old) None h = absurd h
  scheduled way (Some old) (Some new) h = (h.0, record-of way h.0 h.1, h.2)

  course_of_suite : (way : Way) (old new : Course) → IsCourse (AreEvents way suite.plan suite.world suite.settings.worker_count) way suite.plan suite.world suite.settings.worker_count old new
      → TellsCourse inputs way old new
  course_of_suite way old new h =
      let workers = suite.settings.worker_count in
      let told : IsCourse (AreRecord inputs (suite_of inputs suite) way) way suite.plan suite.world workers old new =
      record { schedule = scheduled way old.schedule new.schedule h.schedule; run = h.run; is_run = h.is_run; trace = h.trace; stats = h.stats } in
      (suite_of inputs suite, is.is_suite, subst (λ (p : Planned). IsCourse (AreRecord inputs (suite_of inputs suite) way) way p suite.world workers old new) is.planned_as told)

  pub course-told : {A F : Type 0} (way : Way) (old new : Course) (result : Result A F)
      → IsCourse (AreEvents way suite.plan suite.world suite.settings.worker_count) way suite.plan suite.world suite.settings.worker_count old new
      → OnOk result (TellsCourse inputs way old new)
  course-told way old new (Ok a) h = course_of_suite way old new h
  course-told way old new (Err e) h = tt

  -- what was watched of a run of a suite that was read was watched of the suite that its inputs are
  pub watched-of : (way : Way) (asked : Bool) (watched : Option WatchedView) → WasWatched way suite.plan suite.world suite.settings.worker_count asked watched → WasWatchedOf inputs way asked watched
  watched-of way asked watched h =
      (suite_of inputs suite, is.is_suite, subst (λ (p : Planned). WasWatched way p suite.world suite.settings.worker_count asked watched) is.planned_as h)

-- what is known of a run where it is watched was watched of it
pub watched-by : (way : Way) (plan : Planned) (start : Start) (workers : ℕ) (run : ObservedView) → IsRunOf way plan start workers run → (asked : Bool) (watch : Option Watch)
    → IsWatch run asked watch → WasWatched way plan start workers asked (option_map (watched_with run.times) watch)
watched-by way plan start workers run is false watch h = ap (option_map (watched_with run.times)) h
watched-by way plan start workers run is true None h = absurd h
watched-by way plan start workers run is true (Some w) h = record { run = run; is_run = is; bodies = refl; figures = h.0; waits = h.1; critical = h.2 }

-- where nothing is asked for of times, nothing is told of them
pub nothing-observed : (run : ObservedView) (course : Course) → wants_times course ≡ false → HasObserved run course course
nothing-observed run course none =
    let both = by course.trace course.stats none in
    record { schedule = refl; trace = both.0; stats = both.1 }
  where
    by : (t s : Option Account) → (is_some t || is_some s) ≡ false → IsTold (trace_of run) t t × IsCounted run s s
    by None None h = (refl, refl)
    by None (Some b) h = absurd (cc)
    by (Some a) s h = absurd (cc)

-- what was told of times and then of events is the course of a run
pub course-of : (Are : List Event → Type 0) (way : Way) (plan : Planned) (start : Start) (workers : ℕ) (run : ObservedView) → IsRunOf way plan start workers run → (old mid new : Course)
    → HasObserved run old mid → new.trace ≡ mid.trace → new.stats ≡ mid.stats → IsScheduled Are mid.schedule new.schedule → IsCourse Are way plan start workers old new
course-of Are way plan start workers run is old mid new observed trace stats scheduled =
    record {
      schedule = subst (λ (o : Option Account). IsScheduled Are o new.schedule) observed.schedule scheduled;
      run = run;
      is_run = is;
      trace = subst (λ (o : Option Account). IsTold (trace_of run) old.trace o) (sym trace) observed.trace;
      stats = subst (λ (o : Option Account). IsCounted run old.stats o) (sym stats) observed.stats;
    }

unasked-told : (inputs : Inputs) (way : Way) (old new : Course) → TellsCourse inputs way old new → IsUnasked old → IsUnasked new
unasked-told inputs way old new h none =
    let told = h.2 in (
      subst (λ (o : Option Account). IsScheduled (AreRecord inputs h.0 way) o new.schedule) none.0 told.schedule,
      subst (λ (o : Option Account). IsTold (trace_of told.run) o new.trace) none.1 told.trace,
      subst (λ (o : Option Account). IsCounted told.run o new.stats) none.2 told.stats,
    )

-- where nothing is asked for of a course, nothing was told of it
pub still-unasked : {A F : Type 0} (inputs : Inputs) (way : Way) (old new : Course) (result : Result A F) → OnOk result (TellsCourse inputs way old new) → IsUnasked old → OnOk result (IsUnasked new)
still-unasked inputs way old new (Ok a) h none = unasked-told inputs way old new h none
still-unasked inputs way old new (Err e) h none = tt
