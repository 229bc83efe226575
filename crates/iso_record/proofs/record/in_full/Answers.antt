use Rattle.std.proofs.Common.{[], ap, arith, subst, sym, take_all, ◌∙◌, List, ◌∷◌, ◌++◌}
use Rattle.iso_core.specs.Cores.{CoreView}
use Rattle.iso_core.specs.EventRuns.{event_at}
use Rattle.iso_standing.specs.declared.event.Event.TheVariants as Code
use Rattle.iso_isolation.specs.Events as E
use Rattle.iso_record.proofs.RecordLemmas.{are_record, may_go_on, new_taken, next_taken}
use Rattle.iso_record.specs.Recordings.{HasTaken, history_in}
use Rattle.iso_standing.specs.CodeEvents.{event_of, events_of}
use Rattle.iso_record.proofs.record.in_full.Goals as goal

pub history-init : goal.history-init
history-init c =
    let is = c.in_ok-recording.ensures in
    record {
      plan = ap (λ (v : CoreView). v.plan) is;
      world = ap (λ (v : CoreView). v.world) is;
      workers = ap (λ (v : CoreView). v.workers) is;
      taken = subst (λ (v : CoreView). HasTaken v (history_in v)) (sym is) (new_taken c.args.plan.now c.args.world.now c.args.workers);
      history = ap history_in is;
    }

pub go_on_at-requires-clause-goes_on : goal.go_on_at-requires-clause-goes_on
go_on_at-requires-clause-goes_on c =
    let i = c.history.invariant in
    may_go_on c.args.plan.now c.args.world.now c.args.workers c.args.history.now c.requires c.history.recording i.plan i.world i.workers
    c.history.index (Code.Step 0) c.history-test.true i.history

pub go_on_at-requires-clause-taken : goal.go_on_at-requires-clause-taken
go_on_at-requires-clause-taken c = c.history.invariant.taken

pub history-preserved : goal.history-preserved
history-preserved c =
    let i = c.history.invariant in
    let same = c.go_on_at.ensures.same in
    let on = c.in_ok-go_on_at.ensures.gone_on in
    record {
      plan = same.plan ∙ i.plan;
      world = same.world ∙ i.world;
      workers = same.workers ∙ i.workers;
      taken = on.taken;
      history = on.history ∙ ap (λ (g : List E.Event). g ++ event_of (event_at c.args.history.now c.history.index) ∷ []) i.history
          ∙ next_taken c.args.history.now c.history.index (Code.Step 0) c.history-test.true;
    }

pub returns : goal.returns
returns c =
    let i = c.history.invariant in
    are_record c.args.plan.now c.args.world.now c.args.workers c.args.history.now c.requires c.history.recording i.plan i.world i.workers i.taken
    (i.history ∙ ap events_of (take_all c.history.index c.args.history.now (omega arith))) _ c.into_events.ensures
