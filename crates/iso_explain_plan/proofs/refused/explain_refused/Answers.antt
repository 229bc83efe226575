use Rattle.std.proofs.Common.{◌≡◌, List, Ok, Option, [], ap, ap₂, arith, option_map, slice_get, sym, true≢false, ◌∙◌, ℕ}
use Rattle.iso_plan.specs.RowView.{tree_of}
use Rattle.iso_standing.specs.declared.event.Event.{Event}
use Rattle.iso_tap.proofs.Sequences.{Wrote-none}
use Rattle.iso_explain_plan.specs.RefusedEvents.{refused_text}
use Rattle.iso_explain_plan.proofs.ReadLemmas.{events_of, has_events}
use Rattle.iso_explain_plan.proofs.refused.explain_refused.Goals as goal

pub returns-in-Err-Fault : goal.returns-in-Err-Fault
returns-in-Err-Fault g c =
    record {
      text = [];
      is = λ events few read.
          let other = rw c.in-Err-Fault.field-0-is at (c.in-Err-Fault.ensures.only (Ok events) read) in
          absurd (true≢false (sym (ap has_events other)));
      wrote = Wrote-none (g.W.Sink.account c.args.sink.now);
    }

pub returns-then-schedule : goal.returns-then-schedule
returns-then-schedule g c =
    record { text = []; is = λ events few read. absurd (omega (arith, few)); wrote = Wrote-none (g.W.Sink.account c.args.sink.now) }

pub returns : goal.returns
returns g c =
    let tree = tree_of c.args.plan.now in
    let refused = c.args.refused in
    record {
      text = refused_text (option_map (λ l. (l.number, l.text.now)) c.event_line-line.result) c.event_at-event.result refused tree;
      is = λ events few read.
          let same : c.in-Ok.events.items ≡ events = ap events_of (c.in-Ok.ensures.only (Ok events) read) in
          ap₂ (λ (line : Option (ℕ × List ℕ)) (event : Option Event). refused_text line event refused tree) c.event_line-line.ensures
          (c.event_at-event.ensures ∙ ap (λ (all : List Event). slice_get all c.args.index) (c.deref.ensures.value ∙ same));
      wrote = c.in_ok-tell.ensures;
    }
