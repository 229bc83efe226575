use Rattle.std.proofs.Common.{◌≡◌, ◌∙◌, ◌+◌, ◌++◌, ◌∷◌, [], subst, sym, ap, arith, append-nil}
use Rattle.std.proofs.lemmas.Grind.{common_steps}
use Rattle.std.specs.Str.Lines.{lines}
use Rattle.iso_schedule.proofs.LineLemmas.{no_bytes}
use Rattle.iso_schedule.proofs.ReadSoFar.{IsReadTo, at_wrong_line, past_empty_line, past_event_line}
use Rattle.iso_schedule.proofs.Unique.{read-once}
use Rattle.iso_schedule.specs.Schedules.{too_long, as_events, as_fault, HaveEvents, no_line}
use Rattle.iso_schedule.proofs.reader.read_schedule.Goals as goal
use Rattle.iso_schedule.proofs.reader.read_schedule.Goals.{then-not-is_empty+in-Ok+in_ok-push-in-Ok, else-not-is_empty}

pub returns-then-bytes-clause-answered : goal.returns-then-bytes-clause-answered
returns-then-bytes-clause-answered c = too_long (omega arith)

pub returns-in-Err-clause-answered : goal.returns-in-Err-clause-answered
returns-in-Err-clause-answered c =
    as_fault (omega arith) (at_wrong_line c.split_line.result.1.now c.in-Err.kind c.lines.invariant.read c.split_line.ensures.first c.in-Err.ensures)

pub returns-in-Err-clause-only : goal.returns-in-Err-clause-only
returns-in-Err-clause-only c = λ r h. read-once c.args.bytes.now _ r (returns-in-Err-clause-answered c) h

pub lines-preserved : goal.lines-preserved
lines-preserved c = record {
  read =
      elim c.if-not-is_empty.branch [
        | then-not-is_empty+in-Ok+in_ok-push-in-Ok w ↦
            let e : c.if-not-is_empty.events.items ≡ c.lines.events.items ++ (w.in-Ok.event ∷ []) = grind (arith, common_steps) in
            subst (λ es. IsReadTo c.args.bytes.now es (c.lines.number + 1) c.split_line.result.1.now) (sym e)
            (past_event_line c.split_line.result.1.now w.in-Ok.event c.lines.invariant.read c.split_line.ensures.first w.in-Ok.ensures)
        | else-not-is_empty w ↦
            subst (λ es. IsReadTo c.args.bytes.now es (c.lines.number + 1) c.split_line.result.1.now) (ap (λ v. v.items) (sym w.events-is))
            (past_empty_line c.split_line.result.1.now c.lines.invariant.read c.split_line.ensures.first (no_bytes _ (sym w.if-not-is_empty.false ∙ c.is_empty-in-lines.ensures)))
      ];
  counted = omega arith;
}

pub returns-clause-answered : goal.returns-clause-answered
returns-clause-answered c =
    let end : c.lines.rest.now ≡ [] = no_bytes _ c.lines-test.ensures in
    let none : HaveEvents (lines c.lines.rest.now) [] = subst (λ bs. HaveEvents (lines bs) []) (sym end) no_line in
    as_events (omega arith) (subst (HaveEvents (lines c.args.bytes.now)) (append-nil c.lines.events.items) (c.lines.invariant.read.events [] none))

pub returns-clause-only : goal.returns-clause-only
returns-clause-only c = λ r h. read-once c.args.bytes.now _ r (returns-clause-answered c) h
