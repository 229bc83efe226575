-- How far a schedule is read.
use Rattle.std.proofs.Common.{◌≡◌, ◌+◌, ℕ, List, [], ◌∷◌, ◌++◌, subst, sym, append_assoc}
use Rattle.std.specs.Str.Lines.{lines}
use Rattle.iso_schedule.specs.Lines.{IsEvent, IsWrong}
use Rattle.iso_schedule.specs.Schedules.{HaveEvents, empty_line, event_line, HaveFault, this_line, after_empty_line, after_event_line}
use Rattle.iso_standing.specs.declared.event.Event.{Event}
use Rattle.iso_schedule.specs.declared.fault.ScheduleFault.{ScheduleFault}
use Rattle.iso_schedule.specs.declared.fault.ScheduleFaultKind.{ScheduleFaultKind}

-- Of the bytes so many lines are read, to these events, and the rest follows.
pub record IsReadTo (bytes : List ℕ) (done : List Event) (number : ℕ) (rest : List ℕ) : Type 0 where
  pub events : (es : List Event) → HaveEvents (lines rest) es → HaveEvents (lines bytes) (done ++ es)
  pub fault : (f : ScheduleFault) → HaveFault number (lines rest) f → HaveFault 1 (lines bytes) f

pub at_start : (bytes : List ℕ) → IsReadTo bytes [] 1 bytes
at_start bytes = record { events = λ es h. h; fault = λ f h. h }

module _ {bytes : List ℕ} {done : List Event} {number : ℕ} {rest line : List ℕ} (after : List ℕ) where
  pub past_empty_line : IsReadTo bytes done number rest → lines rest ≡ line ∷ lines after → line ≡ [] → IsReadTo bytes done (number + 1) after
  past_empty_line r e n = record {
    events = λ es h. r.events es (subst (λ ls. HaveEvents ls es) (sym e) (subst (λ l. HaveEvents (l ∷ lines after) es) (sym n) (empty_line h)));
    fault = λ f h. r.fault f (subst (λ ls. HaveFault number ls f) (sym e) (subst (λ l. HaveFault number (l ∷ lines after) f) (sym n) (after_empty_line h)));
  }

  pub past_event_line : (x : Event) → IsReadTo bytes done number rest → lines rest ≡ line ∷ lines after → IsEvent line x → IsReadTo bytes (done ++ x ∷ []) (number + 1) after
  past_event_line x r e i = record {
    events = λ es h. subst (HaveEvents (lines bytes)) (sym (append_assoc done (x ∷ []) es)) (r.events (x ∷ es) (subst (λ ls. HaveEvents ls (x ∷ es)) (sym e) (event_line i h)));
    fault = λ f h. r.fault f (subst (λ ls. HaveFault number ls f) (sym e) (after_event_line i h));
  }

  pub at_wrong_line : (kind : ScheduleFaultKind) → IsReadTo bytes done number rest → lines rest ≡ line ∷ lines after
      → IsWrong line kind → HaveFault 1 (lines bytes) (record { kind = kind; line = number })
  at_wrong_line kind r e i =
      let f : ScheduleFault = record { kind = kind; line = number } in
      r.fault f (subst (λ ls. HaveFault number ls f) (sym e) (this_line i))
