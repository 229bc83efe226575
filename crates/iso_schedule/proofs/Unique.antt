-- Bytes are read as one thing at most.
use Rattle.std.proofs.Common.{◌≡◌, ◌+◌, ◌∷◌, [], ℕ, List, Some, None, Ok, Err, ap, subst, refl, arith}
use Rattle.iso_schedule.specs.Lines.{Written, Writes, IsShort, IsEvent, is_event, IsWrong, no_event, too_big, event}
use Rattle.iso_schedule.specs.Schedules.{HaveEvents, no_line, empty_line, event_line, HaveFault, this_line, after_empty_line, after_event_line, Reading, AreRead, too_long, as_events, as_fault}
use Rattle.iso_standing.specs.declared.event.Event.{Event}
use Rattle.iso_schedule.specs.declared.fault.ScheduleFault.{ScheduleFault}
use Rattle.iso_schedule.specs.declared.fault.ScheduleFaultKind.{ScheduleFaultKind}
use Rattle.iso_schedule.proofs.WrittenLines.{scanned-written}

written-once : {line : List ℕ} (x y : Written) → Writes line x → Writes line y → x ≡ y
written-once {line} x y v w = let a = scanned-written line x v in let b = scanned-written line y w in cc

nothing-written : (x : Written) → Writes [] x → ⊥
nothing-written x w = let a : None ≡ Some x = scanned-written [] x w in cc

event-once : {line : List ℕ} {e f : Event} → IsEvent line e → IsEvent line f → e ≡ f
event-once (is_event {x = x} v s) (is_event {x = y} w t) = ap event (written-once x y v w)

no_event-of_nothing : {e : Event} → IsEvent [] e → ⊥
no_event-of_nothing (is_event {x = x} w s) = nothing-written x w

nothing-right : {kind : ScheduleFaultKind} → IsWrong [] kind → ⊥
nothing-right (no_event some n) = some refl
nothing-right (too_big {x = x} w s) = nothing-written x w

event-right : {line : List ℕ} {e : Event} {kind : ScheduleFaultKind} → IsEvent line e → IsWrong line kind → ⊥
event-right (is_event {x = x} w s) (no_event some n) = n x w
event-right (is_event {x = x} w s) (too_big {x = y} v t) = t (subst IsShort (written-once x y w v) s)

wrong-once : {line : List ℕ} {k l : ScheduleFaultKind} → IsWrong line k → IsWrong line l → k ≡ l
wrong-once (no_event some n) (no_event other m) = refl
wrong-once (no_event some n) (too_big {x = x} w s) = absurd (n x w)
wrong-once (too_big {x = x} w s) (no_event some n) = absurd (n x w)
wrong-once (too_big v s) (too_big w t) = refl

events-once : (ls : List (List ℕ)) (es fs : List Event) → HaveEvents ls es → HaveEvents ls fs → es ≡ fs
events-once [] es fs no_line no_line = refl
events-once (l ∷ ls) es fs (empty_line h) (empty_line k) = events-once ls _ _ h k
events-once (l ∷ ls) es fs (empty_line h) (event_line i k) = absurd (no_event-of_nothing i)
events-once (l ∷ ls) es fs (event_line i h) (empty_line k) = absurd (no_event-of_nothing i)
events-once (l ∷ ls) es fs (event_line i h) (event_line j k) = λ n. event-once i j n ∷ events-once ls _ _ h k n

fault-none : (ls : List (List ℕ)) (es : List Event) (n : ℕ) (f : ScheduleFault) → HaveEvents ls es → HaveFault n ls f → ⊥
fault-none [] es n f h k = elim k [ ]
fault-none (l ∷ ls) es n f (empty_line h) (this_line w) = nothing-right w
fault-none (l ∷ ls) es n f (empty_line h) (after_empty_line k) = fault-none ls _ _ _ h k
fault-none (l ∷ ls) es n f (empty_line h) (after_event_line i k) = no_event-of_nothing i
fault-none (l ∷ ls) es n f (event_line i h) (this_line w) = event-right i w
fault-none (l ∷ ls) es n f (event_line i h) (after_empty_line k) = no_event-of_nothing i
fault-none (l ∷ ls) es n f (event_line i h) (after_event_line j k) = fault-none ls _ _ _ h k

fault-once : (ls : List (List ℕ)) (n : ℕ) (f g : ScheduleFault) → HaveFault n ls f → HaveFault n ls g → f ≡ g
fault-once [] n f g h k = elim h [ ]
fault-once (l ∷ ls) n f g (this_line v) (this_line w) = ap (λ k. record { kind = k; line = n }) (wrong-once v w)
fault-once (l ∷ ls) n f g (this_line v) (after_empty_line k) = absurd (nothing-right v)
fault-once (l ∷ ls) n f g (this_line v) (after_event_line i k) = absurd (event-right i v)
fault-once (l ∷ ls) n f g (after_empty_line h) (this_line w) = absurd (nothing-right w)
fault-once (l ∷ ls) n f g (after_empty_line h) (after_empty_line k) = fault-once ls (n + 1) f g h k
fault-once (l ∷ ls) n f g (after_empty_line h) (after_event_line i k) = absurd (no_event-of_nothing i)
fault-once (l ∷ ls) n f g (after_event_line i h) (this_line w) = absurd (event-right i w)
fault-once (l ∷ ls) n f g (after_event_line i h) (after_empty_line k) = absurd (no_event-of_nothing i)
fault-once (l ∷ ls) n f g (after_event_line i h) (after_event_line j k) = fault-once ls (n + 1) f g h k

pub read-once : (bytes : List ℕ) (r q : Reading) → AreRead bytes r → AreRead bytes q → r ≡ q
read-once bytes r q (too_long l) (too_long m) = refl
read-once bytes r q (too_long l) (as_events m k) = absurd (omega arith)
read-once bytes r q (too_long l) (as_fault m k) = absurd (omega arith)
read-once bytes r q (as_events m k) (too_long l) = absurd (omega arith)
read-once bytes r q (as_events l h) (as_events m k) = ap Ok (events-once _ _ _ h k)
read-once bytes r q (as_events l h) (as_fault m k) = absurd (fault-none _ _ _ _ h k)
read-once bytes r q (as_fault m k) (too_long l) = absurd (omega arith)
read-once bytes r q (as_fault l h) (as_events m k) = absurd (fault-none _ _ _ _ k h)
read-once bytes r q (as_fault l h) (as_fault m k) = ap Err (fault-once _ _ _ _ h k)
