-- How a command ends, by what it answers.
use Rattle.std.proofs.Common.{◌≡◌, ℕ, ◌≤◌, List, [], Bool, true, false, Option, None, Some, IfSome, refl, arith}
use Rattle.iso_arguments.specs.RequestBounds.{IsPlainRun}
use Rattle.iso_arguments.specs.declared.request.Request.{Request}
use Rattle.iso_arguments.specs.declared.request.Request.TheVariants.{Run, Plan, Conflicts, Replay, Check, Affected, Settings, Show}
use Rattle.iso_run.specs.Commands.{Answered, Did, RanOn}
use Rattle.iso_run.specs.ExitStatuses.{Refuses, Whole, command_end, exit_status, run_end}
use Rattle.iso_run.specs.declared.command_fault.CommandFault.{CommandFault}
use Rattle.iso_run.specs.declared.command_fault.CommandFault.TheVariants as C
use Rattle.iso_run.specs.declared.run_fault.RunFault.{RunFault}
use Rattle.iso_run.specs.declared.run_fault.RunFault.TheVariants as F
use Rattle.iso_tap.specs.Sinks.{Account}

run-at-least-two : (fault : RunFault) → 2 ≤ exit_status (run_end fault)
run-at-least-two (F.Settings fault) = omega arith
run-at-least-two (F.World fault) = omega arith
run-at-least-two (F.Script index fault) = omega arith
run-at-least-two (F.Plan fault) = omega arith
run-at-least-two (F.Schedule fault) = omega arith
run-at-least-two (F.Refused index why) = omega arith
run-at-least-two F.Unfinished = omega arith
run-at-least-two F.Start = omega arith
run-at-least-two F.Lost = omega arith
run-at-least-two F.Memory = omega arith
run-at-least-two (F.Write written) = omega arith

pub at-least-two : (fault : CommandFault) → 2 ≤ exit_status (command_end fault)
at-least-two (C.Words text) = omega arith
at-least-two (C.Unreadable name) = omega arith
at-least-two (C.TooLarge name) = omega arith
at-least-two (C.NotListed file index text) = omega arith
at-least-two C.Unwritten = omega arith
at-least-two (C.Unwritable name) = omega arith
at-least-two C.Uncounted = omega arith
at-least-two (C.Told false) = omega arith
at-least-two (C.Told true) = omega arith
at-least-two (C.Run fault word text) = run-at-least-two fault

-- a plain run reported on what stood on the input
plain-ran : (request : Request) (script : List ℕ) (old new : Account) (ok : Bool) → IsPlainRun request → Did request (Some script) old new ok → RanOn script old new (exit_status (Whole ok))
plain-ran (Show text) script old new ok is did = absurd is
plain-ran (Plan tests places why files) script old new ok is did = absurd is
plain-ran (Conflicts files) script old new ok is did = absurd is
plain-ran (Affected folder paths files) script old new ok is did = absurd is
plain-ran (Check files) script old new ok is did = absurd is
plain-ran (Settings name processors explain) script old new ok is did = absurd is
plain-ran (Replay name extras files) script old new ok is did = absurd is
plain-ran (Run serial extras files) script old new ok is did = record { files = files; nothing = is.0; serial = serial; ok = ok; written = did; tells = refl }

pub without-words : {A : Type 0} (words : List A) (known : Option (List ℕ)) (old new : Account) (ok : Bool) → words ≡ [] → Answered words known old new ok
    → IfSome known (λ script. exit_status (Whole ok) ≤ 1 → RanOn script old new (exit_status (Whole ok)))
without-words words None old new ok none h = tt
without-words words (Some script) old new ok none h = λ low. plain-ran h.request script old new ok (h.plain none) h.did

pub never-low : (known : Option (List ℕ)) (P : List ℕ → Type 0) (status : ℕ) → 2 ≤ status → IfSome known (λ script. status ≤ 1 → P script)
never-low None P status two = tt
never-low (Some script) P status two = λ low. absurd (omega arith)

-- a fault with status 2 refuses
refuses-run : (fault : RunFault) → exit_status (run_end fault) ≡ 2 → run_end fault ≡ Refuses
refuses-run (F.Settings fault) h = refl
refuses-run (F.World fault) h = refl
refuses-run (F.Script index fault) h = refl
refuses-run (F.Plan fault) h = refl
refuses-run (F.Schedule fault) h = refl
refuses-run (F.Refused index why) h = refl
refuses-run F.Unfinished h = refl
refuses-run F.Start h = absurd (omega (arith, h))
refuses-run F.Lost h = absurd (omega (arith, h))
refuses-run F.Memory h = absurd (omega (arith, h))
refuses-run (F.Write written) h = absurd (omega (arith, h))

pub refuses : (fault : CommandFault) → exit_status (command_end fault) ≡ 2 → command_end fault ≡ Refuses
refuses (C.Words text) h = refl
refuses (C.Unreadable name) h = absurd (omega (arith, h))
refuses (C.TooLarge name) h = refl
refuses (C.NotListed file index text) h = refl
refuses C.Unwritten h = absurd (omega (arith, h))
refuses (C.Unwritable name) h = absurd (omega (arith, h))
refuses C.Uncounted h = absurd (omega (arith, h))
refuses (C.Told false) h = refl
refuses (C.Told true) h = absurd (omega (arith, h))
refuses (C.Run fault word text) h = refuses-run fault h
