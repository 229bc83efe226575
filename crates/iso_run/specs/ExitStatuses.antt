-- How a run and a command end: with which exit status, and what that leaves of the output.
--
-- end of a run and of a command: All was written, a file besides is lacking, the input is refused,
-- it gives up, or the output broke off (`End`): which fault ends it how (`run_end`, `command_end`),
-- with which exit status (`exit_status`), and what that leaves of the output (`Leaves`, `Answers`).
use Rattle.std.specs.Borrow.{Bor}
use Rattle.std.specs.Prelude.{◌≡◌, ◌≢◌, ◌⊎◌, ⊤, ℕ, List, [], ◌∷◌, Bool, cond, Option, None, Some, Result, Ok, Err}
use Rattle.iso_arguments.specs.declared.wrong_words.WordsFault.{WordsFault}
use Rattle.iso_arguments.specs.declared.wrong_words.WordsFault.TheVariants as W
use Rattle.iso_run.specs.declared.command_fault.CommandFault.{CommandFault}
use Rattle.iso_run.specs.declared.command_fault.CommandFault.TheVariants.{Words, Unreadable, TooLarge, NotListed, Unwritten, Unwritable, Uncounted, Told, Run}
use Rattle.iso_run.specs.declared.run_fault.RunFault.{RunFault}
use Rattle.iso_run.specs.declared.run_fault.RunFault.TheVariants.{Start, Lost, Memory, Write}
use Rattle.iso_tap.specs.Sinks.{Account, HasFailed}

-- all was written, and whether it tells that all is ok; the output was, and some file that was to
-- be written besides wasn't; refused or given up before anything was written; or the output broke
-- off
pub data End : Type 0 where
  Whole : (ok : Bool) → End
  LacksFile : End
  Refuses : End
  GivesUp : End
  BreaksOff : End

-- the exit status
abbrev pub exit_status : End → ℕ
exit_status (Whole ok) = cond ok 0 1
exit_status LacksFile = 3
exit_status Refuses = 2
exit_status GivesUp = 3
exit_status BreaksOff = 3

-- how a fault of a run ends it: all others are of the input, or `Unfinished`, which counts as one
abbrev pub run_end : RunFault → End
run_end Start = GivesUp
run_end Lost = GivesUp
run_end Memory = GivesUp
run_end (Write written) = BreaksOff
run_end _ = Refuses

-- the fault of a command whose words are wrong, or where memory ran out as they were read
abbrev pub words_fault : WordsFault → CommandFault
words_fault (W.Wrong text) = Words text
words_fault W.OutOfMemory = Run Memory None None

-- how each fault of a command ends it
abbrev pub command_end : CommandFault → End
command_end (Words text) = Refuses
command_end (Unreadable name) = GivesUp
command_end (TooLarge name) = Refuses
command_end (NotListed file index text) = Refuses
command_end Unwritten = BreaksOff
command_end (Unwritable name) = LacksFile
command_end Uncounted = GivesUp
command_end (Told failed) = cond failed GivesUp Refuses
command_end (Run fault word text) = run_end fault

-- the end that is answered
abbrev pub end_of : {A F : Type 0} → (A → Bool) → (F → End) → Result A F → End
end_of ok_of by (Ok answer) = Whole (ok_of answer)
end_of ok_of by (Err fault) = by fault

-- something is true if the end comes after all that is read
abbrev pub IfLate : End → Type 0 → Type 0
IfLate (Whole ok) P = P
IfLate LacksFile P = P
IfLate Refuses P = ⊤
IfLate GivesUp P = ⊤
IfLate BreaksOff P = P

-- What an end leaves of the output: what is stated of the whole, of one beside which a file is
-- lacking, or of an output that broke off; else it was asked nothing.
abbrev pub Leaves : (whole : Bool → Type 0) → (lacking broken : Type 0) → (old new : Account)
    → End → Type 0
Leaves whole lacking broken old new (Whole ok) = whole ok
Leaves whole lacking broken old new LacksFile = lacking
Leaves whole lacking broken old new Refuses = new ≡ old
Leaves whole lacking broken old new GivesUp = new ≡ old
Leaves whole lacking broken old new BreaksOff = broken

-- what the answer of a command leaves: an output that broke off has failed once
abbrev pub Answers : (whole : Bool → Type 0) → (lacking : Type 0) → (old new : Account)
    → Result Bool CommandFault → Type 0
Answers whole lacking old new result = Leaves whole lacking
    (HasFailed old.failures new.failures) old new (end_of (λ ok. ok) command_end result)

-- what is answered of a whole output once it was flushed
abbrev pub IsFlushed : (ok : Bool) → (old new : Account) → Result Bool CommandFault → Type 0
IsFlushed ok old new (Ok told) = (told ≡ ok) × (new ≡ old)
IsFlushed ok old new (Err fault) = (fault ≡ Unwritten) × HasFailed old.failures new.failures

-- the fault is that memory ran out, or that a file can't be read
abbrev pub GaveUp : CommandFault → Type 0
GaveUp fault = command_end fault ≡ GivesUp

-- the end comes before anything is asked of the output
abbrev pub IsEarly : End → Type 0
IsEarly end = (end ≢ BreaksOff) × (end ≢ LacksFile)

abbrev pub ComesEarly : CommandFault → Type 0
ComesEarly fault = IsEarly (command_end fault)

-- of files, where they are named, one is named
abbrev pub NamesFile : List (Option (Bor (List ℕ))) → Type 0
NamesFile [] = ⊥
NamesFile (file ∷ files) = (file ≢ None) ⊎ NamesFile files

-- the fault is that one of the files which are to be written besides can't be
abbrev pub IsOfFile : List (Option (Bor (List ℕ))) → CommandFault → Type 0
IsOfFile [] fault = ⊥
IsOfFile (file ∷ files) fault =
    ((name : Bor (List ℕ)) × (file ≡ Some name) × (fault ≡ Unwritable name)) ⊎ IsOfFile files fault

-- the file that was lost before, if one was, or one that is named
abbrev pub IsOneOf : (lost file found : Option (Bor (List ℕ))) → Type 0
IsOneOf lost file found = (found ≡ lost) ⊎ ((found ≡ file) × (file ≢ None))

-- what is answered once the files besides were written
abbrev pub IsFiled : (ok : Bool) → List (Option (Bor (List ℕ))) → Result Bool CommandFault → Type 0
IsFiled ok files (Ok told) = told ≡ ok
IsFiled ok files (Err fault) = IsOfFile files fault

-- what is answered of a whole output once it was flushed and the files besides were written
abbrev pub IsEnded : (ok : Bool) → List (Option (Bor (List ℕ))) → (old new : Account)
    → Result Bool CommandFault → Type 0
IsEnded ok files old new (Ok told) = (told ≡ ok) × (new ≡ old)
IsEnded ok files old new (Err fault) = ((fault ≡ Unwritten) × HasFailed old.failures new.failures)
    ⊎ ((new ≡ old) × IsOfFile files fault)
