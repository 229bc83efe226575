-- Where a block run stands.
--
-- where a run stands: The point of the block (pieces and local state), and the machine with the
-- resources. What a statement does of a run: without a body all that it means (`Performs`), else
-- what its step does, and the pieces that it puts before the others (`Begins`).
use Rattle.std.specs.Prelude.{◌≡◌, ℕ, List, [], ◌∷◌, ◌++◌, map, reverse, Option, Some, None, Result, OnOk}
use Rattle.std.specs.Option.{option_to_list}
use Rattle.iso_model.specs.Resources.{Resources}
use Rattle.iso_model.specs.Rights.{Rights, access_in}
use Rattle.iso_model.specs.Statements.{Local, State, fails, note, performed, with_ending}
use Rattle.iso_model.specs.Steps.{Piece, rest, turning, Point, point, Machine, machine_at, begin}
use Rattle.iso_model.specs.Syntax.{Act, Acts, Plain, act, no_acts}
use Rattle.iso_model.specs.Texts.{fault_message, kind_of}
use Rattle.iso_model.specs.declared.fault.Fault.{Fault}
use Rattle.iso_model.specs.declared.outcome.Ending.TheVariants as Endings
use Rattle.iso_interp.specs.declared.run.BlockEnd.{BlockEnd}
use Rattle.iso_interp.specs.declared.run.BlockRun.{BlockRun}
use Rattle.iso_interp.specs.declared.run.Pending.{Pending}
use Rattle.iso_interp.specs.declared.run.Pending.TheVariants.{Rest, Turning}
use Rattle.iso_interp.specs.declared.run.Progress.{Progress}
use Rattle.iso_interp.specs.declared.run.Progress.TheVariants.{More, Ended}

-- what a piece of work stands for
abbrev pub piece_of : Pending → Piece
piece_of (Rest k acts) = rest k acts
piece_of (Turning row n acts) = turning row n acts

-- the first piece, and those below it, of which the last comes next
abbrev pub pieces_in : Option Pending → List Pending → List Piece
pieces_in top below = map piece_of (option_to_list top ++ reverse below)

-- the pieces that are still to be done
abbrev pub pieces_of : BlockRun → List Piece
pieces_of run = pieces_in run.top run.below.items

-- the piece that is a whole block, where it has a statement
abbrev pub first_piece : ℕ → Acts → Option Pending
first_piece k no_acts = None
first_piece k (act row a acts) = Some (Rest k (act row a acts))

-- what the block has and does but for the resources
abbrev pub local_of : BlockRun → Local
local_of run = record { env = run.names; lines = run.lines; ending = run.ending }

-- the same with the resources
abbrev pub state_of : BlockRun → Resources → State
state_of run m = record { here = local_of run; resources = m }

-- the point of the block at which a run stands, and the same with the resources
abbrev pub point_of_run : BlockRun → Point
point_of_run run = point (pieces_of run) (local_of run)

abbrev pub machine_of : BlockRun → Resources → Machine
machine_of run m = machine_at (point_of_run run) m

-- the rights of the block
abbrev pub run_rights : BlockRun → Rights
run_rights run = access_in run.rights.now

-- how many names the block began with
abbrev pub names_before : BlockRun → ℕ
names_before run = run.before

-- whether something is left to do
abbrev pub progress_of : List Piece → Progress
progress_of [] = Ended
progress_of (p ∷ ps) = More

-- what an ended block leaves, but for the resources, and with them
abbrev pub end_local : BlockEnd → Local
end_local end = record { env = end.names; lines = end.output; ending = end.ending }

abbrev pub end_state : BlockEnd → Resources → State
end_state end m = record { here = end_local end; resources = m }

-- a run of the same block: its rights, and how many names it began with
pub record SameBlock (old new : BlockRun) : Type 0 where
  pub rights : new.rights ≡ old.rights
  pub before : new.before ≡ old.before

-- the same, with the same work to be done: nothing but what a statement without a body changes may
-- differ
pub record SameWork (old new : BlockRun) : Type 0 where
  pub top : new.top ≡ old.top
  pub below : new.below ≡ old.below
  pub block : SameBlock old new

-- the block ended by a fault, a fail or a false assumption at a row
abbrev pub faulted : ℕ → Fault → Local → Local
faulted row fault l =
    with_ending (Endings.Fault (kind_of fault) (note (fault_message fault) row l)) l

abbrev pub failed : ℕ → List ℕ → Local → Local
failed row message l = with_ending (Endings.Fail (note message row l)) l

abbrev pub skipped : ℕ → List ℕ → Local → Local
skipped row reason l = with_ending (Endings.Assumed (note reason row l)) l

-- goes on, or fails with what there is to say
abbrev pub said : ℕ → State → Option (List ℕ) → State
said row s None = s
said row s (Some message) = fails row message s

-- A statement without a body did what it means, its step being taken: from a run and its resources
-- to the next.
abbrev pub Performs : {E : Type 0} → (old new : BlockRun) → (before after : Resources) → ℕ → Plain
    → Result (Unit {0}) E → Type 0
Performs old new before after row statement result =
    OnOk result (state_of new after ≡ performed (run_rights old) row statement
    (state_of old before))

-- A statement did what it does in its step, and put its pieces before those that were left.
abbrev pub Begins : {E : Type 0} → (old new : BlockRun) → (before after : Resources) → ℕ → Act
    → Result (Unit {0}) E → Type 0
Begins old new before after row statement result =
    let m = begin (run_rights old) row statement (state_of old before) in
    OnOk result ((state_of new after ≡ m.state) × (pieces_of new ≡ m.pieces ++ pieces_of old))
