-- Statements, one step at a time: the pieces that are still to be done, and the step that does the
-- first.
--
-- single steps: The pieces that are still to be done, and the step that does the first (`step`); a
-- point of a block is its pieces with all that it has but the resources (`Point`); what doing all
-- pieces comes to (`finish`). An ended block stays as it is under a step.
use Rattle.std.specs.Prelude.{◌≡◌, ℕ, zero, suc, ◌+◌, ◌-◌, List, [], ◌∷◌, ◌++◌, length, take, Result, Ok, Err, Bool, true, false, cond}
use Rattle.iso_model.specs.Rights.{Rights}
use Rattle.iso_model.specs.Resources.{Resources}
use Rattle.iso_model.specs.Syntax.{Act, plain, choice, repeat, Acts, no_acts, act}
use Rattle.iso_model.specs.Statements.{Local, State, is_well, is_live, flag_value, count_value, performed, faults, runs_out, locally, with_names, with_steps, keeping, scoped, turns, run}
use Rattle.iso_model.specs.Blocks.{begun}
use Rattle.iso_model.specs.Environments.{Environment}
use Rattle.iso_model.specs.declared.fault.Fault.{Fault}
use Rattle.iso_model.specs.declared.fault.FaultKind.TheVariants as K
use Rattle.iso_model.specs.declared.outcome.Ending.{Ending}
use Rattle.iso_model.specs.declared.outcome.Ending.TheVariants as E

-- a piece of work: the rest of a body, after which `names` names are kept; or the turns that are
-- left of a `repeat`, with its row and its body
pub data Piece : Type 0 where
  rest : (names : ℕ) → Acts → Piece
  turning : (row turns : ℕ) → Acts → Piece

-- a point of a block: the pieces that are still to be done, innermost first, and what the block has
-- and does but for the resources
pub record Point : Type 0 where
  pub pieces : List Piece
  pub here : Local

-- the same with the resources
pub record Machine : Type 0 where
  pub pieces : List Piece
  pub state : State

abbrev pub point : List Piece → Local → Point
point ps l = record { pieces = ps; here = l }

abbrev pub machine : List Piece → State → Machine
machine ps s = record { pieces = ps; state = s }

-- the machine at this point, with these resources
abbrev pub machine_at : Point → Resources → Machine
machine_at p m = machine p.pieces (record { here = p.here; resources = m })

-- the point where a machine is
abbrev pub point_of : Machine → Point
point_of m = point m.pieces m.state.here

-- leaves the pieces at the front in which nothing is left to do: the locals of a body end with it
abbrev pub leave_done : List Piece → Local → Point
leave_done [] l = point [] l
leave_done (rest k no_acts ∷ ps) l = leave_done ps (with_names (take k l.env.names) l)
leave_done (rest k (act row a acts) ∷ ps) l = point (rest k (act row a acts) ∷ ps) l
leave_done (turning row zero a ∷ ps) l = leave_done ps l
leave_done (turning row (suc n) a ∷ ps) l = point (turning row (suc n) a ∷ ps) l

-- the point at which something is left to do first, where the block goes on; once it has ended, no
-- piece is left
abbrev pub next_point : List Piece → Local → Point
next_point ps l = cond (is_well l.ending) (leave_done ps l) (point [] l)

-- a block at its beginning: its statements are to be done
abbrev pub first_point : Acts → Environment → Point
first_point acts env = next_point (rest (length env.names) acts ∷ []) (begun env)

-- the piece that an `if` leaves: the chosen body
abbrev pub chosen : ℕ → Result Bool Fault → Acts → Acts → State → Machine
chosen row (Ok holds) a b s = machine (rest (length s.here.env.names) (cond holds a b) ∷ []) s
chosen row (Err fault) a b s = machine [] (faults row fault s)

-- the piece that a `repeat` leaves: its turns
abbrev pub counted : ℕ → Result ℕ Fault → Acts → State → Machine
counted row (Ok n) a s = machine (turning row n a ∷ []) s
counted row (Err fault) a s = machine [] (faults row fault s)

-- what a statement does in its step, and the pieces that it puts before the rest
abbrev pub begin : Rights → ℕ → Act → State → Machine
begin r row (plain p) s = machine [] (performed r row p s)
begin r row (choice e a b) s = chosen row (flag_value r s e) a b s
begin r row (repeat e a) s = counted row (count_value r s e) a s

-- the same, and these pieces after its own
abbrev pub followed_by : Machine → List Piece → Machine
followed_by m ps = machine_at (next_point (m.pieces ++ ps) m.state.here) m.state.resources

-- does the first piece, with this number of steps left; with none the block ends, and with nothing
-- to do it stays as it is
abbrev pub step_at : Rights → List Piece → ℕ → State → Machine
step_at r (rest k (act row a acts) ∷ ps) zero s = machine [] (runs_out row s)
step_at r (rest k (act row a acts) ∷ ps) (suc n) s =
    followed_by (begin r row a (locally (with_steps n) s)) (rest k acts ∷ ps)
step_at r (turning row (suc t) a ∷ ps) zero s = machine [] (runs_out row s)
step_at r (turning row (suc t) a ∷ ps) (suc n) s =
    followed_by (machine (rest (length s.here.env.names) a ∷ []) (locally (with_steps n) s))
    (turning row t a ∷ ps)
step_at r ps n s = machine ps s

-- one step: it does the first piece that is left, where the block goes on; an ended block stays as
-- it is
abbrev pub step : Rights → Machine → Machine
step r m = cond (is_live m.state) (step_at r m.pieces m.state.here.env.steps m.state) m

-- `n` steps
abbrev pub steps : Rights → ℕ → Machine → Machine
steps r zero m = m
steps r (suc n) m = steps r n (step r m)

-- what doing all that is left comes to
abbrev pub finish : Rights → List Piece → State → State
finish r [] s = s
finish r (rest k acts ∷ ps) s = finish r ps (keeping k (run r acts s))
finish r (turning row n a ∷ ps) s = finish r ps (turns row n (scoped (run r a)) s)

abbrev pub finished : Rights → Machine → State
finished r m = finish r m.pieces m.state

-- whether nothing is left to do
abbrev pub is_done : List Piece → Bool
is_done [] = true
is_done (p ∷ ps) = false

-- whether the first piece has something to do
abbrev pub is_ready : List Piece → Bool
is_ready [] = true
is_ready (rest k no_acts ∷ ps) = false
is_ready (rest k (act row a acts) ∷ ps) = true
is_ready (turning row zero a ∷ ps) = false
is_ready (turning row (suc n) a ∷ ps) = true

-- 1 where something is left, else 0
abbrev pub some_left : List Piece → ℕ
some_left [] = 0
some_left (p ∷ ps) = 1

-- the steps that are left to the block
abbrev pub steps_left : Machine → ℕ
steps_left m = m.state.here.env.steps

-- how far the end is: no more steps than this are left
abbrev pub distance : Machine → ℕ
distance m = steps_left m + some_left m.pieces

-- what a block is at its beginning and after each step: the first piece has something to do, and
-- only a block that goes on has pieces
pub record IsReady (p : Point) : Type 0 where
  pub first : is_ready p.pieces ≡ true
  pub live : is_done p.pieces ≡ false → is_well p.here.ending ≡ true

-- 1 where the block ended because no step was left, which is a step of its own, else 0
abbrev pub step_past : Ending → ℕ
step_past (E.Fault K.OutOfSteps note) = 1
step_past ending = 0

-- the single steps from one point of a block to its end: those that are fewer there, and the one
-- past the last
abbrev pub steps_to : Local → Local → ℕ
steps_to first end = first.env.steps + step_past end.ending - end.env.steps
