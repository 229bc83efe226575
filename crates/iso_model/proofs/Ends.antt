-- A step brings the end nearer, and what every step leaves.
use Rattle.std.proofs.Common.{◌≡◌, ℕ, zero, suc, ◌+◌, ◌-◌, ◌<◌, ◌≤◌, List, [], ◌∷◌, ◌++◌, length, take, Bool, true, false, cond, refl, sym, ap, ◌∙◌, arith, true≢false}
use Rattle.iso_model.proofs.Effects.{Effect, nothing, local, assignment, line, fault, failure, skip, change, begin-effect}
use Rattle.iso_model.specs.Rights.{Rights}
use Rattle.iso_model.specs.Syntax.{Act, no_acts, act}
use Rattle.iso_model.specs.Statements.{Local, State, is_live, is_well, locally, with_names, with_steps, runs_out}
use Rattle.iso_model.specs.Steps.{Piece, rest, turning, Machine, point, machine, point_of, leave_done, next_point, begin, step_at, step, is_done, is_ready, some_left, steps_left, distance, IsReady}

abbrev steps_of : State → ℕ
steps_of s = s.here.env.steps

-- a statement's own work takes no step
effect-steps : (r : Rights) (s t : State) → Effect r s t → steps_of t ≡ steps_of s
effect-steps r s t nothing = refl
effect-steps r s t (local b) = refl
effect-steps r s t (assignment x d names e) = refl
effect-steps r s t (line text room) = refl
effect-steps r s t (fault row f) = refl
effect-steps r s t (failure row message) = refl
effect-steps r s t (skip row reason) = refl
effect-steps r s t (change k c w) = refl

pub begin-steps : (r : Rights) (row : ℕ) (a : Act) (s : State) → steps_of (begin r row a s).state ≡ steps_of s
begin-steps r row a s = effect-steps r s _ (begin-effect r s row a)

leave-steps : (ps : List Piece) (l : Local) → (leave_done ps l).here.env.steps ≡ l.env.steps
leave-steps [] l = refl
leave-steps (rest k no_acts ∷ ps) l = leave-steps ps (with_names (take k l.env.names) l)
leave-steps (rest k (act row a acts) ∷ ps) l = refl
leave-steps (turning row zero a ∷ ps) l = leave-steps ps l
leave-steps (turning row (suc n) a ∷ ps) l = refl

pub next-steps : (ps : List Piece) (l : Local) → (next_point ps l).here.env.steps ≡ l.env.steps
next-steps ps l = elim (is_well l.ending) as (λ b. (cond b (leave_done ps l) (point [] l)).here.env.steps ≡ l.env.steps) [ true ↦ leave-steps ps l | false ↦ refl ]

leave-first : (ps : List Piece) (l : Local) → is_ready (leave_done ps l).pieces ≡ true
leave-first [] l = refl
leave-first (rest k no_acts ∷ ps) l = leave-first ps (with_names (take k l.env.names) l)
leave-first (rest k (act row a acts) ∷ ps) l = refl
leave-first (turning row zero a ∷ ps) l = leave-first ps l
leave-first (turning row (suc n) a ∷ ps) l = refl

pub leave-ending : (ps : List Piece) (l : Local) → (leave_done ps l).here.ending ≡ l.ending
leave-ending [] l = refl
leave-ending (rest k no_acts ∷ ps) l = leave-ending ps (with_names (take k l.env.names) l)
leave-ending (rest k (act row a acts) ∷ ps) l = refl
leave-ending (turning row zero a ∷ ps) l = leave-ending ps l
leave-ending (turning row (suc n) a ∷ ps) l = refl

ready_none : (l : Local) → IsReady (point [] l)
ready_none l = record { first = refl; live = λ h. absurd (true≢false h) }

next-ready_at : (ps : List Piece) (l : Local) (b : Bool) → is_well l.ending ≡ b → IsReady (cond b (leave_done ps l) (point [] l))
next-ready_at ps l true e = record { first = leave-first ps l; live = λ h. ap is_well (leave-ending ps l) ∙ e }
next-ready_at ps l false e = ready_none l

-- where the next piece is to be done
pub next-ready : (ps : List Piece) (l : Local) → IsReady (next_point ps l)
next-ready ps l = next-ready_at ps l (is_well l.ending) refl

step_at-ready : (r : Rights) (ps : List Piece) (n : ℕ) (s : State) → is_ready ps ≡ true → IsReady (point_of (step_at r ps n s))
step_at-ready r [] n s first = ready_none s.here
step_at-ready r (rest k no_acts ∷ ps) n s first = absurd (true≢false (sym first))
step_at-ready r (rest k (act row a acts) ∷ ps) zero s first = ready_none _
step_at-ready r (rest k (act row a acts) ∷ ps) (suc n) s first = let m = begin r row a (locally (with_steps n) s) in next-ready (m.pieces ++ rest k acts ∷ ps) m.state.here
step_at-ready r (turning row zero a ∷ ps) n s first = absurd (true≢false (sym first))
step_at-ready r (turning row (suc t) a ∷ ps) zero s first = ready_none _
step_at-ready r (turning row (suc t) a ∷ ps) (suc n) s first = next-ready (rest (length s.here.env.names) a ∷ turning row t a ∷ ps) (with_steps n s.here)

-- every step leaves a point that is ready
pub step-ready : (r : Rights) (m : Machine) → IsReady (point_of m) → IsReady (point_of (step r m))
step-ready r m ready =
    elim (is_live m.state) as (λ b. IsReady (point_of (cond b (step_at r m.pieces m.state.here.env.steps m.state) m))) [
      | true ↦ step_at-ready r m.pieces m.state.here.env.steps m.state ready.first
      | false ↦ ready
    ]

some_left-le : (ps : List Piece) → some_left ps ≤ 1
some_left-le [] = omega arith
some_left-le (p ∷ ps) = omega arith

some_left-one : (ps : List Piece) → is_done ps ≡ false → some_left ps ≡ 1
some_left-one [] some = absurd (true≢false some)
some_left-one (p ∷ ps) some = refl

step_at-less : (r : Rights) (ps : List Piece) (n : ℕ) (s : State) → s.here.env.steps ≡ n → is_ready ps ≡ true → is_done ps ≡ false → distance (step_at r ps n s) < n + 1
step_at-less r [] n s e first some = absurd (true≢false some)
step_at-less r (rest k no_acts ∷ ps) n s e first some = absurd (true≢false (sym first))
step_at-less r (rest k (act row a acts) ∷ ps) zero s e first some = omega arith
step_at-less r (rest k (act row a acts) ∷ ps) (suc n) s e first some =
    let m = begin r row a (locally (with_steps n) s) in
    omega (arith, begin-steps r row a (locally (with_steps n) s), next-steps (m.pieces ++ rest k acts ∷ ps) m.state.here, some_left-le (next_point (m.pieces ++ rest k acts ∷ ps) m.state.here).pieces)
step_at-less r (turning row zero a ∷ ps) n s e first some = absurd (true≢false (sym first))
step_at-less r (turning row (suc t) a ∷ ps) zero s e first some = omega arith
step_at-less r (turning row (suc t) a ∷ ps) (suc n) s e first some =
    omega (
      arith,
      next-steps (rest (length s.here.env.names) a ∷ turning row t a ∷ ps) (with_steps n s.here),
      some_left-le
          (next_point (rest (length s.here.env.names) a ∷ turning row t a ∷ ps) (with_steps n s.here)).pieces,
    )

-- where the block goes on, a step does the first piece
pub step-live : (r : Rights) (m : Machine) → is_live m.state ≡ true → step r m ≡ step_at r m.pieces m.state.here.env.steps m.state
step-live r m live = rw live refl

pub step-ended : (r : Rights) (m : Machine) → is_live m.state ≡ false → step r m ≡ m
step-ended r m ended = rw ended refl

-- a step that has a piece to do brings the end nearer
pub step-distance : (r : Rights) (m : Machine) → IsReady (point_of m) → is_done m.pieces ≡ false → distance (step r m) < distance m
step-distance r m ready some =
    let less = step_at-less r m.pieces m.state.here.env.steps m.state refl ready.first some in
    rw (step-live r m (ready.live some)) (omega (arith, less, some_left-one m.pieces some))

step_at-steps : (r : Rights) (ps : List Piece) (n : ℕ) (s : State) → s.here.env.steps ≡ n → is_ready ps ≡ true → is_done ps ≡ false → (step_at r ps n s).state.here.env.steps ≡ n - 1
step_at-steps r [] n s e first some = absurd (true≢false some)
step_at-steps r (rest k no_acts ∷ ps) n s e first some = absurd (true≢false (sym first))
step_at-steps r (rest k (act row a acts) ∷ ps) zero s e first some = e
step_at-steps r (rest k (act row a acts) ∷ ps) (suc n) s e first some =
    let m = begin r row a (locally (with_steps n) s) in
    let left = next-steps (m.pieces ++ rest k acts ∷ ps) m.state.here ∙ begin-steps r row a (locally (with_steps n) s) in
    omega (arith, left)
step_at-steps r (turning row zero a ∷ ps) n s e first some = absurd (true≢false (sym first))
step_at-steps r (turning row (suc t) a ∷ ps) zero s e first some = e
step_at-steps r (turning row (suc t) a ∷ ps) (suc n) s e first some =
    let left = next-steps (rest (length s.here.env.names) a ∷ turning row t a ∷ ps) (with_steps n s.here) in
    omega (arith, left)

-- a step that has a piece to do uses one of the steps that are left
pub step-used : (r : Rights) (m : Machine) → IsReady (point_of m) → is_done m.pieces ≡ false → steps_left (step r m) ≡ steps_left m - 1
step-used r m ready some = ap steps_left (step-live r m (ready.live some)) ∙ step_at-steps r m.pieces m.state.here.env.steps m.state refl ready.first some

step_at-out : (r : Rights) (ps : List Piece) (s : State) → is_ready ps ≡ true → is_done ps ≡ false → (row : ℕ) × (step_at r ps 0 s ≡ machine [] (runs_out row s))
step_at-out r [] s first some = absurd (true≢false some)
step_at-out r (rest k no_acts ∷ ps) s first some = absurd (true≢false (sym first))
step_at-out r (rest k (act row a acts) ∷ ps) s first some = (row, refl)
step_at-out r (turning row zero a ∷ ps) s first some = absurd (true≢false (sym first))
step_at-out r (turning row (suc t) a ∷ ps) s first some = (row, refl)

-- where none is left, it ends the block
pub step-out : (r : Rights) (m : Machine) → IsReady (point_of m) → is_done m.pieces ≡ false → steps_left m ≡ 0 → (row : ℕ) × (step r m ≡ machine [] (runs_out row m.state))
step-out r m ready some none =
    let out = step_at-out r m.pieces m.state ready.first some in
    (out.0, step-live r m (ready.live some) ∙ ap (λ n. step_at r m.pieces n m.state) none ∙ out.1)

pub step-none : (r : Rights) (s : State) → step r (machine [] s) ≡ machine [] s
step-none r s = elim (is_live s) as (λ b. cond b (machine [] s) (machine [] s) ≡ machine [] s) [ true ↦ refl | false ↦ refl ]
