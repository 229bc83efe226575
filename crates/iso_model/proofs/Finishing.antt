-- A step leaves what a block comes to as it is.
use Rattle.std.proofs.Common.{◌≡◌, ℕ, zero, suc, List, [], ◌∷◌, ◌++◌, length, take, Result, Ok, Err, Bool, true, false, cond, refl, sym, ap, ◌∙◌}
use Rattle.iso_model.specs.Rights.{Rights}
use Rattle.iso_model.specs.Resources.{Resources}
use Rattle.iso_model.specs.Syntax.{Act, plain, choice, repeat, Acts, no_acts, act}
use Rattle.iso_model.specs.Evaluation.{then, as_flag, as_count}
use Rattle.iso_model.specs.Statements.{Local, State, is_live, is_well, value, runs_out, locally, with_names, with_steps, keeping, scoped, taking, turns, upon, run, ran}
use Rattle.iso_model.specs.Steps.{Piece, rest, turning, Machine, machine_at, point, leave_done, next_point, chosen, counted, begin, step_at, step, finish, finished}
use Rattle.iso_model.specs.declared.fault.Fault.{Fault}

-- an ended block stays as it is
pub keeping-ended : (k : ℕ) (s : State) → is_live s ≡ false → keeping k s ≡ s
keeping-ended k s ended = rw ended

pub taking-ended : (row : ℕ) (s : State) (f : State → State) → is_live s ≡ false → taking row s f ≡ s
taking-ended row s f ended = rw ended

pub ran-ended : (r : Rights) (row : ℕ) (a : Act) (s : State) → is_live s ≡ false → ran r row a s ≡ s
ran-ended r row (plain p) s ended = rw ended
ran-ended r row (choice e a b) s ended = rw ended
ran-ended r row (repeat e a) s ended = rw ended

pub run-ended : (r : Rights) (acts : Acts) (s : State) → is_live s ≡ false → run r acts s ≡ s
run-ended r no_acts s ended = refl
run-ended r (act row a acts) s ended = rw (ran-ended r row a s ended) (run-ended r acts s ended)

pub turns-ended : (row n : ℕ) (f : State → State) (s : State) → is_live s ≡ false → turns row n f s ≡ s
turns-ended row zero f s ended = refl
turns-ended row (suc n) f s ended = rw (taking-ended row s f ended) (turns-ended row n f s ended)

pub finish-ended : (r : Rights) (ps : List Piece) (s : State) → is_live s ≡ false → finish r ps s ≡ s
finish-ended r [] s ended = refl
finish-ended r (rest k acts ∷ ps) s ended = rw (run-ended r acts s ended, keeping-ended k s ended) (finish-ended r ps s ended)
finish-ended r (turning row n a ∷ ps) s ended = rw (turns-ended row n (scoped (run r a)) s ended) (finish-ended r ps s ended)

-- taking a step, where one is left and where none is
pub taking-out : (row : ℕ) (s : State) (f : State → State) → is_live s ≡ true → s.here.env.steps ≡ zero → taking row s f ≡ runs_out row s
taking-out row s f live none = rw (live, none)

pub taking-in : (row : ℕ) (s : State) (f : State → State) (n : ℕ) → is_live s ≡ true → s.here.env.steps ≡ suc n → taking row s f ≡ f (locally (with_steps n) s)
taking-in row s f n live some = rw (live, some)

-- leaving pieces in which nothing is left changes nothing of what the block comes to
pub finish-leave : (r : Rights) (ps : List Piece) (l : Local) (m : Resources) → is_well l.ending ≡ true → finished r (machine_at (leave_done ps l) m) ≡ finish r ps (record { here = l; resources = m })
finish-leave r [] l m live = refl
finish-leave r (rest k no_acts ∷ ps) l m live = rw live (finish-leave r ps (with_names (take k l.env.names) l) m live)
finish-leave r (rest k (act row a acts) ∷ ps) l m live = refl
finish-leave r (turning row zero a ∷ ps) l m live = finish-leave r ps l m live
finish-leave r (turning row (suc n) a ∷ ps) l m live = refl

finish-next_at : (r : Rights) (ps : List Piece) (l : Local) (m : Resources) (b : Bool) → is_well l.ending ≡ b
    → finished r (machine_at (cond b (leave_done ps l) (point [] l)) m) ≡ finish r ps (record { here = l; resources = m })
finish-next_at r ps l m true live = finish-leave r ps l m live
finish-next_at r ps l m false ended = sym (finish-ended r ps (record { here = l; resources = m }) ended)

pub finish-next : (r : Rights) (ps : List Piece) (l : Local) (m : Resources) → finished r (machine_at (next_point ps l) m) ≡ finish r ps (record { here = l; resources = m })
finish-next r ps l m = finish-next_at r ps l m (is_well l.ending) refl

pub finish-append : (r : Rights) (qs ps : List Piece) (s : State) → finish r (qs ++ ps) s ≡ finish r ps (finish r qs s)
finish-append r [] ps s = refl
finish-append r (rest k acts ∷ qs) ps s = finish-append r qs ps (keeping k (run r acts s))
finish-append r (turning row n a ∷ qs) ps s = finish-append r qs ps (turns row n (scoped (run r a)) s)

upon-chosen : (r : Rights) (row : ℕ) (x : Result Bool Fault) (a b : Acts) (s : State) → upon row x s (λ holds. cond holds (scoped (run r a) s) (scoped (run r b) s)) ≡ finished r (chosen row x a b s)
upon-chosen r row (Ok true) a b s = refl
upon-chosen r row (Ok false) a b s = refl
upon-chosen r row (Err fault) a b s = refl

upon-counted : (r : Rights) (row : ℕ) (x : Result ℕ Fault) (a : Acts) (s : State) → upon row x s (λ n. turns row n (scoped (run r a)) s) ≡ finished r (counted row x a s)
upon-counted r row (Ok n) a s = refl
upon-counted r row (Err fault) a s = refl

-- a statement comes to what it does in its step, and then its pieces
ran-begin : (r : Rights) (row : ℕ) (a : Act) (s : State) (n : ℕ) → is_live s ≡ true → s.here.env.steps ≡ suc n → ran r row a s ≡ finished r (begin r row a (locally (with_steps n) s))
ran-begin r row (plain p) s n live some = rw (live, some)
ran-begin r row (choice e a b) s n live some = let t = locally (with_steps n) s in rw (live, some) (upon-chosen r row (then (value r t e) as_flag) a b t)
ran-begin r row (repeat e a) s n live some = let t = locally (with_steps n) s in rw (live, some) (upon-counted r row (then (value r t e) as_count) a t)

ran-out : (r : Rights) (row : ℕ) (a : Act) (s : State) → is_live s ≡ true → s.here.env.steps ≡ zero → ran r row a s ≡ runs_out row s
ran-out r row (plain p) s live none = rw (live, none)
ran-out r row (choice e a b) s live none = rw (live, none)
ran-out r row (repeat e a) s live none = rw (live, none)

finish-step_at : (r : Rights) (ps : List Piece) (n : ℕ) (s : State) → is_live s ≡ true → s.here.env.steps ≡ n → finished r (step_at r ps n s) ≡ finish r ps s
finish-step_at r [] n s live some = refl
finish-step_at r (rest k no_acts ∷ ps) n s live some = refl
finish-step_at r (rest k (act row a acts) ∷ ps) zero s live some =
    sym (finish-ended r (rest k acts ∷ ps) (runs_out row s) refl) ∙ ap (λ (t : State). finish r (rest k acts ∷ ps) t) (sym (ran-out r row a s live some))
finish-step_at r (rest k (act row a acts) ∷ ps) (suc n) s live some =
    let m = begin r row a (locally (with_steps n) s) in
    finish-next r (m.pieces ++ rest k acts ∷ ps) m.state.here m.state.resources
    ∙ finish-append r m.pieces (rest k acts ∷ ps) m.state
    ∙ ap (λ (t : State). finish r (rest k acts ∷ ps) t) (sym (ran-begin r row a s n live some))
finish-step_at r (turning row zero a ∷ ps) n s live some = refl
finish-step_at r (turning row (suc t) a ∷ ps) zero s live some =
    sym (finish-ended r (turning row t a ∷ ps) (runs_out row s) refl) ∙ ap (λ (u : State). finish r (turning row t a ∷ ps) u) (sym (taking-out row s (scoped (run r a)) live some))
finish-step_at r (turning row (suc t) a ∷ ps) (suc n) s live some =
    finish-next r (rest (length s.here.env.names) a ∷ turning row t a ∷ ps) (with_steps n s.here) s.resources
    ∙ ap (λ (u : State). finish r (turning row t a ∷ ps) u) (sym (taking-in row s (scoped (run r a)) n live some))

finish-step_if : (r : Rights) (m : Machine) (b : Bool) → is_live m.state ≡ b → finished r (cond b (step_at r m.pieces m.state.here.env.steps m.state) m) ≡ finished r m
finish-step_if r m true live = finish-step_at r m.pieces m.state.here.env.steps m.state live refl
finish-step_if r m false ended = refl

-- what is left, done, is the same before and after a step
pub finish-step : (r : Rights) (m : Machine) → finished r (step r m) ≡ finished r m
finish-step r m = finish-step_if r m (is_live m.state) refl
