-- What each effect keeps between the states before and after it, a whole body keeps.
use Rattle.std.proofs.Common.{ℕ, zero, suc, List, [], ◌∷◌, ◌++◌, length, Result, Ok, Err, Bool, true, false, cond}
use Rattle.iso_model.specs.Rights.{Rights}
use Rattle.iso_model.specs.Syntax.{Act, plain, choice, repeat, Acts, no_acts, act}
use Rattle.iso_model.specs.Statements.{State, is_live, flag_value, count_value, runs_out, locally, with_steps, upon, taking, step_or_end, kept, keeping, scoped, turns, run, ran}
use Rattle.iso_model.specs.Steps.{Piece, rest, turning, Machine, leave_done, next_point, machine_at, begin, step_at, step, finish}
use Rattle.iso_model.specs.declared.fault.Fault.{Fault}
use Rattle.iso_model.proofs.Effects.{Effect, fault, performed-effect, begin-effect}

-- a relation of a state and a later one that every effect keeps, and so do the steps
pub record Keeps (r : Rights) (R : State → State → Type 0) : Type 0 where
  pub same : (s : State) → R s s
  pub onward : (s t u : State) → R s t → R t u → R s u
  pub effect : (s t : State) → Effect r s t → R s t
  pub step : (s : State) (n : ℕ) → R s (locally (with_steps n) s)
  pub end : (s : State) (row : ℕ) → R s (runs_out row s)
  pub scope : (s t : State) → R s t → R s (kept (length s.here.env.names) t)

module _ (r : Rights) (R : State → State → Type 0) (keeps : Keeps r R) where
  cond-keeps : (b : Bool) (s t u : State) → R s t → R s u → R s (cond b t u)
  cond-keeps true s t u h k = h
  cond-keeps false s t u h k = k

  upon-keeps : {A : Type 0} (row : ℕ) (x : Result A Fault) (s : State) (f : A → State) → ((v : A) → R s (f v)) → R s (upon row x s f)
  upon-keeps row (Ok v) s f each = each v
  upon-keeps row (Err e) s f each = keeps.effect s _ (fault row e)

  step_or_end-keeps : (row n : ℕ) (s : State) (f : State → State) → ((t : State) → R t (f t)) → R s (step_or_end row n s f)
  step_or_end-keeps row zero s f each = keeps.end s row
  step_or_end-keeps row (suc n) s f each = keeps.onward s (locally (with_steps n) s) _ (keeps.step s n) (each (locally (with_steps n) s))

  taking-keeps : (row : ℕ) (s : State) (f : State → State) → ((t : State) → R t (f t)) → R s (taking row s f)
  taking-keeps row s f each = cond-keeps (is_live s) s _ _ (step_or_end-keeps row s.here.env.steps s f each) (keeps.same s)

  scoped-keeps : (f : State → State) → ((t : State) → R t (f t)) → (s : State) → R s (scoped f s)
  scoped-keeps f each s = cond-keeps (is_live (f s)) s _ _ (keeps.scope s (f s) (each s)) (each s)

  turns-keeps : (row n : ℕ) (f : State → State) → ((t : State) → R t (f t)) → (s : State) → R s (turns row n f s)
  turns-keeps row zero f each s = keeps.same s
  turns-keeps row (suc n) f each s = keeps.onward s (taking row s f) _ (taking-keeps row s f each) (turns-keeps row n f each (taking row s f))

  mutual
    -- the statements of a body, and one statement
    pub run-keeps : (acts : Acts) (s : State) → R s (run r acts s)
    run-keeps no_acts s = keeps.same s
    run-keeps (act row a acts) s = keeps.onward s (ran r row a s) _ (ran-keeps row a s) (run-keeps acts (ran r row a s))

    pub ran-keeps : (row : ℕ) (a : Act) (s : State) → R s (ran r row a s)
    ran-keeps row (plain p) s = taking-keeps row s _ (λ t. keeps.effect t _ (performed-effect r t row p))
    ran-keeps row (choice e a b) s =
        taking-keeps row s _ (λ t. upon-keeps row (flag_value r t e) t _ (λ holds. cond-keeps holds t _ _ (scoped-keeps (run r a) (run-keeps a) t) (scoped-keeps (run r b) (run-keeps b) t)))
    ran-keeps row (repeat e a) s =
        taking-keeps row s _ (λ t. upon-keeps row (count_value r t e) t _ (λ n. turns-keeps row n (scoped (run r a)) (scoped-keeps (run r a) (run-keeps a)) t))

-- where names may be dropped too, all that is left keeps the relation, and each single step
module _ (r : Rights) (R : State → State → Type 0) (keeps : Keeps r R) (drops : (s : State) (n : ℕ) → R s (kept n s)) where
  keeping-keeps : (n : ℕ) (s : State) → R s (keeping n s)
  keeping-keeps n s = cond-keeps r R keeps (is_live s) s _ _ (drops s n) (keeps.same s)

  pub finish-keeps : (ps : List Piece) (s : State) → R s (finish r ps s)
  finish-keeps [] s = keeps.same s
  finish-keeps (rest n acts ∷ ps) s =
      keeps.onward s (run r acts s) _ (run-keeps r R keeps acts s)
      (keeps.onward (run r acts s) (keeping n (run r acts s)) _ (keeping-keeps n (run r acts s)) (finish-keeps ps (keeping n (run r acts s))))
  finish-keeps (turning row n a ∷ ps) s =
      let t = turns row n (scoped (run r a)) s in
      keeps.onward s t _ (turns-keeps r R keeps row n (scoped (run r a)) (scoped-keeps r R keeps (run r a) (run-keeps r R keeps a)) s) (finish-keeps ps t)

  leave_done-keeps : (ps : List Piece) (s : State) → R s (machine_at (leave_done ps s.here) s.resources).state
  leave_done-keeps [] s = keeps.same s
  leave_done-keeps (rest n no_acts ∷ ps) s = keeps.onward s (kept n s) _ (drops s n) (leave_done-keeps ps (kept n s))
  leave_done-keeps (rest n (act row a acts) ∷ ps) s = keeps.same s
  leave_done-keeps (turning row zero a ∷ ps) s = leave_done-keeps ps s
  leave_done-keeps (turning row (suc n) a ∷ ps) s = keeps.same s

  next_point-keeps : (ps : List Piece) (s : State) → R s (machine_at (next_point ps s.here) s.resources).state
  next_point-keeps ps s =
      elim (is_live s) as (λ b. R s (machine_at (cond b (leave_done ps s.here) (record { pieces = []; here = s.here })) s.resources).state) [
        | true ↦ leave_done-keeps ps s
        | false ↦ keeps.same s
      ]

  step_at-keeps : (ps : List Piece) (n : ℕ) (s : State) → R s (step_at r ps n s).state
  step_at-keeps [] n s = keeps.same s
  step_at-keeps (rest k no_acts ∷ ps) n s = keeps.same s
  step_at-keeps (rest k (act row a acts) ∷ ps) zero s = keeps.end s row
  step_at-keeps (rest k (act row a acts) ∷ ps) (suc n) s =
      let t = locally (with_steps n) s in
      let m = begin r row a t in
      keeps.onward s t _ (keeps.step s n) (keeps.onward t m.state _ (keeps.effect t m.state (begin-effect r t row a)) (next_point-keeps (m.pieces ++ rest k acts ∷ ps) m.state))
  step_at-keeps (turning row zero a ∷ ps) n s = keeps.same s
  step_at-keeps (turning row (suc k) a ∷ ps) zero s = keeps.end s row
  step_at-keeps (turning row (suc k) a ∷ ps) (suc n) s =
      let t = locally (with_steps n) s in
      keeps.onward s t _ (keeps.step s n) (next_point-keeps (rest (length s.here.env.names) a ∷ turning row k a ∷ ps) t)

  pub step-keeps : (m : Machine) → R m.state (step r m).state
  step-keeps m =
      elim (is_live m.state) as (λ b. R m.state (cond b (step_at r m.pieces m.state.here.env.steps m.state) m).state) [
        | true ↦ step_at-keeps m.pieces m.state.here.env.steps m.state
        | false ↦ keeps.same m.state
      ]
