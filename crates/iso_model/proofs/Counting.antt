-- The whole meaning of a block takes as many steps as its single steps do.
use Rattle.std.proofs.Common.{◌≡◌, ℕ, zero, suc, ◌+◌, ◌<◌, ◌≤◌, List, [], ◌∷◌, ◌++◌, length, Bool, true, false, cond, ◌⊎◌, inl, inr, refl, sym, ap, ◌∙◌, subst, arith, true≢false}
use Rattle.iso_model.specs.Rights.{Rights}
use Rattle.iso_model.specs.Resources.{Resources}
use Rattle.iso_model.specs.Syntax.{Act, Acts, act, no_acts}
use Rattle.iso_model.specs.Texts.{kind_of}
use Rattle.iso_model.specs.Statements.{Local, State, is_live, is_well, locally, with_steps, runs_out}
use Rattle.iso_model.specs.Steps.{Piece, rest, turning, Machine, machine, machine_at, point, leave_done, next_point, begin, step_at, step, steps, finished, is_done, is_ready, step_past, steps_to}
use Rattle.iso_model.specs.declared.fault.Fault.{Fault}
use Rattle.iso_model.specs.declared.fault.Fault.TheVariants as F
use Rattle.iso_model.specs.declared.fault.FaultKind.TheVariants as K
use Rattle.iso_model.specs.declared.outcome.Note.{Note}
use Rattle.iso_model.specs.declared.outcome.Ending.{Ending}
use Rattle.iso_model.specs.declared.outcome.Ending.TheVariants as E
use Rattle.iso_model.proofs.Effects.{Effect, nothing, local, assignment, line, fault, failure, skip, change, begin-effect}
use Rattle.iso_model.proofs.Ends.{begin-steps, next-steps, leave-ending, step-ready, step-live, step-none}
use Rattle.iso_model.proofs.Finishing.{finish-step}

live-past : (e : Ending) → is_well e ≡ true → step_past e ≡ 0
live-past E.Well live = refl
live-past (E.Fail note) live = refl
live-past (E.Assumed note) live = refl
live-past (E.Fault kind note) live = absurd (true≢false (sym live))

-- no statement gives OutOfSteps
fault-past : (fault : Fault) (note : Note) → step_past (E.Fault (kind_of fault) note) ≡ 0
fault-past (F.Undeclared a k) note = refl
fault-past F.Overflow note = refl
fault-past (F.UnknownName x) note = refl
fault-past (F.DoubleName x) note = refl
fault-past (F.Frozen x) note = refl
fault-past F.WrongKind note = refl
fault-past (F.MissingProperty x) note = refl
fault-past (F.MissingFile p) note = refl
fault-past F.BadCount note = refl
fault-past F.OutputFull note = refl
fault-past F.TextTooLong note = refl

effect-past : (r : Rights) (s t : State) → Effect r s t → step_past s.here.ending ≡ 0 → step_past t.here.ending ≡ 0
effect-past r s t nothing past = past
effect-past r s t (local b) past = past
effect-past r s t (assignment x d names e) past = past
effect-past r s t (line text room) past = past
effect-past r s t (fault row f) past = fault-past f _
effect-past r s t (failure row message) past = refl
effect-past r s t (skip row reason) past = refl
effect-past r s t (change k c w) past = past

-- what is left after a step that was left: an end that is no OutOfSteps, or a block that goes on
abbrev GoesOn : Machine → Type 0
GoesOn m = (is_live m.state ≡ true) ⊎ ((m.pieces ≡ []) × (step_past m.state.here.ending ≡ 0))

goes_on_at : (ps : List Piece) (l : Local) (m : Resources) (b : Bool) → is_well l.ending ≡ b → step_past l.ending ≡ 0 → GoesOn (machine_at (cond b (leave_done ps l) (point [] l)) m)
goes_on_at ps l m true live past = inl (ap is_well (leave-ending ps l) ∙ live)
goes_on_at ps l m false live past = inr (refl, past)

goes_on : (ps : List Piece) (l : Local) (m : Resources) → step_past l.ending ≡ 0 → GoesOn (machine_at (next_point ps l) m)
goes_on ps l m past = goes_on_at ps l m (is_well l.ending) refl past

module _ (r : Rights) where
  -- so many single steps lead to the end, and no fewer
  pub record Counted (m : Machine) (t : ℕ) : Type 0 where
    pub adds : (finished r m).here.env.steps + t ≡ m.state.here.env.steps + step_past (finished r m).here.ending
    pub ends : steps r t m ≡ machine [] (finished r m)
    pub before : (n : ℕ) → n < t → is_done (steps r n m).pieces ≡ false

  counted_none : (s : State) → step_past s.here.ending ≡ 0 → Counted (machine [] s) 0
  counted_none s past = record { adds = omega arith; ends = refl; before = λ n less. absurd (omega arith) }

  before_more : (m : Machine) (t : ℕ) → is_done m.pieces ≡ false → ((n : ℕ) → n < t → is_done (steps r n (step r m)).pieces ≡ false) → (n : ℕ) → n < suc t → is_done (steps r n m).pieces ≡ false
  before_more m t some before zero less = some
  before_more m t some before (suc n) less = before n (omega arith)

  -- one step more, of those that are left
  counted_more : (m : Machine) (t : ℕ) → is_live m.state ≡ true → is_done m.pieces ≡ false → (step r m).state.here.env.steps + 1 ≡ m.state.here.env.steps → Counted (step r m) t → Counted m (suc t)
  counted_more m t live some fewer c =
      let same : finished r (step r m) ≡ finished r m = finish-step r m in
      record {
        adds = let adds : (finished r m).here.env.steps + t ≡ (step r m).state.here.env.steps + step_past (finished r m).here.ending
            = subst (λ (s : State). s.here.env.steps + t ≡ (step r m).state.here.env.steps + step_past s.here.ending) same c.adds in
            omega arith;
        ends = c.ends ∙ ap (λ (s : State). machine [] s) same;
        before = before_more m t some c.before;
      }

  -- the step past the last
  counted_past : (m : Machine) (row : ℕ) → is_live m.state ≡ true → is_done m.pieces ≡ false → m.state.here.env.steps ≡ 0 → step r m ≡ machine [] (runs_out row m.state) → Counted m 1
  counted_past m row live some none e =
      let end : runs_out row m.state ≡ finished r m = sym (ap (λ (x : Machine). finished r x) e) ∙ finish-step r m in
      record {
        adds = subst (λ (s : State). s.here.env.steps + 1 ≡ m.state.here.env.steps + step_past s.here.ending) end refl;
        ends = e ∙ ap (λ (s : State). machine [] s) end;
        before = before_more m 0 some (λ n less. absurd (omega arith));
      }

  -- where a statement's step leaves the block
  after_act : (k j row : ℕ) (a : Act) (acts : Acts) (ps : List Piece) (s : State) → is_live s ≡ true
      → let q = step_at r (rest j (act row a acts) ∷ ps) (suc k) s in (q.state.here.env.steps ≡ k) × GoesOn q
  after_act k j row a acts ps s live =
      let t : State = locally (with_steps k) s in
      let m = begin r row a t in (
        next-steps (m.pieces ++ rest j acts ∷ ps) m.state.here ∙ begin-steps r row a t,
        goes_on (m.pieces ++ rest j acts ∷ ps) m.state.here m.state.resources (effect-past r t m.state (begin-effect r t row a) (live-past s.here.ending live)),
      )

  after_turn : (k row n : ℕ) (a : Acts) (ps : List Piece) (s : State) → is_live s ≡ true → let q = step_at r (turning row (suc n) a ∷ ps) (suc k) s in (q.state.here.env.steps ≡ k) × GoesOn q
  after_turn k row n a ps s live =
      let qs : List Piece = rest (length s.here.env.names) a ∷ turning row n a ∷ ps in
      (next-steps qs (with_steps k s.here), goes_on qs (with_steps k s.here) s.resources (live-past s.here.ending live))

  -- the count from a point with k steps left
  abbrev From : ℕ → Type 0
  From k = (ps : List Piece) (s : State) → s.here.env.steps ≡ k → is_live s ≡ true → is_ready ps ≡ true → (t : ℕ) × Counted (machine ps s) t

  count_on : (k : ℕ) → From k → (m : Machine) → is_live m.state ≡ true → is_ready m.pieces ≡ true → is_done m.pieces ≡ false
      → m.state.here.env.steps ≡ suc k → (step r m).state.here.env.steps ≡ k → GoesOn (step r m) → (t : ℕ) × Counted m t
  count_on k from m live ready some first next (inl goes) =
      let c = from (step r m).pieces (step r m).state next goes (step-ready r m (record { first = ready; live = λ h. live })).first in
      (suc c.0, counted_more m c.0 live some (omega arith) c.1)
  count_on k from m live ready some first next (inr ended) =
      let c : Counted (step r m) 0 = subst (λ (ps : List Piece). Counted (machine ps (step r m).state) 0) (sym ended.0) (counted_none (step r m).state ended.1) in
      (1, counted_more m 0 live some (omega arith) c)

  count : (k : ℕ) (ps : List Piece) (s : State) → s.here.env.steps ≡ k → is_live s ≡ true → is_ready ps ≡ true → (t : ℕ) × Counted (machine ps s) t
  count k [] s e live ready = (0, counted_none s (live-past s.here.ending live))
  count k (rest j no_acts ∷ ps) s e live ready = absurd (true≢false (sym ready))
  count zero (rest j (act row a acts) ∷ ps) s e live ready = (
    1,
    counted_past (machine (rest j (act row a acts) ∷ ps) s) row live refl e
        (step-live r (machine (rest j (act row a acts) ∷ ps) s) live ∙ ap (λ n. step_at r (rest j (act row a acts) ∷ ps) n s) e),
  )
  count (suc k) (rest j (act row a acts) ∷ ps) s e live ready =
      let m : Machine = machine (rest j (act row a acts) ∷ ps) s in
      let here : step_at r (rest j (act row a acts) ∷ ps) (suc k) s ≡ step r m = ap (λ n. step_at r (rest j (act row a acts) ∷ ps) n s) (sym e) ∙ sym (step-live r m live) in
      let after = after_act k j row a acts ps s live in
      count_on k (count k) m live refl refl e (ap (λ (q : Machine). q.state.here.env.steps) (sym here) ∙ after.0) (subst (λ (q : Machine). GoesOn q) here after.1)
  count k (turning row zero a ∷ ps) s e live ready = absurd (true≢false (sym ready))
  count zero (turning row (suc n) a ∷ ps) s e live ready =
      (1, counted_past (machine (turning row (suc n) a ∷ ps) s) row live refl e (step-live r (machine (turning row (suc n) a ∷ ps) s) live ∙ ap (λ k. step_at r (turning row (suc n) a ∷ ps) k s) e))
  count (suc k) (turning row (suc n) a ∷ ps) s e live ready =
      let m : Machine = machine (turning row (suc n) a ∷ ps) s in
      let here : step_at r (turning row (suc n) a ∷ ps) (suc k) s ≡ step r m = ap (λ i. step_at r (turning row (suc n) a ∷ ps) i s) (sym e) ∙ sym (step-live r m live) in
      let after = after_turn k row n a ps s live in
      count_on k (count k) m live refl refl e (ap (λ (q : Machine). q.state.here.env.steps) (sym here) ∙ after.0) (subst (λ (q : Machine). GoesOn q) here after.1)

  -- the number of single steps is the one that the two ends tell
  pub counted : (m : Machine) → is_live m.state ≡ true → is_ready m.pieces ≡ true → Counted m (steps_to m.state.here (finished r m).here)
  counted m live ready =
      let c = count m.state.here.env.steps m.pieces m.state refl live ready in
      let adds = c.1.adds in
      let same : c.0 ≡ steps_to m.state.here (finished r m).here = omega arith in
      subst (λ t. Counted m t) same c.1

steps-none : (r : Rights) (n : ℕ) (s : State) → steps r n (machine [] s) ≡ machine [] s
steps-none r zero s = refl
steps-none r (suc n) s = ap (λ (m : Machine). steps r n m) (step-none r s) ∙ steps-none r n s

-- more steps than those to the end change nothing
pub steps-past : (r : Rights) (t n : ℕ) (m : Machine) (s : State) → t ≤ n → steps r t m ≡ machine [] s → steps r n m ≡ machine [] s
steps-past r zero n m s less e = ap (λ (x : Machine). steps r n x) e ∙ steps-none r n s
steps-past r (suc t) zero m s less e = absurd (omega arith)
steps-past r (suc t) (suc n) m s less e = steps-past r t n (step r m) s (omega arith) e

pub step_past-le : (e : Ending) → step_past e ≤ 1
step_past-le E.Well = omega arith
step_past-le (E.Fail note) = omega arith
step_past-le (E.Assumed note) = omega arith
step_past-le (E.Fault K.OutOfSteps note) = omega arith
step_past-le (E.Fault kind note) = omega arith
