-- A block changes no key that its rights don't let it change, no value's kind, and one key at most in a step.
use Rattle.std.proofs.Common.{◌≡◌, ℕ, zero, suc, List, [], ◌∷◌, Bool, true, false, cond, Option, option_map, refl, sym, ap, ◌∙◌, true≢false, bytes_eq}
use Rattle.std.proofs.lemmas.Slice.Eq.{bytes_eq-Decides}
use Rattle.iso_model.specs.Blocks.{begun, block}
use Rattle.iso_model.specs.Changes.{OneChange, none, one, kind_at}
use Rattle.iso_model.specs.Environments.{Environment}
use Rattle.iso_model.specs.Rights.{Rights, is_writable}
use Rattle.iso_model.specs.Resources.{Resources, changed}
use Rattle.iso_model.specs.Syntax.{Acts, act, no_acts}
use Rattle.iso_model.specs.Statements.{State, is_live, locally, with_steps, run}
use Rattle.iso_model.specs.Steps.{Piece, rest, turning, Machine, begin, step_at, step, finish}
use Rattle.iso_model.specs.declared.resource.Change.{Change}
use Rattle.iso_model.specs.declared.resource.Resource.{Resource}
use Rattle.iso_model.proofs.Effects.{Effect, nothing, local, assignment, line, fault, failure, skip, change, begin-effect}
use Rattle.iso_model.proofs.TouchLemmas.{changed_at-kind}
use Rattle.iso_model.proofs.Keeps.{Keeps, run-keeps, finish-keeps, step-keeps}

-- a change leaves every other key
other_key_at : (b : Bool) (c : Change) (o : Option Resource) → (b ≡ true → ⊥) → cond b (option_map (changed c) o) o ≡ o
other_key_at true c o other = absurd (other refl)
other_key_at false c o other = refl

-- a key that may not be changed
module _ (r : Rights) (k : List ℕ) (locked : is_writable (r k) ≡ false) where
  same_key : (j : List ℕ) → is_writable (r j) ≡ true → bytes_eq k j ≡ true → ⊥
  same_key j writable e = true≢false (sym writable ∙ ap (λ (q : List ℕ). is_writable (r q)) (sym ((bytes_eq-Decides k j).0 e)) ∙ locked)

  effect-untouched : (s t : State) → Effect r s t → t.resources k ≡ s.resources k
  effect-untouched s t nothing = refl
  effect-untouched s t (local b) = refl
  effect-untouched s t (assignment x d names e) = refl
  effect-untouched s t (line text room) = refl
  effect-untouched s t (fault row f) = refl
  effect-untouched s t (failure row message) = refl
  effect-untouched s t (skip row reason) = refl
  effect-untouched s t (change j c w) = other_key_at (bytes_eq k j) c (s.resources k) (same_key j w)

  value-kept : Keeps r (λ s t. t.resources k ≡ s.resources k)
  value-kept = record {
    same = λ s. refl;
    onward = λ s t u first second. second ∙ first;
    effect = effect-untouched;
    step = λ s n. refl;
    end = λ s row. refl;
    scope = λ s t e. e;
  }

  pub run-untouched : (acts : Acts) (s : State) → (run r acts s).resources k ≡ s.resources k
  run-untouched acts s = run-keeps r (λ s t. t.resources k ≡ s.resources k) value-kept acts s

  pub finish-untouched : (ps : List Piece) (s : State) → (finish r ps s).resources k ≡ s.resources k
  finish-untouched ps s = finish-keeps r (λ s t. t.resources k ≡ s.resources k) value-kept (λ s n. refl) ps s

  pub step-untouched : (m : Machine) → (step r m).state.resources k ≡ m.state.resources k
  step-untouched m = step-keeps r (λ s t. t.resources k ≡ s.resources k) value-kept (λ s n. refl) m

  pub block-untouched : (acts : Acts) (env : Environment) (m : Resources) → (block r acts env m).resources k ≡ m k
  block-untouched acts env m = run-untouched acts (record { here = begun env; resources = m })

-- the value at any key keeps its kind
module _ (r : Rights) (k : List ℕ) where
  effect-kind : (s t : State) → Effect r s t → kind_at t.resources k ≡ kind_at s.resources k
  effect-kind s t nothing = refl
  effect-kind s t (local b) = refl
  effect-kind s t (assignment x d names e) = refl
  effect-kind s t (line text room) = refl
  effect-kind s t (fault row f) = refl
  effect-kind s t (failure row message) = refl
  effect-kind s t (skip row reason) = refl
  effect-kind s t (change j c w) = changed_at-kind s.resources j k c

  kind-kept : Keeps r (λ s t. kind_at t.resources k ≡ kind_at s.resources k)
  kind-kept = record {
    same = λ s. refl;
    onward = λ s t u first second. second ∙ first;
    effect = effect-kind;
    step = λ s n. refl;
    end = λ s row. refl;
    scope = λ s t e. e;
  }

  pub finish-kinds : (ps : List Piece) (s : State) → kind_at (finish r ps s).resources k ≡ kind_at s.resources k
  finish-kinds ps s = finish-keeps r (λ s t. kind_at t.resources k ≡ kind_at s.resources k) kind-kept (λ s n. refl) ps s

  pub step-kinds : (m : Machine) → kind_at (step r m).state.resources k ≡ kind_at m.state.resources k
  step-kinds m = step-keeps r (λ s t. kind_at t.resources k ≡ kind_at s.resources k) kind-kept (λ s n. refl) m

  pub block-kinds : (acts : Acts) (env : Environment) (m : Resources) → kind_at (block r acts env m).resources k ≡ kind_at m k
  block-kinds acts env m = run-keeps r (λ s t. kind_at t.resources k ≡ kind_at s.resources k) kind-kept acts (record { here = begun env; resources = m })

-- a step makes one change at most
effect-one : (r : Rights) (s t : State) → Effect r s t → OneChange r s.resources t.resources
effect-one r s t nothing = none
effect-one r s t (local b) = none
effect-one r s t (assignment x d names e) = none
effect-one r s t (line text room) = none
effect-one r s t (fault row f) = none
effect-one r s t (failure row message) = none
effect-one r s t (skip row reason) = none
effect-one r s t (change k c w) = one k c w

step_at-one : (r : Rights) (ps : List Piece) (n : ℕ) (s : State) → OneChange r s.resources (step_at r ps n s).state.resources
step_at-one r [] n s = none
step_at-one r (rest j no_acts ∷ ps) n s = none
step_at-one r (rest j (act row a acts) ∷ ps) zero s = none
step_at-one r (rest j (act row a acts) ∷ ps) (suc n) s = let t = locally (with_steps n) s in effect-one r t (begin r row a t).state (begin-effect r t row a)
step_at-one r (turning row zero a ∷ ps) n s = none
step_at-one r (turning row (suc t) a ∷ ps) zero s = none
step_at-one r (turning row (suc t) a ∷ ps) (suc n) s = none

pub step-one : (r : Rights) (m : Machine) → OneChange r m.state.resources (step r m).state.resources
step-one r m =
    elim (is_live m.state) as (λ b. OneChange r m.state.resources (cond b (step_at r m.pieces m.state.here.env.steps m.state) m).state.resources) [
      | true ↦ step_at-one r m.pieces m.state.here.env.steps m.state
      | false ↦ none
    ]
