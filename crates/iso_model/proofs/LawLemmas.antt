-- What the public laws cite.
use Rattle.std.proofs.Common.{◌≡◌, ℕ, ◌+◌, ◌-◌, ◌<◌, ◌≤◌, arith, List, [], ◌∷◌, length, le_refl, Bool, true, false, cond, refl, sym, ap, ◌∙◌}
use Rattle.std.proofs.lemmas.List.{take-take}
use Rattle.iso_model.specs.Blocks.{begun, block}
use Rattle.iso_model.specs.Environments.{Environment}
use Rattle.iso_model.specs.Resources.{Resources}
use Rattle.iso_model.specs.Rights.{Rights}
use Rattle.iso_model.specs.Statements.{State, is_live, is_well, kept, locally, run, with_names}
use Rattle.iso_model.specs.Steps.{IsReady, Machine, rest, machine, finished, is_done, is_ready, machine_at, first_point, step_past, steps, steps_to}
use Rattle.iso_model.specs.Syntax.{Acts}
use Rattle.iso_model.specs.declared.names.Binding.{Binding}
use Rattle.iso_model.proofs.Counting.{counted, steps-past, step_past-le}
use Rattle.iso_model.specs.declared.limits.TheConstants.{BLOCK_STEPS}
use Rattle.iso_model.proofs.Ends.{next-ready, next-steps, leave-ending}
use Rattle.iso_model.proofs.Finishing.{finish-next}

keeping-kept_at : (k : ℕ) (s : State) (b : Bool) → is_live s ≡ b → kept k (cond b (kept k s) s) ≡ kept k s
keeping-kept_at k s true e = ap (λ (names : List Binding). locally (with_names names) s) (take-take k k s.here.env.names (le_refl k))
keeping-kept_at k s false e = refl

-- the locals of a block are dropped once
pub block-finished : (r : Rights) (acts : Acts) (env : Environment) (m : Resources)
    → kept (length env.names) (finished r (machine_at (first_point acts env) m)) ≡ block r acts env m
block-finished r acts env m =
    let s : State = run r acts (record { here = begun env; resources = m }) in
    ap (λ (t : State). kept (length env.names) t) (finish-next r (rest (length env.names) acts ∷ []) (begun env) m)
    ∙ keeping-kept_at (length env.names) s (is_live s) refl

pub first-ready : (acts : Acts) (env : Environment) → IsReady (first_point acts env)
first-ready acts env = next-ready (rest (length env.names) acts ∷ []) (begun env)

first-here : (acts : Acts) (env : Environment) → (first_point acts env).here.env.steps ≡ (begun env).env.steps
first-here acts env = next-steps (rest (length env.names) acts ∷ []) (begun env)

first-live : (acts : Acts) (env : Environment) → is_well (first_point acts env).here.ending ≡ true
first-live acts env = ap is_well (leave-ending (rest (length env.names) acts ∷ []) (begun env))

-- a block is ended after so many single steps
pub block-ends : (r : Rights) (acts : Acts) (env : Environment) (m : Resources)
    → steps r (steps_to (begun env) (block r acts env m).here) (machine_at (first_point acts env) m) ≡ machine [] (finished r (machine_at (first_point acts env) m))
block-ends r acts env m =
    let first : Machine = machine_at (first_point acts env) m in
    let whole : State = block r acts env m in
    let c = counted r first (first-live acts env) (first-ready acts env).first in
    let same : steps_to first.state.here (finished r first).here ≡ steps_to (begun env) whole.here =
    ap (λ n. n + step_past (finished r first).here.ending - (finished r first).here.env.steps) (first-here acts env)
    ∙ ap (λ (s : State). steps_to (begun env) s.here) (block-finished r acts env m) in
    ap (λ n. steps r n first) (sym same) ∙ c.ends

pub block-counted : (r : Rights) (acts : Acts) (env : Environment) (m : Resources)
    → let whole = block r acts env m in
    let last = steps r (steps_to (begun env) whole.here) (machine_at (first_point acts env) m) in
    (last.pieces ≡ []) × (kept (length env.names) last.state ≡ whole)
block-counted r acts env m =
    let last = block-ends r acts env m in
    (ap (λ (x : Machine). x.pieces) last, ap (λ (x : Machine). kept (length env.names) x.state) last ∙ block-finished r acts env m)

-- and so it is after any number past its steps
pub block-within_steps : (r : Rights) (acts : Acts) (env : Environment) (m : Resources) (n : ℕ) → BLOCK_STEPS < n
    → let last = steps r n (machine_at (first_point acts env) m) in
    (last.pieces ≡ []) × (kept (length env.names) last.state ≡ block r acts env m)
block-within_steps r acts env m n more =
    let whole : State = block r acts env m in
    let past = step_past-le whole.here.ending in
    let few : steps_to (begun env) whole.here ≤ n = omega arith in
    let last = steps-past r (steps_to (begun env) whole.here) n (machine_at (first_point acts env) m) (finished r (machine_at (first_point acts env) m)) few (block-ends r acts env m) in
    (ap (λ (x : Machine). x.pieces) last, ap (λ (x : Machine). kept (length env.names) x.state) last ∙ block-finished r acts env m)

pub ends_counted : (r : Rights) (m : Machine) → is_live m.state ≡ true → is_ready m.pieces ≡ true → steps r (steps_to m.state.here (finished r m).here) m ≡ machine [] (finished r m)
ends_counted r m live ready = (counted r m live ready).ends

pub none_sooner : (r : Rights) (m : Machine) → is_live m.state ≡ true → is_ready m.pieces ≡ true → (n : ℕ) → n < steps_to m.state.here (finished r m).here → is_done (steps r n m).pieces ≡ false
none_sooner r m live ready = (counted r m live ready).before
