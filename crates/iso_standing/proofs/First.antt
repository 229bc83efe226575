-- The first standing looks like the first state.
use Rattle.std.proofs.Common.{◌≡◌, ◌<◌, ℕ, zero, suc, get_or, set, replicate, refl, sym, arith}
use Rattle.std.proofs.Math.Dec.{eqb-suc-zero}
use Rattle.std.proofs.lemmas.List.{get_or-replicate}
use Rattle.iso_model.specs.Resources.{Resources}
use Rattle.iso_standing.specs.Phases.{phase_of}
use Rattle.iso_standing.specs.Standings.{Standing, first_in}
use Rattle.iso_standing.specs.declared.phase.Phase.TheVariants.{Open, Waiting}

-- of the first state the root is open, and all other nodes wait
pub first-phases : (v : Standing) (start : Resources) (k n : ℕ) → n < k
    → phase_of ((first_in v start).nodes.status n) ≡ get_or (set (replicate k Waiting) 0 Open) n Waiting
first-phases v start zero n h = absurd (omega (arith, h))
first-phases v start (suc k) zero h = refl
first-phases v start (suc k) (suc n) h = rw (eqb-suc-zero n) (sym (get_or-replicate k n Waiting Waiting (omega (arith, h))))
