-- A tray to which nothing is lent has no value.
use Rattle.std.proofs.Common.{◌≡◌, ◌<◌, ℕ, zero, suc, List, [], ◌∷◌, length, Bool, true, false, true≢false, not, is_some, inl, inr, refl, sym, ◌∙◌, arith}
use Rattle.std.proofs.lemmas.Bool.{cases_lt}
use Rattle.iso_locks.proofs.OwnerLemmas.{none-by}
use Rattle.iso_locks.specs.Owners.{IsOwned}
use Rattle.iso_locks.specs.Slots.{slot}
use Rattle.iso_locks.specs.Trays.{TrayView, is_lent}
use Rattle.iso_plan.specs.HeldNodes.{any_held}
use Rattle.iso_plan.specs.Paths.{IsTree}
use Rattle.iso_plan.specs.RowView.{tree_of}
use Rattle.iso_floor.proofs.NoNodes.{not-written}
use Rattle.iso_floor.specs.Workers.{IsFree}

-- where no node is lent, this one isn't
pub none-lent : (lent : List Bool) → not (any_held lent) ≡ true → (n : ℕ) → is_lent lent n ≡ false
none-lent [] none n = refl
none-lent (true ∷ lent) none n = absurd (true≢false (sym none))
none-lent (false ∷ lent) none zero = refl
none-lent (false ∷ lent) none (suc n) = none-lent lent none n

pub nothing-lent : (t : TrayView) → IsTree (tree_of t.plan) → ((i : ℕ) → is_some (slot t.values i) ≡ true → IsOwned (tree_of t.plan) t.lent i)
    → ((n : ℕ) → n < length t.plan.rows → is_lent t.lent n ≡ false) → IsFree t
nothing-lent t tree owned none i =
    none-by (slot t.values i) (λ some.
    let o = owned i some in
    elim (cases_lt o.node (length (tree_of t.plan))) [
      | inl within ↦ let wrong : false ≡ true = sym (none o.node within) ∙ o.lent in cc
      | inr past ↦ not-written (tree_of t.plan) tree o.node (omega (arith, past)) i o.writes
    ])
