use Rattle.std.proofs.Common.{◌≡◌, ◌<◌, ℕ, false, length, ap, sym, ◌∙◌, subst, arith}
use Rattle.iso_locks.specs.Trays.{TrayView, is_lent}
use Rattle.iso_plan.specs.Paths.{IsTree}
use Rattle.iso_plan.specs.Planned.{Planned}
use Rattle.iso_plan.specs.RowView.{tree_of}
use Rattle.iso_floor.proofs.FreeSeats.{none-lent, nothing-lent}
use Rattle.iso_floor.specs.Workers.{IsFree}
use Rattle.iso_floor.proofs.work.is_free.Goals as goal

pub returns : goal.returns
returns g c = λ idle.
    let t : TrayView = c.tray-tray.result.now in
    let p : Planned = c.plan-plan.result.now in
    let same : p ≡ t.plan = c.plan-plan.ensures in
    let tree : IsTree (tree_of t.plan) = subst (λ (x : Planned). IsTree (tree_of x)) same c.nodes_are_a_tree.ensures in
    let flat : t.flat ≡ false = sym c.is_flat.ensures ∙ c.if-is_flat.false in
    let none : (n : ℕ) → n < length t.plan.rows → is_lent t.lent n ≡ false = λ n less. none-lent t.lent (sym c.holds_none.ensures ∙ idle) n in
    subst IsFree c.tray-tray.ensures.tray (nothing-lent t tree (c.values_are_of_lent_nodes.ensures flat) none)
