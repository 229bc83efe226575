use Rattle.std.proofs.Common.{◌≡◌, false, ap, sym, subst, ◌∙◌, arith}
use Rattle.iso_locks.specs.Clashes.{clash}
use Rattle.iso_locks.specs.Trays.{TrayView}
use Rattle.iso_locks.specs.Vaults.{CanTakeBack, VaultView, giving_back, regaining}
use Rattle.iso_plan.specs.Planned.{Planned}
use Rattle.iso_plan.specs.RowView.{tree_of}
use Rattle.iso_parts_tests.proofs.locks.beside.lend_after_two.Goals as goal

pub take_back-requires-2 : goal.take_back-requires-2
take_back-requires-2 g c =
    let one : TrayView = c.lend.new.tray in
    let two : TrayView = c.lend-2.new.tray in
    let vault : VaultView = c.in_the_way.new.vault in
    let law = c.other_nodes_may_still_be_taken_back.ensures in
    let Here : VaultView → Type 0 = λ v. CanTakeBack 1 v two in
    let both = law.lent 1 2 c.lend.new.vault one two c.lend.ensures.back c.lend-2.ensures.tray in
    let here : CanTakeBack 1 vault two = subst Here (sym (c.in_the_way.ensures.vault ∙ c.lend-2.ensures.vault)) both in
    let apart : clash (tree_of two.plan) 1 2 ≡ false =
    ap (λ (p : Planned). clash (tree_of p) 1 2) c.lend-2.ensures.tray.plan ∙ c.lend-2.ensures.held.beside 1 c.lend.ensures.tray.holds in
    let left = law.home 1 2 vault two (λ same. omega (arith, same)) apart here in
    let There : VaultView → Type 0 = λ v. CanTakeBack 1 v (giving_back 2 two) in
    let At : TrayView → Type 0 = λ t. CanTakeBack 1 c.take_back.new.self t in
    subst At (sym c.take_back.ensures.tray) (subst There (sym c.take_back.ensures.vault) left)
