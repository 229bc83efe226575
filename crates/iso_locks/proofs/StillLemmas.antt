-- What one node needs to be taken back, and to be undone, outlasts others that are lent and taken back.
use Rattle.std.proofs.Common.{◌≡◌, ◌≢◌, ℕ, ◌<◌, List, length, set, Some, None, Bool, true, false, cond, option_map, inl, inr, ap, ap₂, sym, subst, ◌∙◌, arith}
use Rattle.std.proofs.lemmas.Bool.{cases_eq}
use Rattle.std.proofs.lemmas.List.{get_or-set_same}
use Rattle.iso_locks.proofs.KeyLemmas.{written-conflict}
use Rattle.iso_locks.proofs.OwnerLemmas.{away-slot, lent-other, lent-within, no-conflict, true-or-false}
use Rattle.iso_locks.specs.Clashes.{clash}
use Rattle.iso_locks.specs.Moves.{is_written}
use Rattle.iso_locks.specs.Slots.{slot}
use Rattle.iso_locks.specs.Trays.{CanUndo, SavepointView, TrayView, is_lent, key_at}
use Rattle.iso_locks.specs.Vaults.{CanTakeBack, IsLentTo, VaultView, giving_back, lending, regaining}
use Rattle.iso_plan.specs.KeyTable.{keys}
use Rattle.iso_plan.specs.Locks.{conflict, locks}
use Rattle.iso_plan.specs.Planned.{Planned}
use Rattle.iso_plan.specs.RowView.{tree_of}
use Rattle.iso_settings.specs.Worlds.{Start, starting_value_in}
use Rattle.iso_store.specs.Histories.{History}

lent-still : (lent : List Bool) (n m : ℕ) → is_lent lent m ≡ true → is_lent (set lent n true) m ≡ true
lent-still lent n m e = elim (cases_eq m n) [
  | inl same ↦ let within = lent-within lent m e in ap (is_lent (set lent n true)) same ∙ get_or-set_same lent n true false (omega arith)
  | inr other ↦ lent-other lent n m true other ∙ e
]

-- when another node is lent
pub back-lent : (m n : ℕ) (v : VaultView) (t u : TrayView) → CanTakeBack m v t → IsLentTo n t u → CanTakeBack m (lending n v) u
back-lent m n v t u can on =
    record {
      node = can.node;
      plan = on.plan ∙ can.plan;
      world = on.world ∙ can.world;
      lent = lent-still v.lent n m can.lent;
      holds = ap (λ (bs : List Bool). is_lent bs m) on.lent ∙ lent-still t.lent n m can.holds;
      at_start = λ i less w. elim (true-or-false (is_written (locks (tree_of t.plan) n) i)) [
        | inl own ↦ on.written i (subst (λ (p : Planned). i < length (keys (tree_of p))) (sym can.plan) less) own
        | inr out ↦
            ap (option_map (λ (h : History). h.now)) (on.others i out) ∙ can.at_start i less w
            ∙ ap₂ (λ (x : Start) (p : Planned). Some (starting_value_in x (key_at (tree_of p) i))) (sym on.world) (sym on.plan)
      ];
    }

-- when another node is taken back that doesn't clash with it
pub back-home : (m n : ℕ) (v : VaultView) (t : TrayView) → m ≢ n → clash (tree_of t.plan) m n ≡ false → CanTakeBack m v t → CanTakeBack m (regaining n v) (giving_back n t)
back-home m n v t other apart can =
    record {
      node = can.node;
      plan = can.plan;
      world = can.world;
      lent = lent-other v.lent n m false other ∙ can.lent;
      holds = lent-other t.lent n m false other ∙ can.holds;
      at_start = λ i less w. elim (true-or-false (is_written (locks (tree_of t.plan) n) i)) [
        | inl own ↦
            let one : conflict (tree_of t.plan) m n ≡ true = written-conflict (tree_of t.plan) m n i (ap (λ (p : Planned). is_written (locks (tree_of p) m) i) can.plan ∙ w) own in
            let two : conflict (tree_of t.plan) m n ≡ false = no-conflict (tree_of t.plan) m n apart in
            absurd (cc)
        | inr out ↦
            ap (option_map (λ (h : History). h.now)) (away-slot (locks (tree_of t.plan) n) t.values i ∙ ap (λ (b : Bool). cond b None (slot t.values i)) out) ∙ can.at_start i less w
      ];
    }

-- a mark can be gone back to when another node was lent since
pub undo-lent : (n : ℕ) (t u : TrayView) (mark : SavepointView) → t.flat ≡ false → CanUndo mark t → IsLentTo n t u → CanUndo mark u
undo-lent n t u mark flat can on = record {
  fits = can.fits ∙ sym on.fits;
  later = λ i h e.
      let x = can.later i h e in
      elim (true-or-false (is_written (locks (tree_of t.plan) n) i)) [
        | inl own ↦ absurd (let wrong : None ≡ Some x.now = sym (on.fresh flat i own) ∙ x.there in cc)
        | inr out ↦ record { now = x.now; there = on.others i out ∙ x.there; later = x.later }
      ];
}
