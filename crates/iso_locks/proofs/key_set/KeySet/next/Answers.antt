use Rattle.std.proofs.Common.{◌≤◌, ℕ, length, ◌/◌, ◌%◌, ◌∙◌, ap, arith, inl, inr}
use Rattle.std.proofs.lemmas.Bool.{cases_lt}
use Rattle.std.proofs.lemmas.List.{get_or_past}
use Rattle.iso_desk.proofs.BitLemmas.{bit_none}
use Rattle.iso_desk.specs.Marking.{bit}
use Rattle.iso_locks.proofs.key_set.KeySet.next.Goals as goal

pub returns : goal.returns
returns c = λ k h.
    let ws = c.args.self.now.words in
    elim (cases_lt k c.words.at) [
      | inl below ↦ c.words.invariant.none k h below
      | inr above ↦
          let past : length ws ≤ k / 64 = omega arith in
          ap (λ (w : ℕ). bit w (k % 64)) (get_or_past ws (k / 64) 0 past) ∙ bit_none (k % 64)
    ]
