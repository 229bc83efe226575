use Rattle.std.proofs.Common.{◌≡◌, ap, sym, ◌∙◌, arith, inl, inr}
use Rattle.std.proofs.lemmas.Bool.{cases_lt}
use Rattle.iso_plan.specs.KeyGroups.{lead}
use Rattle.iso_plan.specs.RowView.{tree_of}
use Rattle.iso_locks.proofs.vault.is_one_group.Goals as goal

pub keys-init : goal.keys-init
keys-init c = λ i above below. absurd (omega (arith, above, below))

pub keys-preserved : goal.keys-preserved
keys-preserved c =
    let one : c.lead.result ≡ 1 = omega arith in
    λ i above below. elim (cases_lt i c.keys.key) [
      | inl less ↦ c.keys.invariant i above less
      | inr more ↦ let same : i ≡ c.keys.key = omega (arith, below, more) in ap (lead (tree_of c.args.plan.now)) same ∙ sym c.lead.ensures ∙ one
    ]

pub returns : goal.returns
returns c = λ e i above below. c.keys.invariant i above (omega (arith, below, c.key_count-key-end.ensures))
