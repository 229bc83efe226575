use Rattle.std.proofs.Common.{◌≡◌, ℕ, List, Bor, map, ap, subst, ◌∙◌}
use Rattle.iso_plan.specs.KeyNumbers.{AreNumbers}
use Rattle.iso_plan.specs.KeyTable.{keys}
use Rattle.iso_plan.specs.RowView.{row_of}
use Rattle.iso_plan.proofs.columns.key_by.Goals as goal

pub returns : goal.returns
returns c =
    let all : c.in_ok-keys.keys.items ≡ keys (map row_of c.args.rows.now) = c.in_ok-keys.ensures ∙ ap (map (λ (k : Bor (List ℕ)). k.now)) c.as_slice.ensures.keys ∙ c.requires.keys in
    record {
      keys_are = all;
      numbers_are = subst (AreNumbers c.in_ok-numbers.numbers) (c.deref-2.ensures.value ∙ all) c.in_ok-numbers.ensures;
      locked = c.in_ok-locked.ensures;
      modes_are = c.in_ok-modes.ensures;
    }
