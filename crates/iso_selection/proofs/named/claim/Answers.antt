use Rattle.std.proofs.Common.{◌∙◌}
use Rattle.std.proofs.lemmas.Map.Text.{is_eq-slice_cmp}
use Rattle.iso_model.proofs.Claims.{is_among-push, instead}
use Rattle.iso_selection.proofs.named.claim.Goals as goal

pub returns : goal.returns
returns c = λ texts knows. λ m.
    c.in_ok-insert.ensures.updates.0 (record { ref_ptr = (0, 0); now = m })
    ∙ instead _ _ _ _ (is_eq-slice_cmp c.args.text.now m) (knows m)
    ∙ is_among-push texts c.args.text.now m
