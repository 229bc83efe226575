use Rattle.std.proofs.Common.{◌∙◌, ap, not}
use Rattle.std.proofs.lemmas.Map.Text.{is_eq-slice_cmp}
use Rattle.iso_model.proofs.Claims.{is_among-push, instead}
use Rattle.iso_model.proofs.distinct.claim.Goals as goal

pub returns : goal.returns
returns c = λ names knows.
    let e = c.in_ok-insert.ensures in (
      e.added ∙ ap not (knows c.args.name.now),
      λ m.
          e.updates.0 (record { ref_ptr = (0, 0); now = m })
          ∙ instead _ _ _ _ (is_eq-slice_cmp c.args.name.now m) (knows m)
          ∙ is_among-push names c.args.name.now m,
    )
