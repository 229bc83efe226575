use Rattle.std.proofs.Common.{◌∙◌}
use Rattle.std.proofs.lemmas.Result.{IfOk-weaker}
use Rattle.iso_affected.proofs.PropertyLemmas.{properties-start}
use Rattle.iso_affected.proofs.properties.starting_properties.Goals as goal

pub returns : goal.returns
returns c =
    IfOk-weaker c.share.result _ _ (λ value h. h ∙ properties-start c.args.world.now c.in_ok-key.key (c.in_ok-key.ensures ∙ c.in_ok-copied.ensures)) c.share.ensures
