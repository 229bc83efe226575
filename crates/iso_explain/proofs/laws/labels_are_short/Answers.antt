use Rattle.iso_explain.proofs.ShortLemmas.{label-is-short}
use Rattle.iso_explain.proofs.laws.labels_are_short.Goals as goal

pub returns : goal.returns
returns c kind reason = label-is-short kind reason
