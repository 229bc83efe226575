use Rattle.std.proofs.Common.{◌∙◌, ap}
use Rattle.iso_core.specs.Cores.{CoreView, outcome_in}
use Rattle.iso_lifecycle.specs.ResultViews.{outcome_of_view}
use Rattle.iso_record.proofs.SerialCores.{outcome_tells}
use Rattle.iso_record.proofs.recording.Recording.is_finished.Goals as goal

pub returns : goal.returns
returns c =
    c.is_some.ensures
    ∙ outcome_tells outcome_of_view c.outcome.result c.args.self.now c.args.node c.requires.taken
    (c.outcome.ensures.finished ∙ ap (λ (v : CoreView). outcome_in v c.args.node) c.self.view_is)
