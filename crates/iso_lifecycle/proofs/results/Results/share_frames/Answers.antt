use Rattle.std.proofs.Common.{OnOk, Result, Ok, Err, ◌∙◌}
use Rattle.iso_lifecycle.proofs.FramesUp.{turned}
use Rattle.iso_lifecycle.proofs.results.Results.share_frames.Goals as goal

on_ok : {A E : Type 0} (r : Result A E) (P : Type 0) → P → OnOk r P
on_ok (Ok a) P p = p
on_ok (Err e) P p = tt

pub returns-in-Ok-clause-frames : goal.returns-in-Ok-clause-frames
returns-in-Ok-clause-frames c =
    on_ok c.share_upwards-shared.result _
    (c.reverse.ensures.items ∙ turned c.args.self.now c.args.node c.share_upwards-shared.new.frames.items c.in-Ok.ensures.frames)
