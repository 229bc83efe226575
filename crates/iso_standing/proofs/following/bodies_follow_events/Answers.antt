use Rattle.iso_standing.proofs.BodiesFollow.{entered, left, nobody-first, shut, went}
use Rattle.iso_standing.proofs.following.bodies_follow_events.Goals as goal

pub returns : goal.returns
returns c =
    let plan = c.args.plan.now in
    record {
      begin = λ world workers. nobody-first plan world workers;
      enter = λ world bodies s w n b are fits free waits under. entered plan world bodies s are w n b fits waits under;
      step = λ world bodies s w n b d are fits busy has subject_is kind_is stage_is. went plan world bodies s are w n b d fits busy has subject_is kind_is stage_is;
      leave = λ world bodies s w n are fits busy. left plan world bodies s are w n fits busy;
      shut = λ world bodies s w n b are fits free rests under. shut plan world bodies s are w n b fits rests under;
    }
