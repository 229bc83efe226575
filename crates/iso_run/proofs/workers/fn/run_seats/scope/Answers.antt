use denote.Exit.{no}
use denote.Param.{param}
use denote.Param.Send.{arg_send, param_send, shr_send}
use Rattle.std.proofs.Crossing.{send}
use Rattle.iso_floor.proofs.Sharing.{floor_shared, seat_sent, work_end_sent}
use Rattle.iso_run.proofs.Captures.{five_sent}
use Rattle.iso_run.proofs.workers.fn.run_seats.scope.Goals as goal

pub spawn_scoped-requires-send-F : goal.spawn_scoped-requires-send-F
spawn_scoped-requires-send-F g c κs = λ lives.
    param_send _ _ (arg_send _ no _ (five_sent _ _ _ _ _ _
    (shr_send _ _ _ c.requires.sent.0)
    send
    (shr_send _ _ _ (floor_shared _ (param 0 g.row.L) g.L.Ground c.requires.sent.2))
    (seat_sent _ (param 0 g.row.L) g.L.Ground c.requires.sent.2)
    (shr_send _ _ _ c.requires.sent.1)))

pub spawn_scoped-requires-send-T : goal.spawn_scoped-requires-send-T
spawn_scoped-requires-send-T g c κs = λ lives. param_send _ _ (arg_send _ no _ (work_end_sent _ (param 0 g.row.L) g.L.Ground c.requires.sent.2))
