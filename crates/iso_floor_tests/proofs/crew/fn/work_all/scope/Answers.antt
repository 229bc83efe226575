use denote.Exit.{no}
use denote.Param.{param}
use denote.Param.Send.{arg_send, param_send, shr_send}
use Rattle.std.proofs.Crossing.{send}
use Rattle.iso_floor.proofs.Sharing.{floor_shared, seat_sent, work_end_sent}
use Rattle.iso_floor_tests.proofs.Captures.{five_sent}
use Rattle.iso_floor_tests.proofs.crew.fn.work_all.scope.Goals as goal

pub spawn-handle-requires-send-F : goal.spawn-handle-requires-send-F
spawn-handle-requires-send-F g c κs = λ lives.
    param_send _ _ (arg_send _ no _ (five_sent _ _ _ _ _ _
    (shr_send _ _ _ c.requires.0)
    send
    (shr_send _ _ _ (floor_shared _ (param 0 g.row.G) g.G.Ground c.requires.2))
    (seat_sent _ (param 0 g.row.G) g.G.Ground c.requires.2)
    (shr_send _ _ _ c.requires.1)))

pub spawn-handle-requires-send-T : goal.spawn-handle-requires-send-T
spawn-handle-requires-send-T g c κs = λ lives. param_send _ _ (arg_send _ no _ (work_end_sent _ (param 0 g.row.G) g.G.Ground c.requires.2))
