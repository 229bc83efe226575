use denote.Exit.{no}
use denote.Param.{param}
use denote.Param.Send.{IsSync, arg_send, arg_sync, param_send, param_sync, shr_sync}
use denote.Param.SendFields.{as_row_sync, declared_sync}
use denote.RattleType.{RattleType}
use denote.Struct.Field.{row_field}
use denote.Struct.Tuple.{TupleAt, type_at}
use mathlib.Core.List.{[], ◌∷◌}
use mir.Syntax.{Sym}
use Rattle.std.proofs.result.Result.TheSendSync as result
use Rattle.iso_floor.proofs.Sharing.{floor_shared, seat_sent}
use Rattle.iso_floor.proofs.fault.SeatFault.TheSendSync as fault
use Rattle.iso_library_sample.proofs.runner.Failures.TheSendSync as failures
use Rattle.iso_library_sample.proofs.runner.work_all.Goals as goal

-- what a closure takes along may be shared where each part of it may
three : (ν : Sym) (A B C : RattleType) → IsSync A → IsSync B → IsSync C → IsSync (TupleAt ν (A ∷ B ∷ C ∷ []))
three ν A B C a b c = declared_sync (type_at ν (A ∷ B ∷ C ∷ [])) (as_row_sync (row_field A) a, (as_row_sync (row_field B) b, (as_row_sync (row_field C) c, tt)))

pub map_indices-requires-send-X : goal.map_indices-requires-send-X
map_indices-requires-send-X g c κs within = param_send _ _ (arg_send _ no _ (result.the_send _ _ (seat_sent _ (param 0 g.row.G) g.G.Ground c.type_bounds.send-G) fault.the_send))

pub map_indices-requires-sync-F : goal.map_indices-requires-sync-F
map_indices-requires-sync-F g c κs within =
    let sent = c.type_bounds.send-G in
    param_sync _ _ (arg_sync _ no _ (three _ _ _ _ (shr_sync _ _ _ c.type_bounds.sync-R) (shr_sync _ _ _ (floor_shared _ (param 0 g.row.G) g.G.Ground sent)) (shr_sync _ _ _ failures.the_sync)))
