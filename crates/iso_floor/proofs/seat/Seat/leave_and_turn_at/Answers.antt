use Rattle.iso_floor.proofs.seat.Seat.leave_and_turn_at.Goals as goal

pub returns : goal.returns
returns g c = record { left = c.leave_or_halt_at.new.self; tray = c.in_ok-leave_or_halt_at.ensures; found = c.next_turn_at.ensures }
