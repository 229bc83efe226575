use Rattle.iso_desk.specs.Crews.{HaveNothing}
use Rattle.iso_desk.proofs.crew.next_to_call.Given as goal

abbrev pub invariant-members : goal.invariant-members
invariant-members l = HaveNothing l.scene.table.now.places l.scene.held.now l.scene.written.now l.scene.is_over l.scene.is_loose l.scene.rounds l.members l.worker
