-- How far a node has come: the phase of a status.
use Rattle.iso_isolation.specs.States as S
use Rattle.iso_isolation.specs.States.{Status}
use Rattle.std.specs.Prelude.{[]}
use Rattle.iso_standing.specs.declared.phase.Phase.{Phase}
use Rattle.iso_standing.specs.declared.phase.Phase.TheVariants.{Waiting, Begun, Open, Barred, Closing, Finished}

-- the phase of a status
abbrev pub phase_of : {B F R : Type 0} → Status B F R → Phase
phase_of S.Waiting = Waiting
phase_of (S.Begun b) = Begun
phase_of (S.Open fs) = Open
phase_of (S.Barred fs) = Barred
phase_of (S.Closing fs b) = Closing
phase_of (S.Finished r) = Finished

-- a status without a body, frames and a result
abbrev pub BareStatus : Type 0
BareStatus = Status (Unit {0}) (Unit {0}) (Unit {0})

-- the bare status of a phase: what a status tells but for these
abbrev pub bare : Phase → BareStatus
bare Waiting = S.Waiting
bare Begun = S.Begun tt
bare Open = S.Open []
bare Barred = S.Barred []
bare Closing = S.Closing [] tt
bare Finished = S.Finished tt
