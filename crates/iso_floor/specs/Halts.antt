-- Why a worker goes on no further, and what it is told at its end.
use Rattle.iso_floor.specs.declared.halt.Halt.{Halt}
use Rattle.iso_floor.specs.declared.halt.Halt.TheVariants as H
use Rattle.iso_floor.specs.declared.work.Cause.{Cause}
use Rattle.iso_floor.specs.declared.work.Cause.TheVariants as C
use Rattle.iso_floor.specs.declared.refusal.Meaning.{Meaning}
use Rattle.iso_floor.specs.declared.refusal.Meaning.TheVariants as M
use Rattle.iso_standing.specs.declared.refused.CoreFault.{CoreFault}
use Rattle.iso_standing.specs.declared.refused.CoreFault.TheVariants as F
use Rattle.iso_standing.specs.declared.refused.Refused.{Refused}
use Rattle.iso_standing.specs.declared.refused.Refused.TheVariants as R

-- what a refusal of an event means to the worker that asked for it: only of three kinds it goes on
abbrev pub meaning_of : Refused → Meaning
meaning_of R.AlreadyEntered = M.Entered
meaning_of R.ChildrenLeft = M.TooEarly
meaning_of R.ParentClosed = M.Over
meaning_of R.Stopped = M.Never
meaning_of R.NoWorker = M.Never
meaning_of R.NoNode = M.Never
meaning_of R.WorkerBusy = M.Never
meaning_of R.NotOwner = M.Never
meaning_of R.EarlierSibling = M.Never
meaning_of (R.LockHeld node) = M.Never
meaning_of R.NoBody = M.Never
meaning_of R.BodyEnded = M.Never
meaning_of R.BodyNotEnded = M.Never
meaning_of R.NotClass = M.Never
meaning_of R.NotOpen = M.Never
meaning_of (R.OtherBody node) = M.Never
meaning_of R.Stranger = M.Never

-- why a worker goes on no further after a fault of the book: a refusal for good stops it
abbrev pub halt_of : CoreFault → Halt
halt_of (F.Refused why) = H.Stopped
halt_of F.OutOfMemory = H.OutOfMemory

-- the cause that a worker is told at its end, where it went on no further
abbrev pub cause_of : Halt → Cause
cause_of H.Stopped = C.Stopped
cause_of H.OutOfMemory = C.OutOfMemory
