-- Which event of a run an event of the program stands for, whose it is, and what a refusal stands
-- for.
use Rattle.std.specs.Prelude.{ℕ, List, map}
use Rattle.iso_isolation.specs.Events as I
use Rattle.iso_isolation.specs.Refusals as Why
use Rattle.iso_standing.specs.declared.refused.Refused.{Refused}
use Rattle.iso_standing.specs.declared.refused.Refused.TheVariants.{Stopped, NoWorker, NoNode, WorkerBusy, ParentClosed, AlreadyEntered, NotOwner, EarlierSibling, LockHeld, NoBody, BodyEnded, BodyNotEnded, ChildrenLeft, NotClass, NotOpen, OtherBody, Stranger}
use Rattle.iso_standing.specs.declared.event.Event.{Event}
use Rattle.iso_standing.specs.declared.event.Event.TheVariants.{Enter, Step, Leave, Shut}

-- the event of the state machine that this one stands for
abbrev pub event_of : Event → I.Event
event_of (Enter worker node) = I.Enter worker node
event_of (Step worker) = I.Step worker
event_of (Leave worker) = I.Leave worker
event_of (Shut worker node) = I.Shut worker node

abbrev pub events_of : List Event → List I.Event
events_of es = map event_of es

-- the worker that an event is of
abbrev pub worker_of : Event → ℕ
worker_of (Enter worker node) = worker
worker_of (Step worker) = worker
worker_of (Leave worker) = worker
worker_of (Shut worker node) = worker

-- the refusal of the state machine that this one stands for
abbrev pub refused_of : Refused → Why.Refused
refused_of Stopped = Why.Stopped
refused_of NoWorker = Why.NoWorker
refused_of NoNode = Why.NoNode
refused_of WorkerBusy = Why.WorkerBusy
refused_of ParentClosed = Why.ParentClosed
refused_of AlreadyEntered = Why.AlreadyEntered
refused_of NotOwner = Why.NotOwner
refused_of EarlierSibling = Why.EarlierSibling
refused_of (LockHeld node) = Why.LockHeld node
refused_of NoBody = Why.NoBody
refused_of BodyEnded = Why.BodyEnded
refused_of BodyNotEnded = Why.BodyNotEnded
refused_of ChildrenLeft = Why.ChildrenLeft
refused_of NotClass = Why.NotClass
refused_of NotOpen = Why.NotOpen
refused_of (OtherBody node) = Why.OtherBody node
refused_of Stranger = Why.Stranger
