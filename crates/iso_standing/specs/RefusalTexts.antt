-- How the kinds of refusal are called, and how they show.
--
-- a refusal's text: How each kind of refusal shows: its name, and the node where it names one
-- (`refused_text`); and how a fault of an event does (`fault_text`).
-- Also in: `FaultTexts`.
use Rattle.std.specs.Prelude.{ℕ, List, [], ◌∷◌, ◌++◌, Option, Some, None, codes, decimal}
use Rattle.iso_standing.specs.declared.refused.Refused.{Refused}
use Rattle.iso_standing.specs.declared.refused.Refused.TheVariants.{Stopped, NoWorker, NoNode, WorkerBusy, ParentClosed, AlreadyEntered, NotOwner, EarlierSibling, LockHeld, NoBody, BodyEnded, BodyNotEnded, ChildrenLeft, NotClass, NotOpen, OtherBody, Stranger}

-- how a kind is called
abbrev pub kind_name : Refused → List ℕ
kind_name Stopped = codes "Stopped"
kind_name NoWorker = codes "NoWorker"
kind_name NoNode = codes "NoNode"
kind_name WorkerBusy = codes "WorkerBusy"
kind_name ParentClosed = codes "ParentClosed"
kind_name AlreadyEntered = codes "AlreadyEntered"
kind_name NotOwner = codes "NotOwner"
kind_name EarlierSibling = codes "EarlierSibling"
kind_name (LockHeld node) = codes "LockHeld"
kind_name NoBody = codes "NoBody"
kind_name BodyEnded = codes "BodyEnded"
kind_name BodyNotEnded = codes "BodyNotEnded"
kind_name ChildrenLeft = codes "ChildrenLeft"
kind_name NotClass = codes "NotClass"
kind_name NotOpen = codes "NotOpen"
kind_name (OtherBody node) = codes "OtherBody"
kind_name Stranger = codes "Stranger"

-- the node that a kind names, if it names one
abbrev pub node_in : Refused → Option ℕ
node_in (LockHeld node) = Some node
node_in (OtherBody node) = Some node
node_in _ = None

-- a space and the node, where there is one
abbrev pub node_text : Option ℕ → List ℕ
node_text None = []
node_text (Some node) = 32 ∷ decimal node

-- it shows as its kind, and its node where it names one
abbrev pub refused_text : Refused → List ℕ
refused_text why = kind_name why ++ node_text (node_in why)
