-- The events by which a run may go on, as a search over workers and nodes finds them.
--
-- candidate: The event that a search finds: the lowest worker's body goes on by a Leave or a Step;
-- else the lowest class that is barred, or open with all children finished, is shut by its owner;
-- else the lowest node that waits in an open class with nothing in its way is entered by that
-- class's owner (`candidate`).
use Rattle.std.specs.Prelude.{◌≡◌, ℕ, ◌<◌, Bool, false, cond, not, ◌&&◌, Option, None, is_some, is_none}
use Rattle.std.specs.Option.{option_or, option_map}
use Rattle.iso_isolation.specs.Languages.{Language}
use Rattle.iso_isolation.specs.Suites.{Suite}
use Rattle.iso_isolation.specs.States.{State, is_waiting, is_open, is_at_rest}
use Rattle.iso_isolation.specs.Events.{Event, Enter, Step, Leave, Shut, where_some}
use Rattle.iso_isolation.specs.Refusals.{is_root, lowest_below, body_of, has_unfinished_sibling, has_unfinished_child, lock_held}

module _ {H K V B F R : Type 0} (l : Language H K V B F R) (x : Suite H K V) (workers : ℕ)
    (s : State K V B F R) where
  -- a worker has a body
  abbrev pub is_at_work : ℕ → Bool
  is_at_work w = is_some (body_of l x workers s w)

  -- no worker has one
  abbrev pub NoneAtWork : Type 0
  NoneAtWork = (w : ℕ) → w < workers → is_at_work w ≡ false

  -- how a worker's body goes on: by a Leave where it has ended, else by a Step
  abbrev pub going_on : ℕ → Event
  going_on w = cond (where_some (body_of l x workers s w) false l.ended) (Leave w) (Step w)

  -- a class is barred, or it is open and all its children are finished
  abbrev pub may_be_shut : ℕ → Bool
  may_be_shut n =
      let status = s.nodes.status n in
      not (is_root n) && is_at_rest status
      && not (is_open status && has_unfinished_child l x workers s n)

  -- a node waits in an open class, and neither an earlier sibling nor a lock is in its way
  abbrev pub may_be_entered : ℕ → Bool
  may_be_entered n =
      not (is_root n) && is_waiting (s.nodes.status n) && is_open (s.nodes.status (x.parent n))
      && not (x.is_same_thread n && has_unfinished_sibling l x workers s n)
      && is_none (lock_held l x workers s n)

  -- a class is shut by its owner, and a node is entered by the owner of its parent
  abbrev pub shut_by_owner : ℕ → Event
  shut_by_owner n = Shut (s.owner n) n

  abbrev pub entered_by_owner : ℕ → Event
  entered_by_owner n = Enter (s.owner (x.parent n)) n

  -- The candidate: the lowest worker's body goes on; where none has one, the lowest class that may
  -- be shut is shut; where there is none, the lowest node that may be entered is entered. None
  -- after a stop.
  abbrev pub candidate : Option Event
  candidate =
      cond s.stopped None
      (option_or (option_map going_on (lowest_below workers is_at_work))
      (option_or (option_map shut_by_owner (lowest_below x.nodes may_be_shut))
      (option_map entered_by_owner (lowest_below x.nodes may_be_entered))))
