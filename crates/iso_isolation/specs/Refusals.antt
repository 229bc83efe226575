-- Which events are refused: of the kinds of refusal, the first that applies.
--
-- refusal: Of the kinds that an event tests, in their order, the first that applies (`kinds`,
-- `refusal`); one definition a kind.
use Rattle.std.specs.Prelude.{ℕ, zero, suc, Bool, false, cond, not, eqb, leb, ◌&&◌, ◌||◌, List, [], ◌∷◌, Option, Some, None, is_some}
use Rattle.std.specs.Option.{option_or, option_map}
use Rattle.iso_isolation.specs.Languages.{Language}
use Rattle.iso_isolation.specs.Suites.{Suite}
use Rattle.iso_isolation.specs.States.{State, is_waiting, is_open, is_finished, is_at_rest, is_held, body_in}
use Rattle.iso_isolation.specs.Events.{Event, Enter, Step, Leave, Shut, where_some}

-- Why an event is refused. The last two are a book's, to which a worker brings the body that has
-- ended and the values that it holds: the body is of node m or of a kind that isn't the worker's,
-- and the values aren't those of the book. No event of a state tests them.
pub data Refused : Type 0 where
  Stopped : Refused
  NoWorker : Refused
  NoNode : Refused
  WorkerBusy : Refused
  ParentClosed : Refused
  AlreadyEntered : Refused
  NotOwner : Refused
  EarlierSibling : Refused
  LockHeld : (m : ℕ) → Refused
  NoBody : Refused
  BodyEnded : Refused
  BodyNotEnded : Refused
  ChildrenLeft : Refused
  NotClass : Refused
  NotOpen : Refused
  OtherBody : (m : ℕ) → Refused
  Stranger : Refused

abbrev pub refuse : Bool → Refused → Option Refused
refuse applies kind = cond applies (Some kind) None

abbrev pub is_root : ℕ → Bool
is_root n = eqb n 0

-- the lowest of the numbers below n that passes a test
abbrev pub lowest_below : ℕ → (ℕ → Bool) → Option ℕ
lowest_below zero test = None
lowest_below (suc n) test = option_or (lowest_below n test) (cond (test n) (Some n) None)

abbrev pub any_below : ℕ → (ℕ → Bool) → Bool
any_below n test = is_some (lowest_below n test)

-- the first of a list of kinds that applies
abbrev pub first_of : List (Option Refused) → Option Refused
first_of [] = None
first_of (kind ∷ kinds) = option_or kind (first_of kinds)

module _ {H K V B F R : Type 0} (l : Language H K V B F R) (x : Suite H K V) (workers : ℕ)
    (s : State K V B F R) where
  -- the body of a worker, if it has one
  abbrev pub body_of : ℕ → Option B
  body_of w = where_some (s.busy w) None (λ n. body_in (s.nodes.status n))

  -- the run was stopped
  abbrev pub stopped : Option Refused
  stopped = refuse s.stopped Stopped

  -- w isn't below the number of workers
  abbrev pub no_worker : ℕ → Option Refused
  no_worker w = refuse (leb workers w) NoWorker

  -- n isn't in the plan
  abbrev pub no_node : ℕ → Option Refused
  no_node n = refuse (leb x.nodes n) NoNode

  -- w has a body
  abbrev pub worker_busy : ℕ → Option Refused
  worker_busy w = refuse (is_some (body_of w)) WorkerBusy

  -- n isn't the root and its parent isn't open
  abbrev pub parent_closed : ℕ → Option Refused
  parent_closed n =
      refuse (not (is_root n) && not (is_open (s.nodes.status (x.parent n)))) ParentClosed

  -- n is the root or was entered before
  abbrev pub already_entered : ℕ → Option Refused
  already_entered n = refuse (is_root n || not (is_waiting (s.nodes.status n))) AlreadyEntered

  -- n is SAME_THREAD and w doesn't own its parent
  abbrev pub not_owner_of_parent : ℕ → ℕ → Option Refused
  not_owner_of_parent w n =
      refuse (x.is_same_thread n && not (eqb (s.owner (x.parent n)) w)) NotOwner

  -- whether m is a SAME_THREAD sibling of n that isn't finished
  abbrev pub is_unfinished_sibling : ℕ → ℕ → Bool
  is_unfinished_sibling n m =
      not (is_root m) && eqb (x.parent m) (x.parent n) && x.is_same_thread m
      && not (is_finished (s.nodes.status m))

  -- whether an earlier SAME_THREAD sibling of n isn't finished
  abbrev pub has_unfinished_sibling : ℕ → Bool
  has_unfinished_sibling n = any_below n (is_unfinished_sibling n)

  -- n is SAME_THREAD and an earlier SAME_THREAD sibling isn't finished
  abbrev pub earlier_sibling : ℕ → Option Refused
  earlier_sibling n = refuse (x.is_same_thread n && has_unfinished_sibling n) EarlierSibling

  -- m is the lowest entered, unfinished node that conflicts with n
  abbrev pub lock_held : ℕ → Option Refused
  lock_held n =
      option_map LockHeld (lowest_below x.nodes (λ m. is_held (s.nodes.status m) && x.conflict m n))

  -- w has no body
  abbrev pub no_body : ℕ → Option Refused
  no_body w = refuse (not (is_some (body_of w))) NoBody

  -- w's body has ended
  abbrev pub body_ended : ℕ → Option Refused
  body_ended w = refuse (where_some (body_of w) false l.ended) BodyEnded

  -- w's body hasn't ended
  abbrev pub body_not_ended : ℕ → Option Refused
  body_not_ended w = refuse (where_some (body_of w) false (λ b. not (l.ended b))) BodyNotEnded

  -- n is the root or a test
  abbrev pub not_class : ℕ → Option Refused
  not_class n = refuse (is_root n || l.is_test (x.head n)) NotClass

  -- n is neither open nor barred
  abbrev pub not_open : ℕ → Option Refused
  not_open n = refuse (not (is_at_rest (s.nodes.status n))) NotOpen

  -- w doesn't own n
  abbrev pub not_owner : ℕ → ℕ → Option Refused
  not_owner w n = refuse (not (eqb (s.owner n) w)) NotOwner

  -- whether m is a child of n that isn't finished
  abbrev pub is_unfinished_child : ℕ → ℕ → Bool
  is_unfinished_child n m =
      not (is_root m) && eqb (x.parent m) n && not (is_finished (s.nodes.status m))

  -- whether a child of n isn't finished
  abbrev pub has_unfinished_child : ℕ → Bool
  has_unfinished_child n = any_below x.nodes (is_unfinished_child n)

  -- n is open and a child isn't finished
  abbrev pub children_left : ℕ → Option Refused
  children_left n = refuse (is_open (s.nodes.status n) && has_unfinished_child n) ChildrenLeft

  -- the kinds that each event tests, in this order
  abbrev pub kinds : Event → List (Option Refused)
  kinds (Enter w n) =
      stopped ∷ no_worker w ∷ no_node n ∷ worker_busy w ∷ parent_closed n ∷ already_entered n
      ∷ not_owner_of_parent w n ∷ earlier_sibling n ∷ lock_held n ∷ []
  kinds (Step w) = stopped ∷ no_worker w ∷ no_body w ∷ body_ended w ∷ []
  kinds (Leave w) = stopped ∷ no_worker w ∷ no_body w ∷ body_not_ended w ∷ []
  kinds (Shut w n) =
      stopped ∷ no_worker w ∷ no_node n ∷ worker_busy w ∷ not_class n ∷ not_open n ∷ not_owner w n
      ∷ children_left n ∷ []

  -- why an event is refused, if it is: the first of its kinds that applies
  abbrev pub refusal : Event → Option Refused
  refusal e = first_of (kinds e)
