-- Never stuck: while a node but the root is unfinished, an event is accepted.
--
-- never stuck: In every state that a run reaches an event is accepted while a node but the root is
-- unfinished (`NeverStuck`); what a search may rely on (`SearchServes`), and what the candidate is
-- (`CandidateServes`).
use Rattle.std.specs.Prelude.{◌≡◌, ℕ, ◌<◌, true, false, List, Some, None}
use Rattle.iso_isolation.specs.Languages.{Language}
use Rattle.iso_isolation.specs.Suites.{Suite}
use Rattle.iso_isolation.specs.States.{State, first}
use Rattle.iso_isolation.specs.Events.{Event}
use Rattle.iso_isolation.specs.Runs.{is_accepted, is_run, after_all_of, is_complete}
use Rattle.iso_progress.specs.Candidates.{NoneAtWork, is_at_work, going_on, may_be_shut, may_be_entered, shut_by_owner, entered_by_owner, candidate}

module _ {H K V B F R : Type 0} (l : Language H K V B F R) (x : Suite H K V) where
  -- a state that a run on some number of workers, at least one, gives
  pub record IsReached (workers : ℕ) (s : State K V B F R) : Type 0 where
    pub manned : 0 < workers
    pub events : List Event
    pub run : is_run l x workers (first l x) events ≡ true
    pub state : after_all_of l x (first l x) events ≡ s

  -- some event is accepted in a state
  pub record Accepts (workers : ℕ) (s : State K V B F R) : Type 0 where
    pub event : Event
    pub accepted : is_accepted l x workers s event ≡ true

  -- no event is accepted in a state
  abbrev pub IsStuck : ℕ → State K V B F R → Type 0
  IsStuck workers s = (e : Event) → is_accepted l x workers s e ≡ false

  -- In every state that a run reaches, an event is accepted while a node but the root is
  -- unfinished.
  abbrev pub NeverStuck : Type 0
  NeverStuck = (workers : ℕ) (s : State K V B F R) → IsReached workers s → is_complete x s ≡ false
      → Accepts workers s

  -- What a search may rely on in a state: each event that it finds is accepted, those of nodes
  -- where no worker has a body; and where it finds none, all nodes but the root are finished.
  pub record SearchServes (workers : ℕ) (s : State K V B F R) : Type 0 where
    pub body : (w : ℕ) → w < workers → is_at_work l x workers s w ≡ true
        → is_accepted l x workers s (going_on l x workers s w) ≡ true
    pub shut : (n : ℕ) → n < x.nodes → NoneAtWork l x workers s → may_be_shut l x workers s n ≡ true
        → is_accepted l x workers s (shut_by_owner l x workers s n) ≡ true
    pub enter : (n : ℕ) → n < x.nodes → NoneAtWork l x workers s
        → may_be_entered l x workers s n ≡ true
        → is_accepted l x workers s (entered_by_owner l x workers s n) ≡ true
    pub none : NoneAtWork l x workers s
        → ((n : ℕ) → n < x.nodes → may_be_shut l x workers s n ≡ false)
        → ((n : ℕ) → n < x.nodes → may_be_entered l x workers s n ≡ false) → is_complete x s ≡ true

  -- The candidate is accepted, and there is one exactly while a node but the root is unfinished.
  pub record CandidateServes (workers : ℕ) (s : State K V B F R) : Type 0 where
    pub accepted : (e : Event) → candidate l x workers s ≡ Some e
        → is_accepted l x workers s e ≡ true
    pub none : candidate l x workers s ≡ None → is_complete x s ≡ true
    pub complete : is_complete x s ≡ true → candidate l x workers s ≡ None
