-- How far the nodes of a book have come, and whose they are, after an event.
use Rattle.std.specs.Prelude.{◌≡◌, ◌≢◌, ◌<◌, ◌⊎◌, ℕ, Bool, true, false, length}
use Rattle.iso_book.specs.Books.{BookView, state_in, suite_in}
use Rattle.iso_isolation.specs.Events.{stands_in}
use Rattle.iso_isolation.specs.States.{is_at_rest, is_finished}
use Rattle.iso_lifecycle.specs.declared.kind.BodyKind.{BodyKind}
use Rattle.iso_lifecycle.specs.declared.kind.BodyKind.TheVariants.{AfterAll, BeforeAll, Test}
use Rattle.iso_standing.specs.Phases.{bare, phase_of}
use Rattle.iso_standing.specs.declared.phase.Phase.{Phase}
use Rattle.iso_standing.specs.declared.phase.Phase.TheVariants.{Barred, Begun, Closing, Finished, Open, Waiting}
use Rattle.iso_suites.specs.ScriptLanguage.{scripts}

-- how far a node of a book has come
abbrev pub phase_in : BookView → ℕ → Phase
phase_in b n = phase_of ((state_in b).nodes.status n)

-- the worker that entered a node of a book
abbrev pub owner_in : BookView → ℕ → ℕ
owner_in b n = (state_in b).owner n

-- each node that was entered but this one has come as far as before, and is the same worker's
pub record StayEntered (n : ℕ) (b c : BookView) : Type 0 where
  pub phases : (m : ℕ) → m < length b.plan.rows → m ≢ n → phase_in b m ≢ Waiting
      → phase_in c m ≡ phase_in b m
  pub owners : (m : ℕ) → m < length b.plan.rows → m ≢ n → phase_in b m ≢ Waiting
      → owner_in c m ≡ owner_in b m

-- each node that waited but this one waits
abbrev pub StayWaiting : ℕ → BookView → BookView → Type 0
StayWaiting n b c = (m : ℕ) → m < length b.plan.rows → m ≢ n → phase_in b m ≡ Waiting
    → phase_in c m ≡ Waiting

-- a node is finished without having been entered: it is a descendant of a class that was barred
pub record IsBarredIn (n : ℕ) (c : BookView) (m : ℕ) : Type 0 where
  pub finished : phase_in c m ≡ Finished
  pub inside : stands_in scripts (suite_in c) m n ≡ true
  pub barred : phase_in c n ≡ Barred

-- a worker has entered a node, whose first body is under way
pub record HasEntered (w n : ℕ) (b c : BookView) : Type 0 where
  pub phase : phase_in c n ≡ Begun
  pub owner : owner_in c n ≡ w
  pub others : StayEntered n b c
  pub waiting : StayWaiting n b c

-- a worker has shut a class of its own, whose `after_all` is under way
pub record HasShut (w n : ℕ) (b c : BookView) : Type 0 where
  pub phase : phase_in c n ≡ Closing
  pub owner : owner_in c n ≡ w
  pub others : StayEntered n b c
  pub waiting : StayWaiting n b c

-- whether a node has come so far when a body of it was left: after a `before_all` the class is open
-- or barred, after the last body of a node the node is finished
abbrev pub has_come : BodyKind → Phase → Bool
has_come BeforeAll p = is_at_rest (bare p)
has_come Test p = is_finished (bare p)
has_come AfterAll p = is_finished (bare p)

-- whether a body of a node is under way
abbrev pub is_under_way : Phase → Bool
is_under_way Waiting = false
is_under_way Begun = true
is_under_way Open = false
is_under_way Barred = false
is_under_way Closing = true
is_under_way Finished = false

-- a body of a node was left that was under way, and the node is the same worker's; before a
-- `before_all` was left, it was under way; what waited waits, unless it is a descendant of the node,
-- which was barred
pub record HasGoneOn (k : BodyKind) (n : ℕ) (b c : BookView) : Type 0 where
  pub within : n < length b.plan.rows
  pub going : is_under_way (phase_in b n) ≡ true
  pub before : k ≡ BeforeAll → phase_in b n ≡ Begun
  pub phase : has_come k (phase_in c n) ≡ true
  pub owner : owner_in c n ≡ owner_in b n
  pub others : StayEntered n b c
  pub waiting : (m : ℕ) → m < length b.plan.rows → m ≢ n → phase_in b m ≡ Waiting
      → (phase_in c m ≡ Waiting) ⊎ IsBarredIn n c m
