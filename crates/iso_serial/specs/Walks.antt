-- A run depth first: how its vault, its tray and its results stand between two nodes, and at a
-- node's entry and exit.
--
-- a serial run between two nodes: What holds of vault, tray and results between two nodes
-- (`BetweenNodes`): the nodes on the path are lent, what they take for READ_WRITE is away
-- (`IsLentAlong`, `AreAwayAlong`), and all stands as the opening has left it. That values were only
-- changed further and results stay (`GoesFurther`). When a node was lent (`AtEntry`) and when it
-- has its result (`AtExit`), which no public clause cites.
use Rattle.std.specs.Prelude.{◌≡◌, ℕ, ◌<◌, List, Bool, true, false, length, slice_index_or}
use Rattle.iso_lifecycle.specs.ResultViews.{AreOpen, AreOpened, CanPut, ResultsView, has_result, is_ended, is_opened}
use Rattle.iso_lifecycle.specs.Subjects.{opening_of, subject}
use Rattle.iso_lifecycle.specs.WholeBodies.{CanBegin, IsReadyFor}
use Rattle.iso_lifecycle.specs.declared.kind.BodyKind.{BodyKind}
use Rattle.iso_lifecycle.specs.declared.kind.BodyKind.TheVariants.{BeforeAll, Test, AfterAll}
use Rattle.iso_locks.specs.Trays.{GoesOn, content, frames_on, has_value}
use Rattle.iso_locks.specs.Vaults.{VaultView, is_home}
use Rattle.iso_plan.specs.KeyTable.{keys}
use Rattle.iso_plan.specs.Paths.{IsTree, children, is_under, parent, path}
use Rattle.iso_plan.specs.Planned.{Planned}
use Rattle.iso_plan.specs.RowView.{tree_of}
use Rattle.iso_plan.specs.Tree.{Row}
use Rattle.iso_settings.specs.Worlds.{Start}
use Rattle.iso_serial.specs.OpenedTrays.{AreLentAlong, IsWrittenOn, StandsApart, StandsAsOpened}
use Rattle.iso_serial.specs.declared.run.Walk.{Walk}

-- exactly the values that some node on the path of p takes for READ_WRITE are away
pub record AreAwayAlong (plan : Planned) (p : ℕ) (home : List Bool) : Type 0 where
  pub fits : length home ≡ length (keys (tree_of plan))
  pub away : (i : ℕ) → IsWrittenOn (tree_of plan) p i → is_home home i ≡ false
  pub only : (i : ℕ) → i < length (keys (tree_of plan)) → is_home home i ≡ false
      → IsWrittenOn (tree_of plan) p i

-- exactly the nodes on the path of p are lent from a vault, and what they take for READ_WRITE is
-- away
pub record IsLentAlong (plan : Planned) (world : Start) (p : ℕ) (v : VaultView) : Type 0 where
  pub plan_is : v.plan ≡ plan
  pub world_is : v.world ≡ world
  pub lent : AreLentAlong plan p v.lent
  pub home : AreAwayAlong plan p v.home

-- The results while the nodes on the path of p are under way: their `before_all`s were put and not
-- their ends, the enclosing classes of p were opened well, each other opened class has ended, and
-- the descendants of an ended class have results.
pub record AreResultsAlong (plan : Planned) (world : Start) (p : ℕ) (v : ResultsView) : Type 0 where
  pub plan_is : v.plan ≡ plan
  pub start_is : v.start ≡ world
  pub opened_fit : length v.opened ≡ length v.plan.rows
  pub ended_fit : length v.ended ≡ length v.plan.rows
  pub enclosed : AreOpen v (path (tree_of v.plan) (parent (tree_of v.plan) p))
  pub opened : 0 < p → is_opened v p ≡ true
  pub going : (m : ℕ) → is_under (tree_of v.plan) m p ≡ true → is_ended v m ≡ false
  pub others : (m : ℕ) → is_opened v m ≡ true → is_under (tree_of v.plan) m p ≡ false
      → is_ended v m ≡ true
  pub closed : (m : ℕ) → 0 < m → m < length v.plan.rows → is_ended v (parent (tree_of v.plan) m)
      ≡ true → has_result v m ≡ true

-- the enclosing classes of p were opened well, and p itself is a class or the root
pub record IsEntered (plan : Planned) (world : Start) (p : ℕ) : Type 0 where
  pub tree : IsTree (tree_of plan)
  pub within : p < length plan.rows
  pub well : (opening_of (subject plan world (parent (tree_of plan) p))).well ≡ true

-- between two children of p: the nodes on p's path are lent, and all stands as p's
-- opening has left it
pub record BetweenNodes (plan : Planned) (world : Start) (p : ℕ) (w : Walk) : Type 0 where
  pub entered : IsEntered plan world p
  pub vault : IsLentAlong plan world p w.vault
  pub lent : AreLentAlong plan p w.tray.lent
  pub tray : StandsAsOpened plan world p p w.tray
  pub results : AreResultsAlong plan world p w.results

-- n was lent, and has no result yet
pub record AtEntry (plan : Planned) (world : Start) (n : ℕ) (w : Walk) : Type 0 where
  pub tree : IsTree (tree_of plan)
  pub positive : 0 < n
  pub within : n < length plan.rows
  pub well : (opening_of (subject plan world (parent (tree_of plan) n))).well ≡ true
  pub vault : IsLentAlong plan world n w.vault
  pub lent : AreLentAlong plan n w.tray.lent
  pub tray : StandsAsOpened plan world n (parent (tree_of plan) n) w.tray
  pub results : AreResultsAlong plan world (parent (tree_of plan) n) w.results
  pub waits : has_result w.results n ≡ false

-- n is lent still, and has its result
pub record AtExit (plan : Planned) (world : Start) (n : ℕ) (w : Walk) : Type 0 where
  pub vault : IsLentAlong plan world n w.vault
  pub lent : AreLentAlong plan n w.tray.lent
  pub tray : StandsApart plan world n w.tray
  pub results : AreResultsAlong plan world (parent (tree_of plan) n) w.results
  pub done : has_result w.results n ≡ true

-- from one state of a run to a later one: values in the tray were only changed further, and each
-- result stays
pub record GoesFurther (old new : Walk) : Type 0 where
  pub tray : GoesOn old.tray new.tray
  pub results : (m : ℕ) → has_result old.results m ≡ true → has_result new.results m ≡ true

-- the innermost class whose frame a body of n begins with: the parent of n, and for an
-- `after_all` n itself
abbrev pub innermost : List Row → BodyKind → ℕ → ℕ
innermost tree BeforeAll n = parent tree n
innermost tree Test n = parent tree n
innermost tree AfterAll n = n

-- a body of n can be done: the frames that it begins with are there, its keys stand as the openings
-- before it left them, and its end can be put
pub record CanPerform (plan : Planned) (world : Start) (kind : BodyKind) (n : ℕ)
    (w : Walk) : Type 0 where
  pub tray : w.tray.plan ≡ plan
  pub start : w.tray.world ≡ world
  pub opened : AreOpened w.results (path (tree_of plan) (innermost (tree_of plan) kind n))
  pub begins : CanBegin (subject plan world n) kind
      (frames_on w.results (innermost (tree_of plan) kind n))
  pub ready : IsReadyFor (subject plan world n) kind (content w.tray) (has_value w.tray)
  pub put : CanPut (record { subject = subject plan world n; kind = kind }) w.results

-- all that stands directly in p has results
abbrev pub AreDone : Planned → ℕ → ResultsView → Type 0
AreDone plan p v = (i : ℕ) → i < length (children (tree_of plan) p)
    → has_result v (slice_index_or (children (tree_of plan) p) i 0) ≡ true
