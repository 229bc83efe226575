-- A run by worker 0 alone, node by node in the order in which they are written: what is so between
-- two nodes.
use Rattle.std.specs.Prelude.{◌≡◌, ℕ, ◌<◌, List, None, Bool, true, cond}
use Rattle.iso_isolation.specs.States.{is_held}
use Rattle.iso_isolation.specs.Suites.{On, Suite}
use Rattle.iso_model.specs.declared.resource.Resource.{Resource}
use Rattle.iso_standing.specs.Phases.{phase_of}
use Rattle.iso_standing.specs.declared.phase.Phase.{Phase}
use Rattle.iso_standing.specs.declared.phase.Phase.TheVariants.{Waiting, Open, Barred, Finished}
use Rattle.iso_suites.specs.ScriptLanguage.{Head}
use Rattle.iso_suites.specs.SuiteStates.{RunState}

-- the phase of a node
abbrev pub phase_in : RunState → ℕ → Phase
phase_in s n = phase_of (s.nodes.status n)

-- a class is open or barred, and so what waits in it, or is finished
abbrev pub rest_of : Bool → Phase
rest_of well = cond well Open Barred

abbrev pub left_in : Bool → Phase
left_in well = cond well Waiting Finished

module _ (x : Suite Head (List ℕ) Resource) where
  -- Between two nodes of a class no worker has a body, worker 0 owns every node, and only that
  -- class and those around it are entered and unfinished.
  pub record BetweenNodes (c : ℕ) (s : RunState) : Type 0 where
    pub free : (w : ℕ) → s.busy w ≡ None
    pub owned : (n : ℕ) → s.owner n ≡ 0
    pub held : (n : ℕ) → is_held (s.nodes.status n) ≡ true → On x n c

  -- a node comes next in an open class: it and its descendants wait, and what is written
  -- before it in the class is finished
  pub record ComesNext (n : ℕ) (s : RunState) : Type 0 where
    pub opened : phase_in s (x.parent n) ≡ Open
    pub waits : (m : ℕ) → On x n m → phase_in s m ≡ Waiting
    pub earlier : (m : ℕ) → 0 < m → m < n → x.parent m ≡ x.parent n → phase_in s m ≡ Finished

  -- a node and its descendants are finished, and no other node has changed
  pub record IsDone (n : ℕ) (s t : RunState) : Type 0 where
    pub done : (m : ℕ) → m < x.nodes → On x n m → phase_in t m ≡ Finished
    pub others : (m : ℕ) → (On x n m → ⊥) → phase_in t m ≡ phase_in s m

  -- a class is open, and its descendants wait; or it is barred, and they are finished; no
  -- other node has changed
  pub record IsOpened (n : ℕ) (s t : RunState) : Type 0 where
    pub well : Bool
    pub here : phase_in t n ≡ rest_of well
    pub inside : (m : ℕ) → (m ≡ n → ⊥) → On x n m → phase_in t m ≡ left_in well
    pub others : (m : ℕ) → (On x n m → ⊥) → phase_in t m ≡ phase_in s m
