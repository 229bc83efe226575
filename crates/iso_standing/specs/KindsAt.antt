-- The kinds of refusal, at the plan and the workers of a standing.
use Rattle.std.specs.Prelude.{◌≡◌, ℕ, List, [], ◌∷◌, Option, Bool}
use Rattle.iso_suites.specs.ScriptLanguage.{Head, scripts}
use Rattle.iso_suites.specs.SuiteStates.{RunState, booking_refusal}
use Rattle.iso_standing.specs.Standings.{LooksLike, Standing, suite_in, workers_in}
use Rattle.iso_isolation.specs.Refusals as Why
use Rattle.iso_isolation.specs.Refusals.{Refused, first_of, refuse}
use Rattle.iso_isolation.specs.Suites.{Suite}
use Rattle.iso_model.specs.Resources.{Resources}
use Rattle.iso_model.specs.declared.resource.Resource.{Resource}

-- a kind of refusal, or what it looks for, at a standing's plan and workers
abbrev pub at : {A : Type 0} → Standing → Resources → RunState
    → (Suite Head (List ℕ) Resource → ℕ → RunState → A) → A
at v start s kind = kind (suite_in v start) (workers_in v) s

-- in every state that looks so, a kind of refusal applies to a node just where a test holds
abbrev pub Refuses : Standing → (Suite Head (List ℕ) Resource → ℕ → RunState → ℕ → Option Refused)
    → ℕ → Bool → Refused → Type 0
Refuses v kind n test why = (start : Resources) (s : RunState) → LooksLike v s → at v start s kind n
    ≡ refuse test why

module _ (v : Standing) (start : Resources) (s : RunState) where
  -- the kinds that Enter and Shut test first
  abbrev pub first_kinds : ℕ → ℕ → Option Refused
  first_kinds w n =
      first_of (at v start s (Why.stopped scripts) ∷ at v start s (Why.no_worker scripts) w
      ∷ at v start s (Why.no_node scripts) n ∷ at v start s (Why.worker_busy scripts) w ∷ [])

  -- the kinds that Enter tests between those and locks, and those that Shut tests after them
  abbrev pub early_kinds : ℕ → ℕ → List (Option Refused)
  early_kinds w n =
      at v start s (Why.parent_closed scripts) n ∷ at v start s (Why.already_entered scripts) n
      ∷ at v start s (Why.not_owner_of_parent scripts) w n
      ∷ at v start s (Why.earlier_sibling scripts) n ∷ []

  abbrev pub shut_kinds : ℕ → ℕ → List (Option Refused)
  shut_kinds w n =
      at v start s (Why.not_class scripts) n ∷ at v start s (Why.not_open scripts) n
      ∷ at v start s (Why.not_owner scripts) w n ∷ at v start s (Why.children_left scripts) n ∷ []

  -- the kinds that a Leave tests but for the end of the body
  abbrev pub booking_kinds : ℕ → Option Refused
  booking_kinds w = booking_refusal (suite_in v start) (workers_in v) s w

  -- the kinds that an Enter tests before locks: the first that applies
  abbrev pub before_locks : ℕ → ℕ → Option Refused
  before_locks w n =
      first_of (at v start s (Why.stopped scripts) ∷ at v start s (Why.no_worker scripts) w
      ∷ at v start s (Why.no_node scripts) n
      ∷ at v start s (Why.worker_busy scripts) w ∷ early_kinds w n)
