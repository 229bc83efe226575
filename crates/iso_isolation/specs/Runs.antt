-- Runs: lists of events of which each is accepted in the state that the earlier ones give; and
-- histories.
--
-- legal run, full history: Each event is accepted in the state that the earlier ones give
-- (`is_run`); a history with the steps that each body still needs before its Leave (`full`).
use Rattle.std.specs.Prelude.{ℕ, zero, suc, Bool, true, cond, not, ◌&&◌, List, [], ◌∷◌, ◌++◌, replicate, Option, is_none}
use Rattle.iso_isolation.specs.Languages.{Content, Language}
use Rattle.iso_isolation.specs.Suites.{Suite, chain}
use Rattle.iso_isolation.specs.States.{State, is_finished, body_in, result_in}
use Rattle.iso_isolation.specs.Events.{Event, Enter, Step, Leave, Shut, where_some, after}
use Rattle.iso_isolation.specs.Refusals.{is_root, any_below, refusal}

module _ {H K V B F R : Type 0} (l : Language H K V B F R) (x : Suite H K V) (workers : ℕ) where
  -- whether an event is accepted: none of the kinds of refusal applies
  abbrev pub is_accepted : State K V B F R → Event → Bool
  is_accepted s e = is_none (refusal l x workers s e)

  -- whether a list of events is a run: each is accepted in the state that the earlier ones give
  abbrev pub is_run : State K V B F R → List Event → Bool
  is_run s [] = true
  is_run s (e ∷ es) = is_accepted s e && is_run (after l x s e) es

module _ {H K V B F R : Type 0} (l : Language H K V B F R) where
  -- how many steps a body still needs to end, where they are no more than this number
  abbrev pub steps_to_end : ℕ → List H → B → Content K V → ℕ
  steps_to_end zero hs b m = 0
  steps_to_end (suc most) hs b m =
      cond (l.ended b) 0 (let p = l.step hs b m in suc (steps_to_end most hs p.body p.content))

  abbrev pub steps_left : List H → B → Content K V → ℕ
  steps_left hs b m = steps_to_end (l.distance b) hs b m

module _ {H K V B F R : Type 0} (l : Language H K V B F R) (x : Suite H K V) where
  -- the state that a list of events gives
  abbrev pub after_all_of : State K V B F R → List Event → State K V B F R
  after_all_of s [] = s
  after_all_of s (e ∷ es) = after_all_of (after l x s e) es

  -- how many steps the body of a worker still needs
  abbrev pub steps_needed : State K V B F R → ℕ → ℕ
  steps_needed s w =
      where_some (s.busy w) 0 (λ n. where_some (body_in (s.nodes.status n)) 0
      (λ b. steps_left l (chain x n) b s.nodes.flat))

  -- an event of a history with the steps that are still to be made before it: before a Leave, those
  -- that the body needs
  abbrev pub with_steps : State K V B F R → Event → List Event
  with_steps s (Enter w n) = Enter w n ∷ []
  with_steps s (Step w) = Step w ∷ []
  with_steps s (Leave w) = replicate (steps_needed s w) (Step w) ++ Leave w ∷ []
  with_steps s (Shut w n) = Shut w n ∷ []

  -- a history of Enters, Leaves and Shuts, in full
  abbrev pub full : State K V B F R → List Event → List Event
  full s [] = []
  full s (e ∷ h) = with_steps s e ++ full (after_all_of s (with_steps s e)) h

-- the history of a list of events: all but the Steps
abbrev pub history_of : List Event → List Event
history_of [] = []
history_of (Step w ∷ es) = history_of es
history_of (Enter w n ∷ es) = Enter w n ∷ history_of es
history_of (Leave w ∷ es) = Leave w ∷ history_of es
history_of (Shut w n ∷ es) = Shut w n ∷ history_of es

-- the result of a node, if it is finished
abbrev pub result_of : {K V B F R : Type 0} → State K V B F R → ℕ → Option R
result_of s n = result_in (s.nodes.status n)

-- whether every node but the root is finished
abbrev pub is_complete : {H K V B F R : Type 0} → Suite H K V → State K V B F R → Bool
is_complete x s =
    not (any_below x.nodes (λ n. not (is_root n) && not (is_finished (s.nodes.status n))))
