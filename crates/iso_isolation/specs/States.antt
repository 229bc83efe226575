-- The state of a run.
--
-- state of a run: One flat map; the status of each node (waiting, first body begun, open, barred,
-- closing, finished), its owner, the values at its Enter; the node of each worker's body; whether
-- the run was stopped (`State`).
use Rattle.std.specs.Prelude.{ℕ, Bool, true, false, cond, eqb, List, [], Option, Some, None}
use Rattle.iso_isolation.specs.Languages.{Content, Language}
use Rattle.iso_isolation.specs.Suites.{Suite}

-- A node waits; its first body is under way, a class's `before_all` or a whole test; a class is
-- open, or barred where `before_all` didn't end well; its `after_all` is under way; it is finished.
-- An entered class has its frame and those of the classes around it.
pub data Status (B F R : Type 0) : Type 0 where
  Waiting : Status B F R
  Begun : B → Status B F R
  Open : List F → Status B F R
  Barred : List F → Status B F R
  Closing : List F → B → Status B F R
  Finished : R → Status B F R

module _ {B F R : Type 0} where
  abbrev pub is_waiting : Status B F R → Bool
  is_waiting Waiting = true
  is_waiting (Begun b) = false
  is_waiting (Open fs) = false
  is_waiting (Barred fs) = false
  is_waiting (Closing fs b) = false
  is_waiting (Finished r) = false

  abbrev pub is_open : Status B F R → Bool
  is_open Waiting = false
  is_open (Begun b) = false
  is_open (Open fs) = true
  is_open (Barred fs) = false
  is_open (Closing fs b) = false
  is_open (Finished r) = false

  abbrev pub is_barred : Status B F R → Bool
  is_barred Waiting = false
  is_barred (Begun b) = false
  is_barred (Open fs) = false
  is_barred (Barred fs) = true
  is_barred (Closing fs b) = false
  is_barred (Finished r) = false

  abbrev pub is_closing : Status B F R → Bool
  is_closing Waiting = false
  is_closing (Begun b) = false
  is_closing (Open fs) = false
  is_closing (Barred fs) = false
  is_closing (Closing fs b) = true
  is_closing (Finished r) = false

  abbrev pub is_finished : Status B F R → Bool
  is_finished Waiting = false
  is_finished (Begun b) = false
  is_finished (Open fs) = false
  is_finished (Barred fs) = false
  is_finished (Closing fs b) = false
  is_finished (Finished r) = true

  -- a class between its two bodies
  abbrev pub is_at_rest : Status B F R → Bool
  is_at_rest Waiting = false
  is_at_rest (Begun b) = false
  is_at_rest (Open fs) = true
  is_at_rest (Barred fs) = true
  is_at_rest (Closing fs b) = false
  is_at_rest (Finished r) = false

  -- entered and not finished: the node holds its locks; the root is open from the start, and has
  -- none
  abbrev pub is_held : Status B F R → Bool
  is_held Waiting = false
  is_held (Begun b) = true
  is_held (Open fs) = true
  is_held (Barred fs) = true
  is_held (Closing fs b) = true
  is_held (Finished r) = false

  -- the body that is under way
  abbrev pub body_in : Status B F R → Option B
  body_in Waiting = None
  body_in (Begun b) = Some b
  body_in (Open fs) = None
  body_in (Barred fs) = None
  body_in (Closing fs b) = Some b
  body_in (Finished r) = None

  -- the same with another body
  abbrev pub with_body : Status B F R → B → Status B F R
  with_body Waiting c = Waiting
  with_body (Begun b) c = Begun c
  with_body (Open fs) c = Open fs
  with_body (Barred fs) c = Barred fs
  with_body (Closing fs b) c = Closing fs c
  with_body (Finished r) c = Finished r

  -- the frames of an unfinished class whose `before_all` was left
  abbrev pub frames_in : Status B F R → Option (List F)
  frames_in Waiting = None
  frames_in (Begun b) = None
  frames_in (Open fs) = Some fs
  frames_in (Barred fs) = Some fs
  frames_in (Closing fs b) = Some fs
  frames_in (Finished r) = None

  abbrev pub result_in : Status B F R → Option R
  result_in Waiting = None
  result_in (Begun b) = None
  result_in (Open fs) = None
  result_in (Barred fs) = None
  result_in (Closing fs b) = None
  result_in (Finished r) = Some r

-- all resources in one flat map; the status of each node; and of each entered node, until it is
-- finished, the values at its Enter of the keys that it may change
pub record Nodes (K V B F R : Type 0) : Type 0 where
  pub flat : Content K V
  pub status : ℕ → Status B F R
  pub saved : ℕ → Content K V

-- besides, the owner of each node, the worker that entered it; the node of each worker's body, if
-- it has one; and whether the run was stopped
pub record State (K V B F R : Type 0) : Type 0 where
  pub nodes : Nodes K V B F R
  pub owner : ℕ → ℕ
  pub busy : ℕ → Option ℕ
  pub stopped : Bool

-- a function with one place changed
abbrev pub put : {A : Type 0} → ℕ → A → (ℕ → A) → ℕ → A
put n a f m = cond (eqb m n) a (f m)

-- no value at any key
abbrev pub nothing : {K V : Type 0} → Content K V
nothing k = None

-- the first state: the root is open and worker 0 owns it, all other nodes wait
abbrev pub first : {H K V B F R : Type 0} → Language H K V B F R → Suite H K V → State K V B F R
first l x = record {
  nodes = record { flat = x.start; status = put 0 (Open []) (λ n. Waiting); saved = λ n. nothing };
  owner = λ n. 0;
  busy = λ w. None;
  stopped = false;
}
