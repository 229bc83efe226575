-- Histories: what a run is by its Enters, Leaves and Shuts alone. For running workers, whose steps
-- stand in no list.
--
-- history: A list of Enters, Leaves and Shuts that in full is a run (`IsHistory`, `state_of`); how
-- it goes on (`GoesOn`); where each key stands after it: as the innermost unfinished class left it
-- that may change it and whose `before_all` was left, or at its start (`last_opened`,
-- `standing_value`), and whether an unfinished node takes it for READ_WRITE (`is_being_written`);
-- two runs with one history (`SameHistory`). That bodies end is a law of its own (`EndLaws`).
use Rattle.std.specs.Prelude.{◌≡◌, ℕ, zero, suc, ◌<◌, Bool, true, false, cond, ◌&&◌, List, [], ◌∷◌, ◌++◌, Option, Some, None, is_some}
use Rattle.iso_isolation.specs.Languages.{Content, Language}
use Rattle.iso_isolation.specs.Suites.{Suite, chain, may_write}
use Rattle.iso_isolation.specs.Alone.{opening}
use Rattle.iso_isolation.specs.States.{State, is_held, frames_in, first}
use Rattle.iso_isolation.specs.Events.{Event, Enter, Step, Leave, Shut, where_some}
use Rattle.iso_isolation.specs.Refusals.{any_below}
use Rattle.iso_isolation.specs.Runs.{is_run, after_all_of, with_steps, full, history_of}

-- Bodies end: those that a run has, which are ready, come nearer to their end by each step.
pub record EndLaws {H K V B F R : Type 0} (l : Language H K V B F R) : Type 0 where
  pub is_ready : B → Bool
  pub begins : (hs : List H) (fs : List F) → is_ready (l.begin hs fs) ≡ true
  pub begins_closing : (hs : List H) (fs : List F) → is_ready (l.begin_closing hs fs) ≡ true
  pub steps : (hs : List H) (b : B) (m : Content K V) → is_ready b ≡ true
      → is_ready (l.step hs b m).body ≡ true
  pub nearer : (hs : List H) (b : B) (m : Content K V) → is_ready b ≡ true → l.ended b ≡ false
      → l.distance (l.step hs b m).body < l.distance b

-- whether no event of a list is a Step
abbrev pub has_no_step : List Event → Bool
has_no_step [] = true
has_no_step (Enter w n ∷ es) = has_no_step es
has_no_step (Step w ∷ es) = false
has_no_step (Leave w ∷ es) = has_no_step es
has_no_step (Shut w n ∷ es) = has_no_step es

-- the highest of the numbers below n that passes a test
abbrev pub highest_below : ℕ → (ℕ → Bool) → Option ℕ
highest_below zero test = None
highest_below (suc n) test = cond (test n) (Some n) (highest_below n test)

module _ {H K V B F R : Type 0} (l : Language H K V B F R) (x : Suite H K V) where
  -- the state that a history in full gives
  abbrev pub state_of : List Event → State K V B F R
  state_of h = after_all_of l x (first l x) (full l x (first l x) h)

  -- a list of Enters, Leaves and Shuts which in full is a run
  pub record IsHistory (workers : ℕ) (h : List Event) : Type 0 where
    pub no_step : has_no_step h ≡ true
    pub run : is_run l x workers (first l x) (full l x (first l x) h) ≡ true

  -- A history goes on by an event, and gives the state after it and the steps that are made before
  -- it.
  pub record GoesOn (workers : ℕ) (h : List Event) (e : Event) : Type 0 where
    pub history : IsHistory workers (h ++ e ∷ [])
    pub state : state_of (h ++ e ∷ []) ≡ after_all_of l x (state_of h)
        (with_steps l x (state_of h) e)

  -- Of the unfinished classes whose `before_all` was left and which may change a key, the
  -- innermost. They are nested in one another, so it has the highest number.
  abbrev pub last_opened : State K V B F R → K → Option ℕ
  last_opened s k =
      highest_below x.nodes (λ c. is_some (frames_in (s.nodes.status c)) && may_write l x c k)

  -- where a key stands between bodies: as the opening of that class left it, or at its start where
  -- there is none
  abbrev pub standing_value : State K V B F R → Content K V
  standing_value s k =
      where_some (last_opened s k) (x.start k) (λ c. (opening l (chain x c) x.start).content k)

  -- whether an unfinished node takes a key for READ_WRITE
  abbrev pub is_being_written : State K V B F R → K → Bool
  is_being_written s k = any_below x.nodes (λ n. is_held (s.nodes.status n) && x.takes_write n k)

  -- two runs with the same Enters, Leaves and Shuts in the same order, wherever their Steps stand
  pub record SameHistory (workers : ℕ) (es fs : List Event) : Type 0 where
    pub left : is_run l x workers (first l x) es ≡ true
    pub right : is_run l x workers (first l x) fs ≡ true
    pub same : history_of es ≡ history_of fs
