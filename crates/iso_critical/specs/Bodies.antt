-- The bodies of a run, by their places: each node has two, of which the second is that of a class's
-- `after_all`.
--
-- critical bodies: The bodies of a run, those that ended last first (`ran`, `latest_first`);
-- whether one had to end before another (`had_to_end`, `ended_by`), because that one needs it
-- (`is_needed`, `lets_in`, `last_holder`) or comes after it on its worker; of those the one that
-- ended last (`previous`); and the way back from the end of the run, one after another
-- (`critical`). Whether a node's body is on it (`is_among`).
-- Also in: `Needs`, `Critical`.
use Rattle.std.specs.Prelude.{ℕ, ◌<◌, ◌*◌, ◌/◌, ◌%◌, List, Option, None, Bool, ◌&&◌, ◌==◌, is_some, map, not, slice_index_or, unwrap_or}
use Rattle.std.specs.Option.{option_map}
use Rattle.iso_critical.specs.declared.body.Body.{Body}
use Rattle.iso_durations.specs.Orders.{slowest_first}
use Rattle.iso_plan.specs.Paths.{is_root}
use Rattle.iso_plan.specs.KeptNodes.{those_below}
use Rattle.iso_plan.specs.Tree.{Row}
use Rattle.iso_settings.specs.declared.settings.Settings.{Settings}
use Rattle.iso_times.specs.Tables.{first_begin, since}
use Rattle.iso_times.specs.declared.times.BodyTime.{BodyTime}

-- a run: the tree of its plan and its settings, the times of its bodies, and by its number whom
-- each node waited for last
pub record Run : Type 0 where
  pub tree : List Row
  pub settings : Settings
  pub bodies : List (Option BodyTime)
  pub holders : List (Option ℕ)

-- the time of the body with a place, counted from the first begin of all
abbrev pub time_at : List (Option BodyTime) → ℕ → Option BodyTime
time_at bodies i = option_map (since (first_begin bodies)) (slice_index_or bodies i None)

-- the time of a body that has none
abbrev pub no_time : BodyTime
no_time = record { worker = 0; begin = 0; end = 0 }

-- the body with a place
abbrev pub body_at : List (Option BodyTime) → ℕ → Body
body_at bodies i = record {
  place = i;
  node = i / 2;
  closes = i % 2 == 1;
  time = unwrap_or (time_at bodies i) no_time;
}

-- when it ended
abbrev pub end_at : List (Option BodyTime) → ℕ → ℕ
end_at bodies i = (body_at bodies i).time.end

-- whether there is such a body: it has a time, and the root has none
abbrev pub has_run : List (Option BodyTime) → ℕ → Bool
has_run bodies i = not (is_root (i / 2)) && is_some (time_at bodies i)

-- the places of the bodies of `nodes` nodes
abbrev pub ran : List (Option BodyTime) → (nodes : ℕ) → List ℕ
ran bodies nodes = those_below (has_run bodies) (2 * nodes)

-- those bodies: the ones that ended last first, and of those that ended together the one with the
-- lower place first
abbrev pub latest_first : List (Option BodyTime) → (nodes : ℕ) → List Body
latest_first bodies nodes = map (body_at bodies) (slowest_first (end_at bodies) (ran bodies nodes))

-- it is a body of one of `nodes` nodes, of which the first has none
pub record IsWithin (nodes : ℕ) (b : Body) : Type 0 where
  pub above : 0 < b.node
  pub node : b.node < nodes
  pub place : b.place < 2 * nodes
