-- The suite that inputs are, and why they are none.
--
-- the suite of inputs: What bytes of scripts, settings and a world are, with the paths of what is
-- kept (`IsSuite`, `suite_tree`, `planned`); that something is so of the suite that they are
-- (`OfSuite`); why they are none: the first fault in the order settings, world, scripts in turn,
-- plan (`NoSuite`, `FirstUnread`).
use Rattle.std.specs.Prelude.{◌≡◌, ⊤, ℕ, ◌<◌, if◌then◌else◌, List, [], ◌∷◌, map, take, length, get_or, Option, None, Some, Ok, Err, IsOk, Bool, cond, is_none, ◌==◌, ◌&&◌}
use Rattle.std.specs.Borrow.{Bor}
use Rattle.std.specs.Option.{option_copied}
use Rattle.std.specs.Str.{is_utf8}
use Rattle.toml.specs.Data.{Members}
use Rattle.toml.specs.Parse.{parse_document}
use Rattle.iso_model.specs.Scripts.{Script}
use Rattle.iso_model.specs.ScriptView.{script_of}
use Rattle.iso_plan.specs.Faults.{plan_fault}
use Rattle.iso_plan.specs.Planned.{Planned}
use Rattle.iso_plan.specs.KeptNodes.{plan_tree, texts_of}
use Rattle.iso_plan.specs.Tree.{Row}
use Rattle.iso_plan.specs.declared.fault.PlanFault.{PlanFault}
use Rattle.iso_script.specs.NoScript.{HasScriptFault}
use Rattle.iso_script.specs.Grammar.{Reads}
use Rattle.iso_script_statements.specs.declared.fault.ScriptFault.{ScriptFault}
use Rattle.iso_selection.specs.PickedPlans.{picked_plan_fault, picked_tree}
use Rattle.iso_selection.specs.Wishes.{Wish, all_wishes}
use Rattle.iso_settings.specs.Readings.{Reading}
use Rattle.iso_settings.specs.Settings.{settings_in}
use Rattle.iso_settings.specs.Worlds.{Start, world_in}
use Rattle.iso_settings.specs.declared.settings.Settings.{Settings}
use Rattle.iso_run.specs.declared.run_fault.RunFault.{RunFault}
use Rattle.iso_run.specs.declared.run_fault.RunFault.TheVariants as F
use Rattle.iso_run.specs.declared.inputs.Inputs.{Inputs}
use Rattle.iso_run.specs.declared.inputs.Suite.{Suite as ReadSuite}

-- a suite: its nodes, which are those of its scripts that are kept, the settings, and what the
-- world says that resources start with
pub record Suite : Type 0 where
  pub nodes : List Row
  pub settings : Settings
  pub start : Start

-- the plan of a suite: its nodes under its settings
abbrev pub planned : Suite → Planned
planned suite = record { rows = suite.nodes; settings = suite.settings }

-- whether inputs ask for paths alone, and all that they ask for: paths, patterns, and the paths
-- that a file lists
abbrev pub asks_for_paths : Inputs → Bool
asks_for_paths inputs =
    (length inputs.patterns.now == 0) && (is_none inputs.listed && is_none inputs.shard)

abbrev pub wishes_in : Inputs → Option (List Wish)
wishes_in inputs = all_wishes (texts_of inputs.only.now) (texts_of inputs.patterns.now)
    (option_copied inputs.listed)

-- the nodes of scripts that inputs keep, and why these have no plan
abbrev pub kept_nodes : Inputs → List Script → List Row
kept_nodes inputs ss = cond (asks_for_paths inputs) (plan_tree ss (texts_of inputs.only.now))
    (picked_tree ss (wishes_in inputs) inputs.shard)

abbrev pub kept_fault : Inputs → List Script → Option PlanFault
kept_fault inputs ss = cond (asks_for_paths inputs) (plan_fault ss (texts_of inputs.only.now))
    (picked_plan_fault ss (wishes_in inputs) inputs.shard)

-- what a suite that was read of inputs stands for
abbrev pub suite_of : Inputs → ReadSuite → Suite
suite_of inputs s = record {
  nodes = kept_nodes inputs (map script_of s.scripts.items);
  settings = s.settings;
  start = s.world;
}

-- the TOML document that bytes are, if they are one; a document is UTF-8 (TOML, spec)
abbrev pub document : List ℕ → Option Members
document bytes = if is_utf8 bytes then parse_document bytes else None

-- the settings that bytes are, or their first fault
abbrev pub settings_from : List ℕ → (processors : ℕ) → Reading Settings
settings_from bytes processors = settings_in (document bytes) processors

-- the world that bytes are, or its first fault
abbrev pub world_from : List ℕ → Reading Start
world_from bytes = world_in (document bytes)

-- the bytes of each script
abbrev pub texts : List (Bor (List ℕ)) → List (List ℕ)
texts scripts = map (λ (s : Bor (List ℕ)). s.now) scripts

-- these bytes are these scripts, each the one at its place
abbrev pub AreRead : List (List ℕ) → List Script → Type 0
AreRead [] [] = Unit {0}
AreRead [] (s ∷ ss) = ⊥
AreRead (t ∷ ts) [] = ⊥
AreRead (t ∷ ts) (s ∷ ss) = Reads t s × AreRead ts ss

-- The inputs are this suite: each is read, and what is kept of the scripts has a plan.
pub record IsSuite (inputs : Inputs) (suite : Suite) : Type 0 where
  pub settings : settings_from inputs.settings.now inputs.processors ≡ Ok suite.settings
  pub world : world_from inputs.world.now ≡ Ok suite.start
  pub scripts : List Script
  pub read : AreRead (texts inputs.scripts.now) scripts
  pub kept : suite.nodes ≡ kept_nodes inputs scripts
  pub planned : kept_fault inputs scripts ≡ None

-- the inputs are a suite of which something is true
abbrev pub OfSuite : Inputs → (Suite → Type 0) → Type 0
OfSuite inputs Is = (suite : Suite) × IsSuite inputs suite × Is suite

-- settings and world are read
abbrev pub AreSet : Inputs → Type 0
AreSet inputs = IsOk (settings_from inputs.settings.now inputs.processors)
    × IsOk (world_from inputs.world.now)

-- The bytes at this place are no script and have this fault, and those before them are scripts.
pub record FirstUnread (scripts : List (Bor (List ℕ))) (index : ℕ)
    (fault : ScriptFault) : Type 0 where
  pub within : index < length scripts
  pub earlier : (ss : List Script) × AreRead (texts (take index scripts)) ss
  pub unread : HasScriptFault (get_or (texts scripts) index []) fault

-- Why inputs are no suite: the first fault in the order settings, world, scripts in turn, plan; or
-- memory ran out.
abbrev pub NoSuite : Inputs → RunFault → Type 0
NoSuite inputs (F.Settings fault) = settings_from inputs.settings.now inputs.processors ≡ Err fault
NoSuite inputs (F.World fault) = IsOk (settings_from inputs.settings.now inputs.processors)
    × (world_from inputs.world.now ≡ Err fault)
NoSuite inputs (F.Script index fault) = AreSet inputs × FirstUnread inputs.scripts.now index fault
NoSuite inputs (F.Plan fault) = AreSet inputs
    × ((ss : List Script) × AreRead (texts inputs.scripts.now) ss
    × (kept_fault inputs ss ≡ Some fault))
NoSuite inputs F.Memory = ⊤
NoSuite inputs _ = ⊥
