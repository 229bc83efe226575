-- Two suites, and what a change of one to the other made of their nodes.
use Rattle.std.specs.Prelude.{◌≡◌, ℕ, List, Option, length, map}
use Rattle.std.specs.List.{All}
use Rattle.std.specs.Option.{option_copied}
use Rattle.iso_affected.specs.Fates.{AreFates, IsNode, suites}
use Rattle.iso_affected.specs.declared.affected.Fate.{Fate}
use Rattle.iso_affected.specs.declared.difference.Difference.{Difference}
use Rattle.iso_affected_text.specs.declared.change.Change.{Change}
use Rattle.iso_affected_text.specs.declared.change.Side.{Side}
use Rattle.iso_places.specs.LineStarts.{line_starts}
use Rattle.iso_places.specs.declared.site.Site.{Site}
use Rattle.iso_plan.specs.RowView.{tree_of}
use Rattle.iso_plan.specs.KeptNodes.{texts_of}
use Rattle.iso_plan.specs.TopClasses.{all_paths}
use Rattle.iso_plan.specs.Tree.{Row}
use Rattle.iso_settings.specs.Worlds.{Start}

-- one of the two suites: its nodes, where they stand, and the bytes of its scripts
pub record SideView : Type 0 where
  pub tree : List Row
  pub sites : List Site
  pub texts : List (List ℕ)

-- the two suites, with the names of their scripts, the fates of the new nodes, what differs of
-- those that are changed, the old nodes that are gone, and the property that starts with another
-- value
pub record ChangeView : Type 0 where
  pub old : SideView
  pub new : SideView
  pub names : List (List ℕ)
  pub fates : List Fate
  pub told : List (Option Difference)
  pub gone : List ℕ
  pub property : Option (List ℕ)

-- what is lent
abbrev pub side_of : Side → SideView
side_of s = record { tree = tree_of s.plan.now; sites = s.sites.now; texts = texts_of s.texts.now }

abbrev pub change_of : Change → ChangeView
change_of c =
    record {
      old = side_of c.old;
      new = side_of c.new;
      names = texts_of c.names.now;
      fates = c.fates.now;
      told = c.told.now;
      gone = c.gone.now;
      property = option_copied c.property;
    }

-- the paths are those of the nodes, and the tables those of the scripts
pub record IsSide (s : Side) : Type 0 where
  pub paths : s.paths.now ≡ all_paths (tree_of s.plan.now)
  pub tables : s.tables.now ≡ map line_starts (texts_of s.texts.now)

-- the fates are those of the new nodes, on some starting values, and what is told stands at their
-- numbers
pub record IsChange (c : Change) : Type 0 where
  pub old : IsSide c.old
  pub new : IsSide c.new
  pub each : length c.fates.now ≡ length c.new.plan.now.rows
  pub told : length c.told.now ≡ length c.new.plan.now.rows
  pub before : Start
  pub after : Start
  pub fates : AreFates (suites c.old.plan.now before c.new.plan.now after) c.fates.now
  pub gone : All (IsNode (tree_of c.old.plan.now)) c.gone.now
