-- What contracts see of a plan.
--
-- a plan as contracts see it: What its nodes say, in preorder, and the settings (`Planned`).
use Rattle.std.specs.Prelude.{List}
use Rattle.iso_plan.specs.Tree.{Row}
use Rattle.iso_settings.specs.declared.settings.Settings.{Settings}

-- what a plan is made of: what its nodes say, in preorder, and the settings. So two plans are equal
-- where they say the same.
pub record Planned : Type 0 where
  pub rows : List Row
  pub settings : Settings
