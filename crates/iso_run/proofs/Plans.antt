-- Plans by what they say.
use Rattle.std.proofs.Common.{◌≡◌, List, ap₂}
use Rattle.iso_plan.specs.Planned.{Planned}
use Rattle.iso_plan.specs.Tree.{Row}
use Rattle.iso_settings.specs.declared.settings.Settings.{Settings}

pub planned-by : (p : Planned) (rows : List Row) (settings : Settings) → p.rows ≡ rows → p.settings ≡ settings → p ≡ record { rows = rows; settings = settings }
planned-by p rows settings same_rows same_settings = ap₂ (λ (rs : List Row) (s : Settings). let q : Planned = record { rows = rs; settings = s } in q) same_rows same_settings
