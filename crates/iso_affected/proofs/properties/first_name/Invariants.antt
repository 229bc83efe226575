use Rattle.std.proofs.Common.{◌≡◌, take}
use Rattle.std.specs.List.{All}
use Rattle.iso_affected.specs.PropertyStarts.{asked}
use Rattle.iso_affected.proofs.properties.first_name.Given as goal

abbrev pub invariant-names : goal.invariant-names
invariant-names l = All (λ name. asked l.was name ≡ asked l.now name) (take l.place l.names)
