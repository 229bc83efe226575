use Rattle.std.proofs.Common.{◌≡◌, drop}
use Rattle.iso_script_statements.specs.SeenNames.{is_in}
use Rattle.iso_script_statements.proofs.seen_names.is_listed.Given as goal

abbrev pub invariant-names : goal.invariant-names
invariant-names l = is_in (drop l.seen-index l.names) l.name ≡ is_in l.names l.name
