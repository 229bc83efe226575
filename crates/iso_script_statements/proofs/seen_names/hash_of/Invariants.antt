use Rattle.std.proofs.Common.{◌≡◌, ◌<◌, drop}
use Rattle.iso_script_statements.specs.SeenNames.{hash_from}
use Rattle.iso_script_statements.proofs.seen_names.hash_of.Given as goal

abbrev pub invariant-bytes : goal.invariant-bytes
invariant-bytes l = record { within : l.hash < 512; rest : hash_from l.hash (drop l.byte-index l.name) ≡ hash_from 0 l.name }
