use Rattle.std.proofs.Common.{◌≡◌, drop}
use Rattle.iso_settings.specs.Worlds.{is_printable}
use Rattle.iso_settings.proofs.world.is_printable.Given as goal

abbrev pub invariant-loop-byte : goal.invariant-loop-byte
invariant-loop-byte l = is_printable (drop l.byte-index l.byte-items) ≡ is_printable l.text
