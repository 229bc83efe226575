use Rattle.std.proofs.Common.{◌≡◌, fold, take}
use Rattle.iso_hints.specs.Scans.{step}
use Rattle.iso_hints.specs.declared.scan.Inside.TheVariants.{Code}
use Rattle.iso_hints.proofs.scan.behind_code.Given as goal

abbrev pub invariant-loop-byte : goal.invariant-loop-byte
invariant-loop-byte l = record {
  code : l.next.inside ≡ Code;
  is : l.next ≡ fold step l.fn.seen (take l.byte-index l.bytes);
}
