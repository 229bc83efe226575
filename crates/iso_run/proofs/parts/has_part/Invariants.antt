use Rattle.std.proofs.Common.{◌≡◌, ◌==◌, drop, length, not}
use Rattle.std.specs.List.{list_any}
use Rattle.iso_run.specs.Parts.{text_of}
use Rattle.iso_run.proofs.parts.has_part.Given as goal

abbrev pub invariant-loop-part : goal.invariant-loop-part
invariant-loop-part l =
    list_any (λ part. not (length (text_of part) == 0)) l.parts ≡ list_any (λ part. not (length (text_of part) == 0)) (drop l.part-index l.parts)
