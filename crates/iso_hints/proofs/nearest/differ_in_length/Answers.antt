use Rattle.std.proofs.Common.{◌<◌, ◌/◌, length, max, arith}
use Rattle.std.proofs.lemmas.Bool.Decides.{nat_tests}
use Rattle.std.specs.Int.{abs_diff}
use Rattle.std.specs.Str.{chars}
use Rattle.iso_hints.proofs.DistanceLemmas.{not-near}
use Rattle.iso_hints.proofs.nearest.differ_in_length.Goals as goal

pub returns : goal.returns
returns c =
    λ far.
    let word = c.args.word.now in
    let candidate = c.args.candidate.now in
    let bound : c.max.result / 3 < c.abs_diff.result = grind (arith, nat_tests, far) in
    let less : max (length word) (length candidate) / 3 < abs_diff (length (chars word)) (length (chars candidate)) =
    omega (arith, bound, c.max.ensures, c.abs_diff.ensures, c.character_count.ensures, c.character_count-2.ensures) in
    not-near word candidate less
