use Rattle.std.proofs.Common.{◌≤◌, ◌^◌, arith}
use Rattle.std.proofs.lemmas.Int.{ints}
use Rattle.iso_script_statements.proofs.Literals.{is_negative}
use Rattle.iso_script_statements.proofs.parser.Parser.negative.Goals as goal

pub returns : goal.returns
returns c =
    let within : c.in-Number.number ≤ 2 ^ 63 = rw c.in-Number.is at c.peek.ensures.token in
    λ q. is_negative q _ _ _ _ _ (grind (arith, ints, c.in-Ok.ensures, c.from.ensures)) (rw c.in-Number.is at c.peek.ensures.next) c.advance.ensures within
