use Rattle.std.proofs.Common.{◌≡◌, replicate, rules}
use Rattle.iso_desk.proofs.LineEndsLemmas.{no_ends}
use Rattle.iso_desk.proofs.line_ends.LineEnds.new.Goals as goal

pub returns : goal.returns
returns c =
    let first : c.in_ok-first.first.items ≡ replicate c.args.lines 0 = search rules in
    no_ends c.in_ok-filled.filled c.in_ok-first.first.items c.in_ok-last.last.items c.args.lines first c.in_ok-filled.ensures.1
