use Rattle.std.proofs.Common.{sym, refl, ◌+◌}
use Rattle.std.proofs.lemmas.List.{take_rest}
use Rattle.iso_schedule.proofs.LineLemmas.{lines-first, lines-last}
use Rattle.iso_schedule.proofs.lines.split_line.Goals as goal

pub returns-in-Some-clause-first : goal.returns-in-Some-clause-first
returns-in-Some-clause-first c =
    rw (take_rest c.args.bytes.now (c.in-Some.end + 1), c.without_return.ensures) (lines-first c.args.bytes.now c.in-Some.end (sym c.in-Some.ensures))

pub returns-in-None-clause-first : goal.returns-in-None-clause-first
returns-in-None-clause-first c = lines-last c.args.bytes.now c.requires (sym c.in-None.ensures)

pub returns-in-Some-clause-rest : goal.returns-in-Some-clause-rest
returns-in-Some-clause-rest c = rw (sym c.in-Some.ensures) (take_rest c.args.bytes.now (c.in-Some.end + 1))

pub returns-in-None-clause-rest : goal.returns-in-None-clause-rest
returns-in-None-clause-rest c = rw (sym c.in-None.ensures) refl
