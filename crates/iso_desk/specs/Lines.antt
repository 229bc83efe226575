-- The lines in which nodes stand, by their numbers.
use Rattle.std.specs.Prelude.{◌≤◌, ◌<◌, ℕ, ◌+◌, ◌*◌, cond}
use Rattle.iso_desk.specs.declared.line.Line.{Line}
use Rattle.iso_desk.specs.declared.line.Line.TheVariants.{Key, Own}
use Rattle.iso_desk.specs.declared.line.Party.{Party}
use Rattle.iso_desk.specs.declared.line.Party.TheVariants.{Everyone, Worker}

-- the number of a party: everyone comes first, then each worker
abbrev pub party_number : Party → ℕ
party_number Everyone = 0
party_number (Worker w) = w + 1

-- the number of a line: each party has nine words of 64, four for the keys that are read, four for
-- those that are written, and one for its own line
abbrev pub line_number : Line → ℕ
line_number (Key l) = 576 * party_number l.party + cond l.writes 256 0 + l.key
line_number (Own w) = 576 * (w + 1) + 512

-- a line of `workers` workers and of 256 keys
abbrev pub IsLineOf : ℕ → Line → Type 0
IsLineOf workers (Key l) = (party_number l.party ≤ workers) × (l.key < 256)
IsLineOf workers (Own w) = w < workers
