-- Parts of times, cut off to whole numbers.
use Rattle.std.specs.Prelude.{ℕ, ◌*◌, ◌/◌, ◌==◌, ◌||◌, cond, max, min}

-- the largest number that is told
abbrev pub most : ℕ
most = 18446744073709551615

-- which part of a time `workers` workers spent in bodies, each of them an equal part of the bodies'
-- time, in percent
abbrev pub percent : (busy workers span : ℕ) → ℕ
percent busy workers span =
    cond (workers == 0 || span == 0) 0 (min (busy / workers * 100 / span) most)

-- how long `workers` workers take at least: an equal part of the work each, or one chain
abbrev pub least : (work workers chain : ℕ) → ℕ
least work workers chain = max (work / workers) chain

-- how many times as fast as one worker `workers` of them are at best, in tenths
abbrev pub at_best : (work workers chain : ℕ) → ℕ
at_best work workers chain =
    cond (workers == 0) 0 (cond (least work workers chain == 0) 0
    (min (work * 10 / least work workers chain) most))
