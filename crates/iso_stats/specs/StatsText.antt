-- What is told of a run, in lines.
--
-- statistics: The lines that are told of a run (`stats_text`), times in the largest unit of which
-- there is one (`time`), the part of it that workers were busy (`percent`), how fast it is at best
-- (`at_best`); how many tests it had, how long its bodies took and when the last one ended
-- (`test_count`, `work`, `span`).
-- Also in: `Times`, `Shares`, `Measures`.
use Rattle.std.specs.Prelude.{ℕ, List, [], ◌∷◌, Option, Some, None, codes}
use Rattle.std.specs.Fmt.{decimal}
use Rattle.iso_plan.specs.Tree.{Row}
use Rattle.iso_stats.specs.Parts.{comma, counted, joined, key_text, link_text, more, node_if, node_text}
use Rattle.iso_stats.specs.Times.{tenths, time}
use Rattle.iso_stats.specs.declared.figures.Best.{Best}
use Rattle.iso_stats.specs.declared.figures.Chain.{Chain}
use Rattle.iso_stats.specs.declared.figures.Figures.{Figures}
use Rattle.iso_stats.specs.declared.figures.Waited.{Waited}
use Rattle.iso_stats.specs.declared.figures.Without.{Without}
use Rattle.iso_stats.specs.declared.text.Line.{Line}
use Rattle.iso_stats.specs.declared.text.Line.TheVariants.{First, Waits, LongestChain, AtBest}

-- the workers of a run, and how long it took
abbrev pub first_line : Figures → List ℕ
first_line f =
    joined
    (counted f.tests (codes " test")
    ∷ codes ", "
    ∷ decimal f.workers
    ∷ codes " of "
    ∷ counted f.of (codes " worker")
    ∷ codes ", "
    ∷ time f.span
    ∷ codes "; busy "
    ∷ decimal f.busy
    ∷ codes " %\n"
    ∷ [])

-- the key that was waited for longest, and the longest wait for it
abbrev pub waited_line : List Row → Waited → List ℕ
waited_line tree w =
    joined
    (codes "waited "
    ∷ time w.time
    ∷ codes " for "
    ∷ key_text tree w.key
    ∷ codes " ("
    ∷ node_text tree w.node
    ∷ codes " for "
    ∷ node_text tree w.holder
    ∷ codes " "
    ∷ time w.longest
    ∷ more w.more (codes "; ..")
    ∷ codes ")\n"
    ∷ [])

-- the longest chain, with what makes it and up to three of its nodes
abbrev pub chain_line : List Row → Chain → List ℕ
chain_line tree c =
    joined
    (codes "longest chain "
    ∷ time c.time
    ∷ codes ": "
    ∷ link_text tree c.link
    ∷ codes ": "
    ∷ node_text tree c.first
    ∷ comma c.second
    ∷ node_if tree c.second
    ∷ comma c.third
    ∷ node_if tree c.third
    ∷ more c.more (codes ", ..")
    ∷ codes "\n"
    ∷ [])

-- how fast a run is at best, and without a key, if that is told
abbrev pub best_by : List Row → ℕ → Option Without → List ℕ
best_by tree n None =
    joined (codes "at best " ∷ tenths n ∷ codes " times as fast as one worker\n" ∷ [])
best_by tree n (Some w) =
    joined
    (codes "at best "
    ∷ tenths n
    ∷ codes " times as fast as one worker; without "
    ∷ key_text tree w.key
    ∷ codes " "
    ∷ tenths w.tenths
    ∷ codes " times\n"
    ∷ [])

abbrev pub best_line : List Row → Best → List ℕ
best_line tree b = best_by tree b.tenths b.without

-- a line, where there is something to tell
abbrev pub waited_lines : List Row → Option Waited → List ℕ
waited_lines tree None = []
waited_lines tree (Some w) = waited_line tree w

abbrev pub chain_lines : List Row → Option Chain → List ℕ
chain_lines tree None = []
chain_lines tree (Some c) = chain_line tree c

abbrev pub best_lines : List Row → Option Best → List ℕ
best_lines tree None = []
best_lines tree (Some b) = best_line tree b

abbrev pub line_text : List Row → Line → List ℕ
line_text tree (First f) = first_line f.now
line_text tree (Waits w) = waited_lines tree w
line_text tree (LongestChain c) = chain_lines tree c
line_text tree (AtBest b) = best_lines tree b

-- all lines
abbrev pub stats_text : List Row → Figures → List ℕ
stats_text tree f = joined (first_line f ∷ waited_lines tree f.waited ∷ chain_lines tree f.chain
    ∷ best_lines tree f.best ∷ [])
