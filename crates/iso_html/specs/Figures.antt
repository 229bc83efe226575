-- The figures of a run that was measured.
--
-- measured part of a page: The workers, wall time, busy part and bound (`measured_figures`); the
-- picture; of each key its readers and writers, how long these were entered, and how many nodes
-- waited for it and how long (`usage_of`, `usages`, `key_line`); the longest chain (`chain_text`);
-- the ten slowest (`slowest`).
-- Also in: `KeyUses`, `Slowest`, `Measured`, `Sections`.
use Rattle.std.specs.Prelude.{ℕ, ◌/◌, List, [], ◌∷◌, ◌++◌, Option, Some, None, codes}
use Rattle.std.specs.Fmt.{decimal}
use Rattle.iso_junit.specs.Texts.{joined}
use Rattle.iso_stats.specs.declared.figures.Best.{Best}
use Rattle.iso_stats.specs.declared.figures.Figures.{Figures}
use Rattle.iso_html.specs.Measured.{MeasuredView}
use Rattle.iso_html.specs.Parts.{seconds, tenths}
use Rattle.iso_html.specs.Signs.{word_for}

-- how fast the run is at best, if that is told
abbrev pub best_text : Option Best → List ℕ
best_text None = []
best_text (Some b) =
    joined (codes "<li><b>" ∷ tenths b.tenths ∷ codes " times</b> at best</li>\n" ∷ [])

-- the workers, the time from the first begin until the last end, and which part of it they were
-- busy
abbrev pub workers_text : Figures → List ℕ
workers_text f =
    joined
    (codes "<li><b>"
    ∷ decimal f.workers
    ∷ codes " of "
    ∷ decimal f.of
    ∷ word_for f.of (codes "</b> worker</li>\n<li><b>") (codes "</b> workers</li>\n<li><b>")
    ∷ seconds (f.span / 1000)
    ∷ codes "</b> wall time</li>\n<li><b>"
    ∷ decimal f.busy
    ∷ codes " %</b> busy</li>\n"
    ∷ [])

-- the figures of a run that was measured
abbrev pub measured_figures : Option MeasuredView → List ℕ
measured_figures None = []
measured_figures (Some m) = workers_text m.figures ++ best_text m.figures.best
