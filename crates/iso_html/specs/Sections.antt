-- What the page tells of what was measured: the picture of the run, the locks, and the slowest
-- tests and classes.
use Rattle.std.specs.Prelude.{ℕ, ◌/◌, List, [], ◌∷◌, Option, Some, None, Bool, cond, codes, flat_map, length}
use Rattle.std.specs.Fmt.{decimal}
use Rattle.std.specs.List.{range_with_len}
use Rattle.iso_junit.specs.Escapes.{escaped}
use Rattle.iso_junit.specs.Runs.{RunView}
use Rattle.iso_junit.specs.Texts.{joined}
use Rattle.iso_plan.specs.KeyTable.{keys}
use Rattle.iso_plan.specs.Tree.{Row}
use Rattle.iso_stats.specs.declared.figures.Chain.{Chain}
use Rattle.iso_html.specs.KeyUses.{usage_at}
use Rattle.iso_html.specs.Measured.{MeasuredView}
use Rattle.iso_html.specs.Parts.{chain_name, key_text, link_text, next_text, seconds}
use Rattle.iso_html.specs.PictureText.{shape_text}
use Rattle.iso_html.specs.declared.section.Section.{Section}
use Rattle.iso_html.specs.declared.section.Section.TheVariants as S
use Rattle.iso_html.specs.declared.slowest.Timed.{Timed}
use Rattle.iso_html.specs.declared.usage.Usage.{Usage}

-- the begin of the picture, and its end: the axis
abbrev pub run_heading : List ℕ
run_heading = codes "<h2>The run</h2>\n<div class=\"run\">\n<ol>\n"

abbrev pub axis_text : (span : ℕ) → List ℕ
axis_text span =
    joined
    (codes "<div class=\"run\">\n<p><span>0.000000 s</span><span>"
    ∷ seconds (span / 1000)
    ∷ codes "</span></p>\n</div>\n<p><small>A framed bar is a critical body: each of them had to wait for the one before it, up to the end of the run. A high red bar is a body of a node that failed. In the row of a key that was waited for are the nodes that had it, high ones for READ_WRITE. What is thinner than a pixel is drawn as one bar, with its number, and framed where one of its bodies is critical.</small></p>\n"
    ∷ [])

-- the begin of the table of locks
abbrev pub locks_heading : List ℕ
locks_heading =
    codes "<h2>Locks</h2>\n<div class=\"wide\">\n<table>\n<thead><tr><th scope=\"col\">key</th><th scope=\"col\" class=\"n\">readers</th><th scope=\"col\" class=\"n\">writers</th><th scope=\"col\" class=\"n\">held</th><th scope=\"col\" class=\"n\">waited for</th></tr></thead>\n<tbody>\n"

-- the line of a key: how many nodes take it, how long they were entered, and how long it was waited
-- for
abbrev pub key_line : List Row → (key : ℕ) → Usage → List ℕ
key_line tree key u =
    joined
    (codes "<tr><th scope=\"row\">"
    ∷ escaped (key_text tree key)
    ∷ codes "</th><td class=\"n\">"
    ∷ decimal u.readers
    ∷ codes "</td><td class=\"n\">"
    ∷ decimal u.writers
    ∷ codes "</td><td class=\"n\">"
    ∷ seconds (u.held / 1000)
    ∷ codes "</td><td class=\"n\">"
    ∷ seconds (u.waited / 1000)
    ∷ codes "</td></tr>\n"
    ∷ [])

-- those of all keys, by their numbers
abbrev pub one_key : RunView → MeasuredView → (key : ℕ) → List ℕ
one_key r m key = key_line r.tree key (usage_at m.usages key)

abbrev pub keys_text : RunView → MeasuredView → (count key : ℕ) → List ℕ
keys_text r m count key = flat_map (one_key r m) (range_with_len key count)

-- how its line ends, where there may be more nodes
abbrev pub chain_end : Bool → List ℕ
chain_end more = cond more (codes ", ..</p>\n") (codes "</p>\n")

-- the longest chain, with what makes it and up to three of its nodes
abbrev pub chain_line : List Row → Chain → List ℕ
chain_line tree c =
    joined
    (codes "<p>longest chain "
    ∷ seconds (c.time / 1000)
    ∷ codes ": "
    ∷ chain_name tree c.link
    ∷ codes ": "
    ∷ link_text tree c.first
    ∷ next_text tree c.second
    ∷ next_text tree c.third
    ∷ chain_end c.more
    ∷ [])

abbrev pub chain_text : List Row → Option Chain → List ℕ
chain_text tree None = []
chain_text tree (Some c) = chain_line tree c

-- the end of the table of locks
abbrev pub locks_end : List ℕ
locks_end =
    codes "</tbody>\n</table>\n</div>\n<p><small>The times of a key are added up over the nodes that take it, and over those that waited for it.</small></p>\n"

-- the table of the slowest
abbrev pub slowest_heading : List ℕ
slowest_heading =
    codes "<h2>Slowest</h2>\n<div class=\"wide\">\n<table>\n<thead><tr><th scope=\"col\">path</th><th scope=\"col\" class=\"n\">time</th></tr></thead>\n<tbody>\n"

abbrev pub slow_line : List Row → Timed → List ℕ
slow_line tree t = joined (codes "<tr><td>" ∷ link_text tree t.node ∷ codes "</td><td class=\"n\">"
    ∷ seconds t.micros ∷ codes "</td></tr>\n" ∷ [])

-- a section
abbrev pub section_text : RunView → MeasuredView → Section → List ℕ
section_text r m (S.Plain text) = text.now
section_text r m S.Picture = flat_map (shape_text r m.figures.span) m.shapes
section_text r m S.Axis = axis_text m.figures.span
section_text r m S.Keys = keys_text r m (length (keys r.tree)) 0
section_text r m S.LongestChain = chain_text r.tree m.figures.chain
section_text r m S.Slowest = flat_map (slow_line r.tree) m.slowest

-- all of it, and nothing where nothing was measured
abbrev pub measures_text : RunView → MeasuredView → List ℕ
measures_text r m =
    joined
    (run_heading
    ∷ flat_map (shape_text r m.figures.span) m.shapes
    ∷ axis_text m.figures.span
    ∷ locks_heading
    ∷ keys_text r m (length (keys r.tree)) 0
    ∷ locks_end
    ∷ chain_text r.tree m.figures.chain
    ∷ slowest_heading
    ∷ flat_map (slow_line r.tree) m.slowest
    ∷ codes "</tbody>\n</table>\n</div>\n"
    ∷ [])

abbrev pub sections_text : RunView → Option MeasuredView → List ℕ
sections_text r None = []
sections_text r (Some m) = measures_text r m
