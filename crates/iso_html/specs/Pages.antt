-- The page.
use Rattle.std.specs.Prelude.{ℕ, List, [], ◌∷◌, ◌++◌, Option, ◌&&◌, ◌==◌, cond, codes, flat_map}
use Rattle.iso_failures.specs.Blocking.{blocked_by}
use Rattle.iso_failures.specs.Counting.{counts}
use Rattle.iso_failures.specs.Failures.{failures}
use Rattle.iso_failures.specs.declared.counts.Counts.{Counts}
use Rattle.iso_junit.specs.Runs.{RunView, place}
use Rattle.iso_junit.specs.Texts.{joined}
use Rattle.iso_plan.specs.PathTexts.{path_text}
use Rattle.iso_settings.specs.declared.settings.Settings.{Settings}
use Rattle.iso_tap.specs.Reports.{all_ok}
use Rattle.iso_html.specs.Commands.{CommandsView, again_text}
use Rattle.iso_html.specs.Heads.{head_text}
use Rattle.iso_html.specs.Measured.{MeasuredView}
use Rattle.iso_html.specs.Nodes.{wrong_text}
use Rattle.iso_html.specs.Quotes.{LineView, quoted}
use Rattle.iso_html.specs.Sections.{sections_text}
use Rattle.iso_html.specs.Trees.{tree_text}

-- the heading above what went wrong, where something did
abbrev pub wrong_heading : Counts → List ℕ
wrong_heading c =
    cond (c.not_ok == 0 && c.classes_not_ok == 0) [] (codes "<h2>What went wrong</h2>\n")

-- what went wrong in a node, with the lines that are shown of its script, and the command that runs
-- it again
abbrev pub failure_text : RunView → List (List LineView) → CommandsView → ℕ → List ℕ
failure_text r quotes commands n =
    wrong_text (r.outcome n).verdict (path_text r.tree n) n (place r n) (quoted quotes n)
    (blocked_by r.tree r.outcome n) (r.outcome n).output
    (again_text commands r.tree n (place r n))

-- what went wrong, in the order in which it is written
abbrev pub wrongs_text : RunView → List (List LineView) → CommandsView → List ℕ
wrongs_text r quotes commands =
    flat_map (failure_text r quotes commands) (failures r.tree r.outcome)

-- the heading above the tree, and what of it is shown
abbrev pub tree_heading : List ℕ
tree_heading =
    joined
    (codes "<section>\n<h2>Tests</h2>\n<fieldset>\n<legend>Show</legend>\n"
    ∷ codes "<label><input type=\"radio\" name=\"show\" checked> all</label>\n"
    ∷ codes "<label><input type=\"radio\" name=\"show\" id=\"red\"> red ones</label>\n"
    ∷ codes "<label><input type=\"radio\" name=\"show\" id=\"skipped\"> skipped ones</label>\n</fieldset>\n"
    ∷ [])

-- what follows the beginning: what went wrong, the tree, and what was measured
abbrev pub body_text : RunView → Settings → List (List LineView) → CommandsView
    → Option MeasuredView → List ℕ
body_text r settings quotes commands measured =
    wrong_heading (counts r.tree r.outcome)
    ++ wrongs_text r quotes commands
    ++ tree_heading
    ++ tree_text r settings
    ++ codes "</section>\n"
    ++ sections_text r measured
    ++ codes "</main>\n</body>\n</html>\n"

-- the page of a run by these settings
abbrev pub page_text : RunView → Settings → List (List LineView) → CommandsView
    → Option MeasuredView → List ℕ
page_text r settings quotes commands measured =
    head_text (all_ok r.tree r.outcome) (counts r.tree r.outcome) measured
    ++ body_text r settings quotes commands measured
