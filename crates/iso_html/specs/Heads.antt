-- The beginning of the page.
use Rattle.std.specs.Prelude.{ℕ, List, [], ◌∷◌, ◌++◌, Option, Bool, cond, codes}
use Rattle.std.specs.Fmt.{decimal}
use Rattle.iso_failures.specs.declared.counts.Counts.{Counts}
use Rattle.iso_junit.specs.Texts.{joined}
use Rattle.iso_html.specs.Figures.{measured_figures}
use Rattle.iso_html.specs.Measured.{MeasuredView}
use Rattle.iso_html.specs.Signs.{ok_sign, word_for}
use Rattle.iso_html.specs.Styles.{style_text}

-- the word of the page's title
abbrev pub ok_word : Bool → List ℕ
ok_word ok = cond ok (codes "ok") (codes "not ok")

-- the first lines: no script and nothing from elsewhere is allowed, and as style this one alone
abbrev pub first_lines : List ℕ
first_lines =
    joined
    (codes "<!DOCTYPE html>\n<html lang=\"en\">\n<head>\n<meta charset=\"utf-8\">\n"
    ∷ codes "<meta http-equiv=\"Content-Security-Policy\" content=\"default-src 'none'; style-src 'sha256-jDD970AdXK6Aocb0Dmc70CP1wN7D0GlIPyT/Ks9hnjs='\">\n"
    ∷ codes "<meta name=\"viewport\" content=\"width=device-width, initial-scale=1\">\n"
    ∷ [])

-- how many tests and classes there are
abbrev pub size_text : Counts → List ℕ
size_text c =
    joined
    (decimal c.tests
    ∷ word_for c.tests (codes " test in ") (codes " tests in ")
    ∷ decimal c.classes
    ∷ word_for c.classes (codes " class") (codes " classes")
    ∷ [])

-- the title of the window, and the style
abbrev pub title_text : (ok : Bool) → Counts → List ℕ
title_text ok c = joined (codes "<title>" ∷ ok_word ok ∷ codes ": " ∷ []) ++ size_text c
    ++ codes "</title>\n<style>\n"

-- the heading
abbrev pub heading_text : (ok : Bool) → Counts → List ℕ
heading_text ok c = joined (codes "</style>\n</head>\n<body>\n<main>\n<h1>" ∷ ok_sign ok
    ∷ codes ": " ∷ []) ++ size_text c ++ codes "</h1>\n"

-- how many classes failed by themselves
abbrev pub classes_text : ℕ → List ℕ
classes_text n =
    joined (decimal n ∷ word_for n (codes "</b> class not ok</li>\n")
    (codes "</b> classes not ok</li>\n") ∷ [])

-- how many tests came to what
abbrev pub tests_text : Counts → List ℕ
tests_text c =
    joined
    (codes "<ul class=\"figures\">\n<li><b>"
    ∷ decimal c.ok
    ∷ codes "</b> ok</li>\n<li><b>"
    ∷ decimal c.skipped
    ∷ codes "</b> skipped</li>\n<li><b>"
    ∷ decimal c.not_ok
    ∷ codes "</b> not ok</li>\n<li><b>"
    ∷ decimal c.blocked
    ∷ codes "</b> blocked</li>\n<li><b>"
    ∷ [])

-- the counts of the summary, and the figures of what was measured
abbrev pub figures_text : Counts → Option MeasuredView → List ℕ
figures_text c measured = tests_text c ++ classes_text c.classes_not_ok ++ measured_figures measured
    ++ codes "</ul>\n"

-- the beginning of the page
abbrev pub head_text : (ok : Bool) → Counts → Option MeasuredView → List ℕ
head_text ok c measured =
    first_lines ++ title_text ok c ++ style_text ++ heading_text ok c ++ figures_text c measured
