-- What the page tells of a node.
--
-- page of a run: What the page tells of a node: its line (`name_text`, `time_text`), path and place
-- (`place_text`), mode and locks (`mode_text`, `lock_text`), why it didn't pass (`message_text`)
-- and what it printed (`printed_text`); what went wrong in it (`entry_text`, `wrong_text`) with
-- lines of its script (`quote_text`); the tree (`node_text`, `tree_text`); the page (`head_text`,
-- `body_text`, `page_text`). Signs and words of verdicts, modes and locks (`sign`, `mode_word`,
-- `access_verb`), and which bytes are no markup (`is_no_markup`).
-- Also in: `Modes`, `Trees`, `Heads`, `Pages`, `Quotes`, `Signs`, `Styles`, `Markup`.
-- Standard: HTML, the living standard; Content Security Policy 3.
use Rattle.std.specs.Prelude.{ℕ, ◌/◌, ◌%◌, List, [], ◌∷◌, ◌++◌, Option, None, Some, Bool, false, ◌==◌, cond, codes, length}
use Rattle.std.specs.Fmt.{decimal}
use Rattle.iso_model.specs.declared.outcome.Verdict.{Verdict}
use Rattle.iso_model.specs.declared.outcome.Verdict.TheVariants.{Pass, Fail, Fault, Skipped, Blocked}
use Rattle.iso_junit.specs.Elements.{lines_text}
use Rattle.iso_junit.specs.Escapes.{escaped}
use Rattle.iso_junit.specs.Files.{file_name}
use Rattle.iso_junit.specs.Runs.{PlacedView}
use Rattle.iso_junit.specs.Texts.{joined}
use Rattle.iso_junit.specs.Times.{six_digits}
use Rattle.iso_html.specs.Quotes.{LineView, quote_text}
use Rattle.iso_html.specs.Signs.{sign, word_for}

-- a time in seconds, where one was measured
abbrev pub time_text : Option ℕ → List ℕ
time_text None = []
time_text (Some t) = joined (codes " <small>" ∷ decimal (t / 1000000) ∷ codes "."
    ∷ six_digits (t % 1000000) ∷ codes " s</small>" ∷ [])

-- the lines that a node printed, where it printed any
abbrev pub printed_text : List (List ℕ) → List ℕ
printed_text output =
    cond (length output == 0) [] (codes "<pre>\n" ++ lines_text output ++ codes "</pre>\n")

-- why a node didn't pass
abbrev pub reason_text : List ℕ → List ℕ
reason_text message = joined (codes "<p>" ∷ escaped message ∷ codes "</p>\n" ∷ [])

abbrev pub message_text : Verdict → List ℕ
message_text Pass = []
message_text (Fail note) = reason_text note.message
message_text (Fault kind note) = reason_text note.message
message_text (Skipped note) = reason_text note.message
message_text (Blocked note) = reason_text note.message

-- a node is shown open where it isn't ok
abbrev pub open_word : (ok : Bool) → List ℕ
open_word ok = cond ok (codes "\"><details><summary>") (codes "\"><details open><summary>")

-- the line of a node, without its time: what it came to, and its title
abbrev pub name_text : (ok : Bool) → Verdict → (title : List ℕ) → (n : ℕ) → List ℕ
name_text ok verdict title n = joined (codes "<li id=\"n" ∷ decimal n ∷ open_word ok
    ∷ sign ok verdict ∷ codes " " ∷ escaped title ∷ [])

-- the path of a node, and where it stands
abbrev pub place_text : (path : List ℕ) → PlacedView → List ℕ
place_text path at =
    joined
    (codes "</summary>\n<p><code>"
    ∷ escaped path
    ∷ codes "</code> <code><bdi>"
    ∷ escaped (file_name at.file)
    ∷ codes "</bdi>:"
    ∷ decimal at.line
    ∷ codes "</code></p>\n"
    ∷ [])

-- The beginning of what went wrong in a node: its sign and its path, which leads to the node in the
-- tree, and the place of what ended it with the message.
abbrev pub wrong_head : (sign path message : List ℕ) → (n : ℕ) → PlacedView → List ℕ
wrong_head sign path message n at =
    joined
    (codes "<article>\n<h3>"
    ∷ sign
    ∷ codes " <a href=\"#n"
    ∷ decimal n
    ∷ codes "\">"
    ∷ escaped path
    ∷ codes "</a></h3>\n<p><code><bdi>"
    ∷ escaped (file_name at.file)
    ∷ codes "</bdi>:"
    ∷ decimal at.ended
    ∷ codes "</code>: "
    ∷ escaped message
    ∷ codes "</p>\n"
    ∷ [])

-- how many tests a node blocks, where it blocks any
abbrev pub blocks_text : ℕ → List ℕ
blocks_text n =
    cond (n == 0) [] (joined (codes "<p>blocks " ∷ decimal n
    ∷ word_for n (codes " test</p>\n") (codes " tests</p>\n") ∷ []))

-- What went wrong in a node: that, the lines of the script there, how many tests it blocks, what it
-- printed, and the command that runs it again.
abbrev pub entry_text : Verdict → (path message : List ℕ) → (n : ℕ) → PlacedView
    → (lines : List LineView) → (blocked : ℕ) → (output : List (List ℕ)) → (again : List ℕ) → List ℕ
entry_text verdict path message n at lines blocked output again =
    wrong_head (sign false verdict) path message n at
    ++ quote_text at.ended lines
    ++ blocks_text blocked
    ++ printed_text output
    ++ again
    ++ codes "</article>\n"

-- the same by the verdict, and nothing where it is no fail and no fault
abbrev pub wrong_text : Verdict → (path : List ℕ) → (n : ℕ) → PlacedView → (lines : List LineView)
    → (blocked : ℕ) → (output : List (List ℕ)) → (again : List ℕ) → List ℕ
wrong_text Pass path n at lines blocked output again = []
wrong_text (Fail note) path n at lines blocked output again =
    entry_text (Fail note) path note.message n at lines blocked output again
wrong_text (Fault kind note) path n at lines blocked output again =
    entry_text (Fault kind note) path note.message n at lines blocked output again
wrong_text (Skipped note) path n at lines blocked output again = []
wrong_text (Blocked note) path n at lines blocked output again = []
