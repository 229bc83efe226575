-- The commands that run nodes again, as the summary tells them.
--
-- command on the page: That of the summary, with the escapes of a page, where it can be told
-- (`command_text`, `again_text`).
-- Also in: `Parts`.
use Rattle.std.specs.Prelude.{ℕ, List, [], ◌∷◌, ◌++◌, Bool, cond, codes}
use Rattle.iso_junit.specs.Escapes.{escaped}
use Rattle.iso_junit.specs.Runs.{PlacedView}
use Rattle.iso_junit.specs.Texts.{joined}
use Rattle.iso_plan.specs.Tree.{Row}
use Rattle.iso_summary.specs.Entries.{can_be_told}
use Rattle.iso_summary.specs.Lines.{file_option, number_option}
use Rattle.iso_summary.specs.Views.{AgainView, LocatedView, again_of}
use Rattle.iso_summary.specs.Words.{file_word}
use Rattle.iso_html.specs.Parts.{node_text}
use Rattle.iso_html.specs.declared.again.Commands.{Commands}

-- what is told again of a command, and whether its scripts were named
pub record CommandsView : Type 0 where
  pub again : AgainView
  pub named : Bool

abbrev pub commands_of : Commands → CommandsView
commands_of c = record { again = again_of c.again; named = c.named }

-- the script of a node, as the summary has it
abbrev pub script_at : (named : Bool) → PlacedView → LocatedView
script_at named at =
    record { file = at.file; named = named; line = at.ended; source = []; hints = [] }

-- the command up to its script
abbrev pub command_text : AgainView → List Row → ℕ → List ℕ
command_text again tree n =
    joined
    (codes "<p>again: <code><bdi>jtap run"
    ∷ escaped (file_option (codes " --settings ") again.settings)
    ∷ escaped (file_option (codes " --world ") again.world)
    ∷ number_option (codes " --processors ") again.processors
    ∷ codes " --only "
    ∷ node_text tree n
    ∷ codes " "
    ∷ [])

-- the one script in which the node is written
abbrev pub script_text : (file : List ℕ) → List ℕ
script_text file = joined (escaped (file_word file) ∷ codes "</bdi></code></p>\n" ∷ [])

-- the same, where it can be told
abbrev pub again_text : CommandsView → List Row → ℕ → PlacedView → List ℕ
again_text c tree n at = cond (can_be_told c.again (script_at c.named at))
    (command_text c.again tree n ++ script_text at.file) []
