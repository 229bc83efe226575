-- Warnings, as lines.
--
-- warning: A line behind the name of a file, or a place in it (`warning_line`); the first ten, and
-- how many there are more (`with_one`, `warnings_text`); those of settings (`warned`).
-- Also in: `Warned`, `Unknown`.
use Rattle.std.specs.Prelude.{ℕ, List, [], ◌∷◌, ◌++◌, ◌==◌, cond, codes, unwrap_or}
use Rattle.std.specs.Fmt.{decimal}
use Rattle.iso_summary.specs.Names.{shown_name}
use Rattle.iso_tap.specs.Sinks.{Account}
use Rattle.iso_explain_settings.specs.Parts.{joined}
use Rattle.iso_explain_settings.specs.Unknown.{Kept}
use Rattle.iso_explain_settings.specs.declared.warnings.Place.{Place}
use Rattle.iso_explain_settings.specs.declared.warnings.Place.TheVariants.{File, At}

-- what a sink in memory took
abbrev pub line_in : Account → List ℕ
line_in sink = unwrap_or sink.bytes []

-- a warning of a file, and of a place in one
abbrev pub warning_line : Place → (text : List ℕ) → List ℕ
warning_line (File name) text =
    joined (codes "jtap: warning: " ∷ shown_name name.now ∷ codes ": " ∷ text ∷ codes "\n" ∷ [])
warning_line (At name line column) text = joined
    (codes "jtap: warning: " ∷ shown_name name.now ∷ codes ":" ∷ decimal line ∷ codes ":"
    ∷ decimal column
    ∷ codes ": " ∷ text ∷ codes "\n" ∷ [])

-- how many warnings there are more, if there are any
abbrev pub more_warnings : ℕ → List ℕ
more_warnings more =
    cond (more == 0) [] (joined (codes "jtap: warning: " ∷ decimal more ∷ codes " more\n" ∷ []))

-- the warnings, and how many there are more
abbrev pub warnings_text : Kept → List ℕ
warnings_text kept = joined kept.0 ++ more_warnings kept.1
