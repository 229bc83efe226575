-- Two top-level classes of one team and name.
use Rattle.std.specs.Prelude.{◌≡◌, ℕ, List, [], ◌∷◌, ◌++◌, Option, bytes_eq, codes, cond}
use Rattle.iso_script_lexer.specs.declared.token.Position.{Position}
use Rattle.iso_summary.specs.Names.{shown_name}
use Rattle.iso_explain_plan.specs.Notes.{note}
use Rattle.iso_explain_plan.specs.Parts.{place_text, shown}
use Rattle.iso_explain_plan.specs.declared.double.Site.{Site}
use Rattle.iso_explain_plan.specs.declared.double.TopClass.{TopClass}

-- where a class stands: in which file, and at which place, where that is known
abbrev pub Spot : Type 0
Spot = List ℕ × Option Position

abbrev pub site_of : Site → Spot
site_of site = (site.file.now, site.place)

-- where two classes of one path stand
abbrev pub double_note : List ℕ → (first second : Spot) → List ℕ
double_note path first second =
    note
    (codes "class " ∷ shown path ∷ codes " stands at " ∷ shown_name first.0 ∷ place_text first.1
    ∷ codes " and at " ∷ shown_name second.0 ∷ place_text second.1 ∷ [])

-- what mends that
abbrev pub rename_note : List ℕ
rename_note = note (codes "two classes of one team have one name: rename one of them" ∷ [])

abbrev pub two_notes : List ℕ → (first second : Spot) → List ℕ
two_notes path first second = double_note path first second ++ rename_note

-- that one file is named twice, and what mends that
abbrev pub twice_note : (file : List ℕ) → List ℕ
twice_note file =
    note (shown_name file ∷ codes
    " is named twice, so each of its classes stands twice: name it once" ∷ [])

-- what is told of two classes of one path: of one file that it is named twice, since two classes of
-- one script have two names
abbrev pub double_notes : List ℕ → (first second : Spot) → List ℕ
double_notes path first second =
    cond (bytes_eq first.0 second.0) (twice_note first.0) (two_notes path first second)

-- two classes have one path
abbrev pub HasOnePath : TopClass × TopClass → Type 0
HasOnePath pair = pair.0.path.now ≡ pair.1.path.now

-- a text tells where two classes of one path stand, or nothing
pub data TellsOfTwo : List ℕ → Type 0 where
  of_none : TellsOfTwo []
  of_two : (path : List ℕ) (first second : Spot) → TellsOfTwo (double_notes path first second)
