-- Nodes that nobody has taken to be entered.
use Rattle.std.specs.Prelude.{◌≡◌, ◌<◌, ◌⊎◌, ℕ, List, Bool, true, false, length}
use Rattle.iso_book.specs.Books.{BookView, suite_in}
use Rattle.iso_book.specs.Progress.{phase_in}
use Rattle.iso_desk.specs.Places.{place_of}
use Rattle.iso_desk.specs.declared.line.Line.{Line}
use Rattle.iso_desk.specs.declared.line.Line.TheVariants.{Key, Own}
use Rattle.iso_desk.specs.declared.place.Place.{Place}
use Rattle.iso_desk.specs.declared.place.Place.TheVariants.{Closed, InLine, Loose, Open, Over, With}
use Rattle.iso_isolation.specs.Events.{stands_in}
use Rattle.iso_standing.specs.declared.phase.Phase.{Phase}
use Rattle.iso_standing.specs.declared.phase.Phase.TheVariants as Phases
use Rattle.iso_suites.specs.ScriptLanguage.{scripts}

-- whether a line is one of a key
abbrev pub is_of_key : Line → Bool
is_of_key (Key l) = true
is_of_key (Own w) = false

-- whether a place is one of a node that nobody has taken to be entered, or that waits for a key
-- since: it is Closed, or stands in a line of a key
abbrev pub is_untaken : Place → Bool
is_untaken Closed = true
is_untaken Loose = false
is_untaken (InLine s) = is_of_key s.line
is_untaken (With w) = false
is_untaken Open = false
is_untaken Over = false

-- whether nothing in a class can be entered any more
abbrev pub is_past : Phase → Bool
is_past Phases.Waiting = false
is_past Phases.Begun = false
is_past Phases.Open = false
is_past Phases.Barred = true
is_past Phases.Closing = true
is_past Phases.Finished = true

-- a node of a book is finished without having been entered: it is a descendant of a class that was
-- barred
pub record WasBarred (b : BookView) (n : ℕ) : Type 0 where
  pub finished : phase_in b n ≡ Phases.Finished
  pub class : ℕ
  pub within : class < length b.plan.rows
  pub inside : stands_in scripts (suite_in b) n class ≡ true
  pub past : is_past (phase_in b class) ≡ true

-- a node of a book was never entered
abbrev pub IsUntouched : BookView → ℕ → Type 0
IsUntouched b n = (phase_in b n ≡ Phases.Waiting) ⊎ WasBarred b n

-- each node that is Closed, or stands in a line of a key, was never entered
abbrev pub AreUntouched : BookView → List Place → Type 0
AreUntouched b places = (n : ℕ) → n < length b.plan.rows → is_untaken (place_of places n) ≡ true
    → IsUntouched b n
