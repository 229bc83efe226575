-- What was meant by a path or a pattern that names nothing.
use Rattle.std.specs.Prelude.{ℕ, ◌*◌, ◌/◌, List, [], ◌∷◌, ◌++◌, Bool, ◌&&◌, ◌==◌, Option, None, Some, codes, cond, filter, max, min, nat_eq, nat_le, length, option_map, slice_get, take}
use Rattle.std.specs.List.{ends_with, list_any}
use Rattle.std.specs.Option.{option_or}
use Rattle.std.specs.Str.{bytes_eq}
use Rattle.iso_hints.specs.Nearest.{near_words}
use Rattle.iso_model.specs.Scripts.{Script}
use Rattle.iso_plan.specs.Faults.{class_name}
use Rattle.iso_explain_plan.specs.Meant.{did_you_mean}
use Rattle.iso_explain_plan.specs.Notes.{note}
use Rattle.iso_explain_plan.specs.Parts.{shown}

-- the first class of a script, if it is this team's and has one
abbrev pub class_if_team : List ℕ → Script → Option (List ℕ)
class_if_team team script =
    cond (bytes_eq script.team team) (option_map class_name (slice_get script.classes 0)) None

-- the first class of the first script of this team that has one
abbrev pub first_of_team : List ℕ → List Script → Option (List ℕ)
first_of_team team [] = None
first_of_team team (s ∷ ss) = option_or (class_if_team team s) (first_of_team team ss)

-- whether a path ends so
abbrev pub has_end : List ℕ → List ℕ → Bool
has_end end path = ends_with nat_eq path end

-- the first three of these paths that end with a dot and a word
abbrev pub named_so : List ℕ → List (List ℕ) → List (List ℕ)
named_so word paths = take 3 (filter (has_end (codes "." ++ word)) paths)

-- neither the path nor the word is more than twice as long as the other
abbrev pub has_near_length : List ℕ → List ℕ → Bool
has_near_length word path =
    nat_le (length path) (2 * length word) && nat_le (length word) (2 * length path)

-- how many paths are compared with a word: 4,096, and fewer where the word has more than 64 bytes
abbrev pub most_candidates : List ℕ → ℕ
most_candidates word = let bytes = max (length word) 1 in min (16777216 / bytes / bytes) 4096

-- the first of these paths whose lengths let them be near, as many as are compared
abbrev pub candidates : List ℕ → List (List ℕ) → List (List ℕ)
candidates word paths = take (most_candidates word) (filter (has_near_length word) paths)

-- of these paths the three that are nearest to a word
abbrev pub near_paths : List ℕ → List (List ℕ) → List (List ℕ)
near_paths word paths = take 3 (near_words word (candidates word paths))

-- whether a word has a star, which no path has
abbrev pub has_star : List ℕ → Bool
has_star word = list_any (λ b. b == 42) word

-- a team is no class; what stars stand for; and how a path is written
abbrev pub team_note : (team class : List ℕ) → List ℕ
team_note team class =
    note (shown team ∷ codes " is a team: name a class, as " ∷ shown team ∷ codes "." ∷ shown class
    ∷ codes ", or all of it by --match '" ∷ shown team ∷ codes ".*'" ∷ [])

abbrev pub pattern_note : List ℕ
pattern_note =
    note (codes "the whole path has to match a pattern of --match, where * stands for any bytes: begin with * or a team" ∷ [])

abbrev pub path_note : List ℕ
path_note =
    note (codes "a path is the names of the team, the classes and the test, with dots between: `jtap plan` prints them" ∷ [])

-- that these paths were meant, where there are any, else something else
abbrev pub paths_or : List (List ℕ) → List ℕ → List ℕ
paths_or [] otherwise = otherwise
paths_or (p ∷ ps) otherwise = did_you_mean (p ∷ ps)

-- of a word that is no path's end: what stars stand for, else which paths are near, else how a path
-- is written
abbrev pub other_notes : List ℕ → List (List ℕ) → List ℕ
other_notes word paths =
    cond (has_star word) pattern_note (paths_or (near_paths word paths) path_note)

-- of a word that is no team: which paths end so, else the same
abbrev pub paths_notes : List ℕ → List (List ℕ) → List ℕ
paths_notes word paths = paths_or (named_so word paths) (other_notes word paths)

-- a class of the team, if there is one, else something else
abbrev pub team_or : List ℕ → Option (List ℕ) → List ℕ → List ℕ
team_or team (Some class) otherwise = team_note team class
team_or team None otherwise = otherwise

-- what was meant by a word, of scripts with these paths of classes and tests
abbrev pub unselected_notes : List ℕ → List Script → List (List ℕ) → List ℕ
unselected_notes word scripts paths =
    team_or word (first_of_team word scripts) (paths_notes word paths)
