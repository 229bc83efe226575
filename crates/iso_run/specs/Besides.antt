-- What a command tells besides a report: parts on standard error, and files.
use Rattle.std.specs.Borrow.{Bor}
use Rattle.std.specs.Prelude.{◌≡◌, ◌⊎◌, ℕ, List, [], ◌∷◌, ◌++◌, length, nat_lt, Bool, ◌==◌, ◌||◌, cond, not, Option, None, Some, option_map, unwrap_or}
use Rattle.iso_arguments.specs.declared.request.InputFiles.{InputFiles}
use Rattle.iso_commands.specs.Replays.{RecordedView, can_be_told, recorded, replay_line, too_large_line}
use Rattle.iso_model.specs.declared.limits.TheConstants.{FILE_BYTES}
use Rattle.iso_run.specs.Courses.{IsUnasked}
use Rattle.iso_run.specs.declared.besides.Besides.{Besides}
use Rattle.iso_tap.specs.Sinks.{Account, CutOff, Wrote}
use Rattle.iso_telling.specs.declared.tells.Tells.{Tells}

-- a text, if one is asked for
abbrev pub text_in : Option Account → List ℕ
text_in None = []
text_in (Some text) = unwrap_or text.bytes []

-- how a recorded run is replayed: by a command, where one can be told, but not where its schedule
-- is longer than what is replayed
abbrev pub replayed : (schedule : List ℕ) → RecordedView → List ℕ
replayed schedule run =
    cond (nat_lt FILE_BYTES (length schedule)) (too_large_line run.schedule)
    (cond (can_be_told run) (replay_line run) [])

-- the same, where a run of these files is recorded
abbrev pub replay_text : InputFiles → (processors : ℕ) → Besides → List ℕ
replay_text files processors besides =
    unwrap_or (option_map (λ (name : Bor (List ℕ)). replayed (text_in besides.course.schedule)
    (recorded files processors name.now)) besides.schedule) []

-- what stands on standard error after a report of these files, in this order
abbrev pub parts_of : InputFiles → (processors : ℕ) → Besides → List (List ℕ)
parts_of files processors besides =
    text_in (option_map (λ s. s.text) besides.tells.summary)
    ∷ text_in (option_map (λ d. d.text) besides.tells.durations)
    ∷ text_in besides.course.stats
    ∷ text_in besides.tells.github
    ∷ replay_text files processors besides
    ∷ []

-- a part, with an empty line before it where it comes after another one; an empty text is none
abbrev pub part_text : (after : Bool) → List ℕ → List ℕ
part_text after text = cond (length text == 0) [] (cond after (10 ∷ text) text)

-- whether what follows a text comes after a part
abbrev pub goes_on : (after : Bool) → List ℕ → Bool
goes_on after text = after || not (length text == 0)

-- parts one after another
abbrev pub parted : (after : Bool) → List (List ℕ) → List ℕ
parted after [] = []
parted after (text ∷ texts) = part_text after text ++ parted (goes_on after text) texts

-- the text was handed to a sink, which took it whole, or as far as it did before it failed
abbrev pub IsSaid : List ℕ → (old new : Account) → Type 0
IsSaid text old new = Wrote old new text ⊎ CutOff old new text

-- nothing is to be told on standard error
abbrev pub IsQuiet : Tells → Type 0
IsQuiet tells = (tells.summary ≡ None) × (tells.durations ≡ None) × (tells.github ≡ None)

-- the files that are to be written besides, where they are named
abbrev pub files_of : Besides → List (Option (Bor (List ℕ)))
files_of besides =
    besides.failed ∷ besides.junit ∷ besides.html ∷ besides.schedule ∷ besides.trace ∷ []

-- no file is to be written
abbrev pub NamesNone : Besides → Type 0
NamesNone besides = (besides.failed ≡ None) × (besides.junit ≡ None) × (besides.html ≡ None)
    × (besides.schedule ≡ None) × (besides.trace ≡ None)

-- nothing is to be told on standard error, nothing of the course of a run, and no file is to be
-- written
abbrev pub IsPlain : Besides → Type 0
IsPlain besides = IsQuiet besides.tells × IsUnasked besides.course × NamesNone besides
