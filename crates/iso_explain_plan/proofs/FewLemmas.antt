-- What is told of a plan is few lines.
use Rattle.std.proofs.Common.{◌≡◌, ◌<◌, ◌≤◌, ◌^◌, ◌-◌, ℕ, ◌+◌, List, [], ◌∷◌, ◌++◌, Bool, true, false, Option, None, Some, cond, codes, take, refl, arith}
use Rattle.std.specs.Fmt.{decimal}
use Rattle.iso_model.specs.Scripts.{Script}
use Rattle.iso_model.specs.declared.limits.TheConstants.{KEYS, NODES}
use Rattle.iso_explain_plan.specs.Meant.{did_you_mean}
use Rattle.iso_explain_plan.specs.Parts.{shown}
use Rattle.iso_explain_plan.specs.Plans.{keys_note, keys_notes, nodes_note, nodes_notes, part_note}
use Rattle.iso_explain_plan.specs.Printable.{AreCounts, AreLines, no_line}
use Rattle.iso_explain_plan.specs.Sizes.{size_note, sizes_notes}
use Rattle.iso_explain_plan.specs.Unselected.{first_of_team, has_star, named_so, near_paths, path_note, paths_notes, paths_or, pattern_note, team_note, team_or, unselected_notes}
use Rattle.iso_explain_plan.specs.declared.size.Size.{Size}
use Rattle.iso_explain_plan.proofs.LineLemmas.{decimal-is-printable, lines-append, note-is-line, shown-is-printable}

-- paths that were meant
meant_is_line : (p : List ℕ) (ps : List (List ℕ)) → AreLines 1 (did_you_mean (p ∷ ps))
meant_is_line p [] = note-is-line (codes "did you mean " ∷ shown p ∷ codes "?" ∷ []) (refl, (shown-is-printable p, (refl, tt)))
meant_is_line p (q ∷ []) =
    note-is-line (codes "did you mean " ∷ shown p ∷ codes " or " ∷ shown q ∷ codes "?" ∷ [])
    (refl, (shown-is-printable p, (refl, (shown-is-printable q, (refl, tt)))))
meant_is_line p (q ∷ r ∷ more) =
    note-is-line (codes "did you mean " ∷ shown p ∷ codes ", " ∷ shown q ∷ codes " or " ∷ shown r ∷ codes "?" ∷ [])
    (refl, (shown-is-printable p, (refl, (shown-is-printable q, (refl, (shown-is-printable r, (refl, tt)))))))

paths_are_line : (paths : List (List ℕ)) (otherwise : List ℕ) → AreLines 1 otherwise → AreLines 1 (paths_or paths otherwise)
paths_are_line [] otherwise h = h
paths_are_line (p ∷ ps) otherwise h = meant_is_line p ps

words_are_line : (word : List ℕ) (paths : List (List ℕ)) → AreLines 1 (paths_notes word paths)
words_are_line word paths = paths_are_line (named_so word paths) _ (by (has_star word))
  where
    by : (b : Bool) → AreLines 1 (cond b pattern_note (paths_or (near_paths word paths) path_note))
    by true = note-is-line (codes "the whole path has to match a pattern of --match, where * stands for any bytes: begin with * or a team" ∷ []) (refl, tt)
    by false =
        paths_are_line (near_paths word paths) path_note
        (note-is-line (codes "a path is the names of the team, the classes and the test, with dots between: `jtap plan` prints them" ∷ []) (refl, tt))

pub meant-is-line : (word : List ℕ) (scripts : List Script) (paths : List (List ℕ)) → AreLines 1 (unselected_notes word scripts paths)
meant-is-line word scripts paths = by (first_of_team word scripts)
  where
    by : (class : Option (List ℕ)) → AreLines 1 (team_or word class (paths_notes word paths))
    by None = words_are_line word paths
    by (Some class) =
        note-is-line (shown word ∷ codes " is a team: name a class, as " ∷ shown word ∷ codes "." ∷ shown class
        ∷ codes ", or all of it by --match '" ∷ shown word ∷ codes ".*'" ∷ [])
        (shown-is-printable word, (refl, (shown-is-printable word, (refl, (shown-is-printable class, (refl, (shown-is-printable word, (refl, tt))))))))

-- classes with their counts
size_is_line : (size : Size) → size.count < 2 ^ 64 → AreLines 1 (size_note size)
size_is_line size h =
    note-is-line (shown size.path.now ∷ codes " has " ∷ decimal size.count ∷ codes " of them" ∷ [])
    (shown-is-printable size.path.now, (refl, (decimal-is-printable size.count h, (refl, tt))))

three_are_lines : (sizes : List Size) → AreCounts sizes → (n : ℕ) × (n ≤ 3) × AreLines n (sizes_notes (take 3 sizes))
three_are_lines [] h = (0, omega arith, no_line)
three_are_lines (a ∷ []) h = (1, omega arith, lines-append (size_is_line a h.0) no_line)
three_are_lines (a ∷ b ∷ []) h = (2, omega arith, lines-append (size_is_line a h.0) (lines-append (size_is_line b h.1.0) no_line))
three_are_lines (a ∷ b ∷ c ∷ more) h =
    (3, omega arith, lines-append (size_is_line a h.0) (lines-append (size_is_line b h.1.0) (lines-append (size_is_line c h.1.1.0) no_line)))

part_is_line : AreLines 1 part_note
part_is_line = note-is-line (codes "--only, --match and --shard keep a part of a suite" ∷ []) (refl, tt)

-- a line, lines of classes and a last line
with_sizes : (first : List ℕ) (sizes : List Size) → AreLines 1 first → AreCounts sizes
    → (n : ℕ) × (n ≤ 5) × AreLines n (first ++ sizes_notes (take 3 sizes) ++ part_note)
with_sizes first sizes h k =
    let three = three_are_lines sizes k in
    let few = three.1 in
    ((1 + three.0) + 1, omega (arith, few), lines-append (lines-append h three.2) part_is_line)

pub nodes-are-few : (count : ℕ) (sizes : List Size) → count < 2 ^ 64 → AreCounts sizes
    → (n : ℕ) × (n ≤ 5) × AreLines n (nodes_notes count (take 3 sizes))
nodes-are-few count sizes h k =
    with_sizes (nodes_note count) sizes
    (note-is-line (codes "the scripts have " ∷ decimal count ∷ codes " classes and tests, and a plan has at most " ∷ decimal (NODES - 1) ∷ [])
    (refl, (decimal-is-printable count h, (refl, (decimal-is-printable (NODES - 1) (omega arith), tt))))) k

pub keys-are-few : (count : ℕ) (sizes : List Size) → count < 2 ^ 64 → AreCounts sizes
    → (n : ℕ) × (n ≤ 5) × AreLines n (keys_notes count (take 3 sizes))
keys-are-few count sizes h k =
    with_sizes (keys_note count) sizes
    (note-is-line (codes "the scripts declare " ∷ decimal count ∷ codes " different keys, and a plan has at most " ∷ decimal KEYS ∷ [])
    (refl, (decimal-is-printable count h, (refl, (decimal-is-printable KEYS (omega arith), tt))))) k
