-- The lines of a report (TAP version 14).
use Rattle.std.specs.Prelude.{ℕ, List, [], ◌++◌, Bool, true, false, cond, codes, replicate}
use Rattle.std.specs.Fmt.{decimal}
use Rattle.iso_model.specs.declared.outcome.Verdict.{Verdict}
use Rattle.iso_model.specs.declared.outcome.Verdict.TheVariants.{Pass, Fail, Fault, Skipped, Blocked}
use Rattle.iso_tap.specs.Escapes.{escaped}

-- a line at an indentation
abbrev pub line_at : (indent : ℕ) → List ℕ → List ℕ
line_at indent text = replicate indent 32 ++ text ++ codes "\n"

-- the first line (TAP 14, version)
abbrev pub version_line : List ℕ
version_line = line_at 0 (codes "TAP version 14")

-- the plan of a level, which has `count` points (TAP 14, plan)
abbrev pub plan_line : (indent count : ℕ) → List ℕ
plan_line indent count = line_at indent (codes "1.." ++ decimal count)

-- the comment above a class's level (TAP 14, subtests)
abbrev pub subtest_line : (indent : ℕ) (title : List ℕ) → List ℕ
subtest_line indent title = line_at indent (codes "# Subtest: " ++ escaped title)

-- whether a verdict by itself lets a point be ok
abbrev pub is_ok_verdict : Verdict → Bool
is_ok_verdict Pass = true
is_ok_verdict (Fail note) = false
is_ok_verdict (Fault kind note) = false
is_ok_verdict (Skipped note) = true
is_ok_verdict (Blocked note) = false

-- the directive of an ok point: where it was skipped, this and the reason (TAP 14, directives)
abbrev pub directive : Verdict → List ℕ
directive Pass = []
directive (Fail note) = []
directive (Fault kind note) = []
directive (Skipped note) = codes " # SKIP " ++ escaped note.message
directive (Blocked note) = []

-- the line of a point, with its number in its level (TAP 14, test points)
abbrev pub point_line : (indent number : ℕ) (ok : Bool) (title : List ℕ) → Verdict → List ℕ
point_line indent number ok title verdict =
    line_at indent (cond ok (codes "ok ") (codes "not ok ") ++ decimal number ++ codes " - "
    ++ escaped title ++ cond ok (directive verdict) [])
