-- Signs and words.
use Rattle.std.specs.Prelude.{ℕ, List, [], Bool, ◌==◌, cond, codes}
use Rattle.iso_model.specs.declared.access.Access.{Access}
use Rattle.iso_model.specs.declared.access.Access.TheVariants.{Read, Write}
use Rattle.iso_model.specs.declared.outcome.Verdict.{Verdict}
use Rattle.iso_model.specs.declared.outcome.Verdict.TheVariants.{Pass, Fail, Fault, Skipped, Blocked}
use Rattle.iso_model.specs.declared.script.Mode.{Mode}
use Rattle.iso_model.specs.declared.script.Mode.TheVariants.{SameThread, Concurrent}

-- the word for one thing, or the word for several
abbrev pub word_for : ℕ → (one many : List ℕ) → List ℕ
word_for n one many = cond (n == 1) one many

-- a check mark, or a cross
abbrev pub ok_sign : Bool → List ℕ
ok_sign ok = cond ok (codes "<span class=\"ok\">&#10003; ok</span>")
    (codes "<span class=\"bad\">&#10007; not ok</span>")

-- the sign of a node with a verdict; one that passed is not ok where something in it isn't
abbrev pub sign : (ok : Bool) → Verdict → List ℕ
sign ok Pass = ok_sign ok
sign ok (Fail note) = codes "<span class=\"bad\">&#10007; fail</span>"
sign ok (Fault kind note) = codes "<span class=\"bad\">&#10007; fault</span>"
sign ok (Skipped note) = codes "<span class=\"skip\">&#8211; skipped</span>"
sign ok (Blocked note) = codes "<span class=\"block\">&#9632; blocked</span>"

-- a verdict in a word
abbrev pub verdict_word : Verdict → List ℕ
verdict_word Pass = codes "ok"
verdict_word (Fail note) = codes "fail"
verdict_word (Fault kind note) = codes "fault"
verdict_word (Skipped note) = codes "skipped"
verdict_word (Blocked note) = codes "blocked"

-- a mode in words
abbrev pub mode_word : Mode → List ℕ
mode_word SameThread = codes "same thread"
mode_word Concurrent = codes "concurrent"

-- what a node does with a key that it takes
abbrev pub access_verb : Access → List ℕ
access_verb Read = codes ", reads"
access_verb Write = codes ", writes"

-- that a body is critical, or that one of several is
abbrev pub critical_word : Bool → List ℕ
critical_word critical = cond critical (codes ", critical") []
