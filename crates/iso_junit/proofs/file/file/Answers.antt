use Rattle.std.proofs.Common.{◌≡◌, ◌<◌, ℕ, ◌+◌, List, ◌++◌, length, get_or, drop, sym, ap, ◌∙◌, arith}
use Rattle.std.proofs.lemmas.Iterator.{YieldsList-from_chars}
use Rattle.std.proofs.lemmas.Iterator.Consumers.{YieldsList-turn, YieldsList-end}
use Rattle.std.proofs.lemmas.List.{at_drop_more, at_drop_all, length_push}
use Rattle.std.proofs.lemmas.Result.{err_from_is_err_and}
use Rattle.std.specs.List.{flat_map}
use Rattle.std.specs.Str.{chars}
use Rattle.iso_junit.proofs.EscapeLemmas.{escaped-append}
use Rattle.iso_junit.specs.Escapes.{escaped}
use Rattle.iso_junit.specs.Files.{file_char}
use Rattle.iso_tap.proofs.PrinterLemmas.{left_cut, left_end, left_next}
use Rattle.iso_junit.proofs.file.file.Goals as goal

-- what is left of a name, with its first character apart
next : (cs : List ℕ) (n c : ℕ) → (n < length cs) × (c ≡ get_or cs n c) → escaped (flat_map file_char (drop n cs)) ≡ escaped (file_char c) ++ escaped (flat_map file_char (drop (n + 1) cs))
next cs n c h =
    ap escaped (at_drop_more (flat_map file_char) cs n c h.0 ∙ ap (λ (x : ℕ). file_char x ++ flat_map file_char (drop (n + 1) cs)) (sym h.1))
    ∙ escaped-append (file_char c) (flat_map file_char (drop (n + 1) cs))

pub returns-in_err-char : goal.returns-in_err-char
returns-in_err-char g c =
    let t = YieldsList-turn (YieldsList-from_chars c.args.file.now c.utf8.file cc) c.loop-c.yielded _ c.loop-c.yielded_by _ _ c.in-Some.c c.in-Some.is c.next.ensures.steps in
    let p = err_from_is_err_and c.from_residual.result c.from_residual.ensures.1 in
    rw p.1 (left_cut _ _ p.0 (next (chars c.args.file.now) (length c.loop-c.yielded) c.in-Some.c t) c.loop-c.invariant c.in_err-char.ensures)

pub loop-c-preserved : goal.loop-c-preserved
loop-c-preserved g c =
    let t = YieldsList-turn (YieldsList-from_chars c.args.file.now c.utf8.file cc) c.loop-c.yielded _ c.loop-c.yielded_by _ _ c.in-Some.c c.in-Some.is c.next.ensures.steps in
    let cs = chars c.args.file.now in
    let more = ap (λ (k : ℕ). escaped (file_char c.in-Some.c) ++ escaped (flat_map file_char (drop k cs))) (sym (length_push c.loop-c.yielded c.in-Some.c)) in
    left_next (next cs (length c.loop-c.yielded) c.in-Some.c t ∙ more) c.loop-c.invariant c.in_ok-char.ensures

pub returns : goal.returns
returns g c =
    let t = YieldsList-end (YieldsList-from_chars c.args.file.now c.utf8.file cc) c.loop-c.yielded _ c.loop-c.yielded_by _ _ c.in-None.is c.next.ensures.steps in
    let none = at_drop_all (λ (cs : List ℕ). escaped (flat_map file_char cs)) (chars c.args.file.now) (length c.loop-c.yielded) (omega (arith, t.1)) in
    left_end (rw none at c.loop-c.invariant)
