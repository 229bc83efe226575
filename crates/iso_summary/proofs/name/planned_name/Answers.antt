use Rattle.std.proofs.Common.{◌≡◌, ◌<◌, ℕ, ◌+◌, List, ◌++◌, length, get_or, drop, sym, ap, ◌∙◌, arith}
use Rattle.std.proofs.lemmas.Iterator.{YieldsList-from_chars}
use Rattle.std.proofs.lemmas.Iterator.Consumers.{YieldsList-turn, YieldsList-end}
use Rattle.std.proofs.lemmas.List.{at_drop_more, at_drop_all, length_push}
use Rattle.std.proofs.lemmas.Result.{err_from_is_err_and}
use Rattle.std.specs.List.{flat_map}
use Rattle.std.specs.Str.{chars}
use Rattle.iso_summary.specs.Names.{planned_char}
use Rattle.iso_tap.proofs.PrinterLemmas.{left_cut, left_end, left_next}
use Rattle.iso_summary.proofs.name.planned_name.Goals as goal

-- what is left of a name, with its first character apart
next : (cs : List ℕ) (n c : ℕ) → (n < length cs) × (c ≡ get_or cs n c) → flat_map planned_char (drop n cs) ≡ planned_char c ++ flat_map planned_char (drop (n + 1) cs)
next cs n c h = at_drop_more (flat_map planned_char) cs n c h.0 ∙ ap (λ (x : ℕ). planned_char x ++ flat_map planned_char (drop (n + 1) cs)) (sym h.1)

pub returns-in_err-planned_char : goal.returns-in_err-planned_char
returns-in_err-planned_char g c =
    let t = YieldsList-turn (YieldsList-from_chars c.args.name.now c.utf8.name cc) c.loop-c.yielded _ c.loop-c.yielded_by _ _ c.in-Some.c c.in-Some.is c.next.ensures.steps in
    let p = err_from_is_err_and c.from_residual.result c.from_residual.ensures.1 in
    rw p.1 (left_cut _ _ p.0 (next (chars c.args.name.now) (length c.loop-c.yielded) c.in-Some.c t) c.loop-c.invariant c.in_err-planned_char.ensures)

pub loop-c-preserved : goal.loop-c-preserved
loop-c-preserved g c =
    let t = YieldsList-turn (YieldsList-from_chars c.args.name.now c.utf8.name cc) c.loop-c.yielded _ c.loop-c.yielded_by _ _ c.in-Some.c c.in-Some.is c.next.ensures.steps in
    let cs = chars c.args.name.now in
    let more = ap (λ (k : ℕ). planned_char c.in-Some.c ++ flat_map planned_char (drop k cs)) (sym (length_push c.loop-c.yielded c.in-Some.c)) in
    left_next (next cs (length c.loop-c.yielded) c.in-Some.c t ∙ more) c.loop-c.invariant c.in_ok-planned_char.ensures

pub returns : goal.returns
returns g c =
    let t = YieldsList-end (YieldsList-from_chars c.args.name.now c.utf8.name cc) c.loop-c.yielded _ c.loop-c.yielded_by _ _ c.in-None.is c.next.ensures.steps in
    let none = at_drop_all (flat_map planned_char) (chars c.args.name.now) (length c.loop-c.yielded) (omega (arith, t.1)) in
    left_end (rw none at c.loop-c.invariant)
