use Rattle.std.proofs.Common.{◌≡◌, ◌<◌, ℕ, List, [], Option, None, cond, length, map, get_or, ap, ap₂, sym, subst, ◌∙◌, arith}
use Rattle.std.proofs.lemmas.List.{get_or-map}
use Rattle.std.specs.declared.alloc.Global.{Global}
use Rattle.std.specs.declared.vec.Vec.{Vec}
use Rattle.iso_model.specs.Rights.{access_in, is_writable}
use Rattle.iso_store.specs.Histories.{History}
use Rattle.iso_locks.proofs.KeptLemmas.{kept-all, kept-with, kept-without, of-with}
use Rattle.iso_locks.specs.Kept.{AreOf, kept_by}
use Rattle.iso_locks.specs.Trays.{kept_at}
use Rattle.iso_locks.specs.declared.kept.KeptMark.{KeptMark}
use Rattle.iso_locks.specs.declared.starting.Starting.{Starting}
use Rattle.iso_locks.proofs.kept.kept.Goals as goal
use Rattle.iso_locks.proofs.kept.kept.Goals.{in-Some-mark+in_ok-push, in_default-mark}

pub changed-preserved : goal.changed-preserved
changed-preserved c =
    let rights = c.args.rights.now in
    let starts = c.args.starts.now in
    let ks = map (λ (s : Starting). s.key) starts in
    let values = c.args.values.now in
    let n = c.in-Some.number in
    let told = c.in-Some.ensures.next in
    let below : n < length starts = omega (arith, told.1, c.requires) in
    let start : Starting = c.get.result.now in
    let key : start.key ≡ get_or ks n [] = ap (λ (s : Starting). s.key) c.get.ensures ∙ sym (get_or-map (λ (s : Starting). s.key) starts n start [] below) in
    let this : c.in_ok-mark.mark ≡ kept_at rights ks values n =
    c.in_ok-mark.ensures ∙ ap₂ (λ (k : List ℕ) (h : Option History). cond (is_writable (access_in rights k)) h None) key c.get-in-Some.ensures in
    let inv = c.changed.invariant in
    elim c.match-mark.branch [
      | in-Some-mark+in_ok-push w ↦
          let is = ap (λ (v : Vec KeptMark Global). v.items) w.marks-is ∙ w.in_ok-push.ensures.items in
          record {
            within = omega (arith, told.1);
            marks = of-with rights ks values c.changed.marks.items c.match-mark.marks.items n w.in-Some-mark.mark inv.marks (sym w.in-Some-mark.is ∙ this) is;
            all = kept-with rights ks values c.changed.marks.items c.match-mark.marks.items c.changed.at n w.in-Some-mark.mark told.3 inv.all is;
          }
      | in_default-mark w ↦
          let is = ap (λ (v : Vec KeptMark Global). v.items) w.marks-is in
          record {
            within = omega (arith, told.1);
            marks = subst (AreOf (kept_by rights starts values)) (sym is) inv.marks;
            all = kept-without rights ks values c.changed.marks.items c.match-mark.marks.items c.changed.at n told.3 inv.all (sym w.in_default-mark.is ∙ this) is;
          }
    ]

pub returns-clause-all : goal.returns-clause-all
returns-clause-all c =
    kept-all c.args.rights.now (map (λ (s : Starting). s.key) c.args.starts.now) c.args.values.now c.changed.marks.items c.changed.at c.in_default.ensures.next c.changed.invariant.all
