use Rattle.std.proofs.Common.{◌≡◌, List, [], ◌∷◌, suc, length, ◌==◌, true, ◌∙◌, sym, refl}
use Rattle.iso_plan.proofs.PathLemmas.{eq_from}
use Rattle.iso_plan.specs.Locks.{locks}
use Rattle.iso_plan.specs.RowView.{tree_of}
use Rattle.iso_plan.specs.declared.lock.Lock.{Lock}
use Rattle.iso_waits.proofs.WaitLemmas.{rivals-more, rivals-none, rivals-skip}
use Rattle.iso_waits.proofs.rivals.collect.Goals as goal
use Rattle.iso_waits.proofs.rivals.collect.Goals.{then-conflict+in_ok-push, else-conflict}

is-empty : (ls : List Lock) → (length ls == 0) ≡ true → ls ≡ []
is-empty [] e = refl
is-empty (l ∷ ls) e = absurd (let no : suc (length ls) ≡ 0 = eq_from (suc (length ls)) 0 e in cc)

pub returns-then-is_empty-clause-found : goal.returns-then-is_empty-clause-found
returns-then-is_empty-clause-found c =
    let tree = tree_of c.args.plan.now in
    let none : locks tree c.args.node ≡ [] = sym c.locks.ensures.locks ∙ is-empty c.locks.result.now (sym c.is_empty.ensures ∙ c.if-is_empty.true) in
    c.requires.empty ∙ sym (rivals-none tree c.args.stays.now c.args.node none)

pub loop-stay-preserved : goal.loop-stay-preserved
loop-stay-preserved c =
    let tree = tree_of c.args.plan.now in
    let stays = c.args.stays.now in
    let n = c.args.node in
    let i = c.loop-stay.stay-index in
    let found = c.loop-stay.found.items in
    elim c.if-conflict.branch [
      | then-conflict+in_ok-push w ↦
          record {
            found = rw w.found-is (rivals-more tree stays found _ n i _ c.loop-stay-test.true (sym c.conflict.ensures.conflict ∙ w.if-conflict.true) c.loop-stay.invariant.found
                w.in_ok-push.ensures.items);
            keys = c.conflict.ensures.known;
          }
      | else-conflict w ↦
          record {
            found = rw w.found-is (rivals-skip tree stays found n i _ c.loop-stay-test.true (sym c.conflict.ensures.conflict ∙ w.if-conflict.false) c.loop-stay.invariant.found);
            keys = c.conflict.ensures.known;
          }
    ]
