use Rattle.std.proofs.Common.{◌≡◌, ◌==◌, [], ◌∷◌, List, length, suc, true, sym, refl, ◌∙◌, arith}
use Rattle.std.proofs.lemmas.List.{get_or_default}
use Rattle.iso_plan.proofs.PathLemmas.{eq_from}
use Rattle.iso_plan.proofs.SplitLemmas.{idle-again, idle-empty}
use Rattle.iso_plan.specs.declared.lock.Lock.{Lock}
use Rattle.iso_plan.proofs.key_groups.is_idle.Goals as goal

is-empty : (ls : List Lock) → (length ls == 0) ≡ true → ls ≡ []
is-empty [] e = refl
is-empty (l ∷ ls) e = absurd (let none : suc (length ls) ≡ 0 = eq_from (suc (length ls)) 0 e in cc)

pub returns-then-is_empty : goal.returns-then-is_empty
returns-then-is_empty c = λ e.
    let all = c.args.locks.now in
    idle-empty all c.args.n
    (get_or_default all c.args.n [] c.index-locks-n.result (omega (arith, c.requires.within)) ∙ sym c.index-locks-n.is ∙ sym c.as_slice-list.ensures
    ∙ is-empty c.as_slice-list.result.now (sym c.is_empty.ensures ∙ c.if-is_empty.true))

pub returns : goal.returns
returns c = λ e. idle-again c.args.locks.now c.args.n c.requires.within (c.is_as_before.ensures e)
