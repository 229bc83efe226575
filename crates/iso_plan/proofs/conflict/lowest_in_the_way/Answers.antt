use Rattle.std.proofs.Common.{◌≡◌, ℕ, suc, ◌+◌, ◌<◌, ◌&&◌, List, [], ◌∷◌, ◌==◌, length, Bool, true, false, ap, ap₂, sym, subst, ◌∙◌, arith, refl}
use Rattle.iso_plan.proofs.ConflictLemmas.{conflicts-is, conflict-none, lowest-here, lowest-never, lowest-pass, lowest-stays}
use Rattle.iso_plan.proofs.MergeLemmas.{locks-rise}
use Rattle.iso_plan.proofs.PathLemmas.{eq_from}
use Rattle.iso_plan.specs.Conflicts.{conflicts, is_in_the_way}
use Rattle.iso_plan.specs.Locks.{conflict, locks}
use Rattle.iso_plan.specs.Rising.{Rise}
use Rattle.iso_plan.specs.RowView.{tree_of}
use Rattle.iso_plan.specs.Tree.{Row}
use Rattle.iso_plan.specs.declared.lock.Lock.{Lock}
use Rattle.iso_plan.proofs.conflict.lowest_in_the_way.Goals as goal
use Rattle.iso_plan.proofs.conflict.lowest_in_the_way.Goals.{else-is_held-via-then-is_held+else-conflicts, else-is_held-via-else-is_held}

and-false : (a : Bool) → (a && false) ≡ false
and-false true = refl
and-false false = refl

is-empty : (ls : List Lock) → (length ls == 0) ≡ true → ls ≡ []
is-empty [] e = refl
is-empty (l ∷ ls) e = absurd (let no : suc (length ls) ≡ 0 = eq_from (suc (length ls)) 0 e in cc)

told : (tree : List Row) (m n : ℕ) (ls ms : List Lock) (r b : Bool) → ls ≡ locks tree m → ms ≡ locks tree n → r ≡ conflicts ls ms → r ≡ b → conflict tree m n ≡ b
told tree m n ls ms r b l k is e =
    sym (conflicts-is tree m n) ∙ sym (ap₂ (λ (xs ys : List Lock). conflicts xs ys) l k) ∙ sym is ∙ e

pub returns-then-is_empty : goal.returns-then-is_empty
returns-then-is_empty g c =
    let tree = tree_of c.args.plan.now in
    let n = c.args.node in
    let held : ℕ → Bool = g.H.Holders.held c.args.holders.now in
    let none : locks tree n ≡ [] = sym c.locks-taken.ensures.locks ∙ is-empty c.locks-taken.result.now (sym c.is_empty.ensures ∙ c.if-is_empty.true) in
    sym (lowest-never (is_in_the_way tree held n) (λ j. ap (λ (q : Bool). held j && q) (conflict-none tree j n none) ∙ and-false (held j)) (length tree))

pub returns-then-conflicts : goal.returns-then-conflicts
returns-then-conflicts g c =
    let tree = tree_of c.args.plan.now in
    let m = c.nodes.m in
    let n = c.args.node in
    let test : ℕ → Bool = is_in_the_way tree (g.H.Holders.held c.args.holders.now) n in
    let clash : conflict tree m n ≡ true = told tree m n c.locks.result.now c.locks-taken.result.now c.conflicts.result true c.locks.ensures.locks c.locks-taken.ensures.locks
    c.conflicts.ensures c.if-conflicts.true in
    let passes : test m ≡ true = ap₂ (λ (p q : Bool). p && q) (sym c.is_held.ensures ∙ c.if-is_held.true) clash in
    let within : m + 1 < length tree + 1 = omega (arith, c.len-m-end.ensures) in
    sym (lowest-stays test (m + 1) (length tree) m (lowest-here test m c.nodes.invariant passes) within)

pub nodes-preserved : goal.nodes-preserved
nodes-preserved g c =
    let tree = tree_of c.args.plan.now in
    let m = c.nodes.m in
    let n = c.args.node in
    let held : ℕ → Bool = g.H.Holders.held c.args.holders.now in
    let fails : is_in_the_way tree held n m ≡ false = elim c.else-is_held.branch [
      | else-is_held-via-then-is_held+else-conflicts w ↦
          ap (λ (q : Bool). held m && q) (told tree m n w.locks.result.now c.locks-taken.result.now w.conflicts.result false w.locks.ensures.locks c.locks-taken.ensures.locks
          w.conflicts.ensures w.if-conflicts.false) ∙ and-false (held m)
      | else-is_held-via-else-is_held w ↦ ap (λ (p : Bool). p && conflict tree m n) (sym c.is_held.ensures ∙ w.if-is_held.false)
    ] in
    lowest-pass (is_in_the_way tree held n) m c.nodes.invariant fails

rise : (tree : List Row) (n : ℕ) (ls : List Lock) → ls ≡ locks tree n → Rise ls
rise tree n ls e = subst Rise (sym e) (locks-rise tree n)

pub conflicts-requires-clause-some : goal.conflicts-requires-clause-some
conflicts-requires-clause-some g c = rise (tree_of c.args.plan.now) c.nodes.m c.locks.result.now c.locks.ensures.locks

pub conflicts-requires-clause-others : goal.conflicts-requires-clause-others
conflicts-requires-clause-others g c = rise (tree_of c.args.plan.now) c.args.node c.locks-taken.result.now c.locks-taken.ensures.locks
