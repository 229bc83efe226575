use Rattle.std.proofs.Common.{◌<◌, ◌≤◌, ◌≡◌, ◌+◌, ℕ, cond, get_or, set, length, ap, sym, ◌∙◌, arith}
use Rattle.std.proofs.lemmas.List.{get_or_default, length-set}
use Rattle.iso_conflicts.proofs.TestLemmas.{at-rest, climb, one-more}
use Rattle.iso_plan.specs.Paths.{is_under, parent}
use Rattle.iso_plan.specs.RowView.{tree_of}
use Rattle.iso_conflicts.proofs.tests.count_up.Goals as goal

pub index_mut-requires : goal.index_mut-requires
index_mut-requires c =
    let inside : c.up.node < length c.up.counts.items = let w = c.requires.within in let e = c.up.invariant.each in let k = c.up.invariant.within in omega arith in
    omega (arith, c.up.counts.ok.0)

pub up-preserved : goal.up-preserved
up-preserved c =
    let tree = tree_of c.args.plan.now in
    let xs = c.up.counts.items in
    let n = c.up.node in
    let inside : n < length xs = let w = c.requires.within in let e = c.up.invariant.each in let k = c.up.invariant.within in omega arith in
    let less : parent tree n < n = c.parents_come_first.ensures n c.up-test.true in
    let read : c.index_mut.result.now ≡ get_or xs n 0 = c.index_mut.ensures.value ∙ get_or_default xs n c.index_mut.result.now 0 inside in
    let new = set xs n (c.index_mut.result.now + 1) in
    record {
      within = let e = c.class_of-node.ensures in let k = c.up.invariant.within in omega arith;
      each = length-set xs n (c.index_mut.result.now + 1) ∙ c.up.invariant.each;
      left = λ m.
          ap (λ (p : ℕ). get_or new m 0 + cond (is_under tree m p) 1 0) c.class_of-node.ensures
          ∙ climb tree c.parents_come_first.ensures m n c.up-test.true (get_or xs m 0) (get_or new m 0)
          (ap (λ (x : ℕ). get_or (set xs n (x + 1)) m 0) read ∙ one-more xs n m inside)
          ∙ c.up.invariant.left m;
    }

pub returns-clause-counted : goal.returns-clause-counted
returns-clause-counted c = λ m. at-rest (tree_of c.args.plan.now) m c.up.node _ _ c.up-test.false (c.up.invariant.left m)
