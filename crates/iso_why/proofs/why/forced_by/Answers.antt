use Rattle.std.proofs.Common.{◌≡◌, ◌<◌, ◌≤◌, Some, None, length, sym, ap, ◌∙◌, arith}
use Rattle.std.proofs.lemmas.List.Elements.{recursion_from_All}
use Rattle.iso_plan.proofs.LockLemmas.{locks-known}
use Rattle.iso_plan.specs.KeyTable.{keys}
use Rattle.iso_plan.specs.Locks.{locks}
use Rattle.iso_plan.specs.Paths.{parent, path}
use Rattle.iso_plan.specs.RowView.{tree_of}
use Rattle.iso_plan.specs.declared.lock.Lock.{Lock}
use Rattle.iso_why.proofs.ReasonLemmas.{forced-above, forced-here, forced-root, written-known}
use Rattle.iso_why.specs.ModeReasons.{first_written, forced_by}
use Rattle.iso_why.proofs.why.forced_by.Goals as goal

pub returns-in-Some : goal.returns-in-Some
returns-in-Some c =
    let tree = tree_of c.args.plan.now in
    let n = c.up.class in
    let e : first_written (locks tree n) ≡ Some c.in-Some.key = sym (c.in-Some.ensures ∙ ap first_written c.locks.ensures.locks) in
    let within : n < length c.args.plan.now.rows = let h = c.requires in let k = c.up.invariant.within in omega arith in
    record {
      forced = sym (forced-here tree c.parents_come_first.ensures n c.in-Some.key c.up-test.true e) ∙ c.up.invariant.same;
      known = (
        c.up-test.true,
        within,
        written-known (locks tree n) (length (keys tree)) c.in-Some.key
            (recursion_from_All (λ (l : Lock). l.key < length (keys tree)) (locks tree n) (locks-known tree n)) e,
      );
    }

pub up-preserved : goal.up-preserved
up-preserved c =
    let tree = tree_of c.args.plan.now in
    let n = c.up.class in
    let below = c.parents_come_first.ensures in
    let e : first_written (locks tree n) ≡ None = sym (c.in_default.ensures ∙ ap first_written c.locks.ensures.locks) in
    let less : parent tree n < n = below n c.up-test.true in
    record {
      within = let p = c.class_of-class.ensures in let k = c.up.invariant.within in omega arith;
      same = ap (λ j. forced_by tree (path tree j)) c.class_of-class.ensures ∙ sym (forced-above tree below n c.up-test.true e) ∙ c.up.invariant.same;
    }

pub returns-clause-forced : goal.returns-clause-forced
returns-clause-forced c =
    let tree = tree_of c.args.plan.now in
    let root : c.up.class ≡ 0 = omega arith in
    sym (forced-root tree) ∙ ap (λ j. forced_by tree (path tree j)) (sym root) ∙ c.up.invariant.same
