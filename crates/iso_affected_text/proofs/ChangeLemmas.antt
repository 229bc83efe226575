-- The nodes of which something is told.
use Rattle.std.proofs.Common.{◌≡◌, ◌<◌, ℕ, get_or, length, subst, arith}
use Rattle.std.proofs.lemmas.List.{get_or_default}
use Rattle.iso_affected.proofs.NamesakeLemmas.{namesake-node}
use Rattle.iso_affected.specs.Fates.{IsFate, IsNode, suites}
use Rattle.iso_affected.specs.declared.affected.Fate.{Fate}
use Rattle.iso_affected.specs.declared.affected.Fate.TheVariants as F
use Rattle.iso_affected_text.specs.Changes.{IsChange}
use Rattle.iso_affected_text.specs.declared.change.Change.{Change}
use Rattle.iso_plan.specs.Paths.{IsTree}
use Rattle.iso_plan.specs.RowView.{tree_of}

-- a node of the new suite has a fate, which is read with whatever stands past the end
pub fate-inside : (c : Change) → IsChange c → (n : ℕ) → n < length c.new.plan.now.rows → n < length c.fates.now
fate-inside c is n h = omega (arith, is.each)

pub fate-read : (c : Change) → IsChange c → (n : ℕ) (d : Fate) → n < length c.new.plan.now.rows → get_or c.fates.now n F.New ≡ get_or c.fates.now n d
fate-read c is n d h = get_or_default c.fates.now n F.New d (fate-inside c is n h)

-- the namesake of a changed node is a node other than the root
pub told-node : (c : Change) → IsChange c → IsTree (tree_of c.new.plan.now) → (n m : ℕ) → 0 < n → n < length (tree_of c.new.plan.now) → get_or c.fates.now n F.New ≡ F.Changed m
    → IsNode (tree_of c.old.plan.now) m
told-node c is u n m pos inside e =
    let fate : IsFate (suites c.old.plan.now is.before c.new.plan.now is.after) n (F.Changed m) =
    subst (IsFate (suites c.old.plan.now is.before c.new.plan.now is.after) n) e (is.fates n inside) in
    namesake-node (tree_of c.old.plan.now) (tree_of c.new.plan.now) u n m pos fate.0.is
