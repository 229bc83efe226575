-- The fate of the root, and of a node from that of the class that it stands in.
use Rattle.std.proofs.Common.{◌≡◌, ℕ, zero, suc, ◌<◌, ◌≤◌, List, [], ◌∷◌, length, get_or, true, Some, None, is_none, sym, ap, ◌∙◌, subst, arith, true≢false}
use Rattle.std.specs.List.{All}
use Rattle.iso_affected.proofs.AgreeSteps.{agree-down, agree-own, agree-up}
use Rattle.iso_affected.proofs.NamesakeLemmas.{namesake-root, namesake-step}
use Rattle.iso_affected.specs.Agreeing.{NodesAgree, OwnAgree}
use Rattle.iso_affected.specs.Fates.{IsFate, IsNamesake, IsNode, Suites, gone, has_gone, in_new, in_old}
use Rattle.iso_affected.specs.Namesakes.{child_named, namesake}
use Rattle.iso_affected.specs.declared.affected.Fate.{Fate}
use Rattle.iso_affected.specs.declared.affected.Fate.TheVariants.{Changed, New, Same}
use Rattle.iso_plan.proofs.LawLemmas.{root-unreadable}
use Rattle.iso_plan.proofs.NumberLemmas.{number-small, those-are}
use Rattle.iso_plan.proofs.PathLemmas.{path-root}
use Rattle.iso_plan.specs.Children.{IsChild}
use Rattle.iso_plan.specs.NodeChains.{chain_classes, chain_test, heads_on, own_test}
use Rattle.iso_plan.specs.Paths.{IsTree, parent, row_at}
use Rattle.iso_plan.specs.RowView.{tree_of}
use Rattle.iso_plan.specs.Tree.{Row}
use Rattle.iso_suites.specs.PlanSuites.{head_of}

no-classes : (tree : List Row) → chain_classes tree 0 ≡ []
no-classes tree = ap (heads_on tree) (path-root tree)

no-test : (tree : List Row) → IsTree tree → chain_test tree 0 ≡ None
no-test tree t = ap (λ (r : Row). own_test r.kind) t.root_is

pub roots-agree : (s : Suites) → IsTree (tree_of s.old) → IsTree (tree_of s.new) → NodesAgree (in_old s 0) (in_new s 0)
roots-agree s t u = record {
  classes = no-classes (tree_of s.old) ∙ sym (no-classes (tree_of s.new));
  test = no-test (tree_of s.old) t ∙ sym (no-test (tree_of s.new) u);
  starts = record { same = λ k e. absurd (true≢false (sym e ∙ root-unreadable (tree_of s.old) t k)) };
}

pub root-fate : (s : Suites) → IsTree (tree_of s.old) → IsTree (tree_of s.new) → IsFate s 0 (Same 0)
root-fate s t u = (record { within = t.rooted; is = namesake-root (tree_of s.old) (tree_of s.new) }, roots-agree s t u)

pub first-fate : (s : Suites) (fs : List Fate) → fs ≡ Same 0 ∷ [] → IsFate s 0 (Same 0) → (n : ℕ) → n < 1 → IsFate s n (get_or fs n New)
first-fate s fs e root zero h = subst (λ (f : Fate). IsFate s 0 f) (sym (ap (λ (l : List Fate). get_or l 0 New) e)) root
first-fate s fs e root (suc n) h = absurd (omega arith)

module _ (s : Suites) (t : IsTree (tree_of s.old)) (u : IsTree (tree_of s.new)) (n : ℕ) (pos : 0 < n) (inside : n < length (tree_of s.new)) where
  -- what stands in a class without a namesake has none
  pub new-fate : IsFate s (parent (tree_of s.new) n) New → IsFate s n New
  new-fate none = namesake-step (tree_of s.old) (tree_of s.new) u n pos ∙ ap (child_named (tree_of s.old) (row_at (tree_of s.new) n).name) none

  module _ (class m : ℕ) (child : IsChild (tree_of s.old) class (length (tree_of s.old)) m) (is : namesake (tree_of s.old) (tree_of s.new) n ≡ Some m) where
    abbrev AboveAgree : ℕ → Type 0
    AboveAgree p = NodesAgree (in_old s p) (in_new s (parent (tree_of s.new) n))

    abbrev Own : Type 0
    Own = OwnAgree s.before s.after (head_of (row_at (tree_of s.old) m).kind) (head_of (row_at (tree_of s.new) n).kind)

    namesake-is : IsNamesake s n m
    namesake-is = record { within = child.within; is = is }

    pub same-fate : IsFate s (parent (tree_of s.new) n) (Same class) → Own → IsFate s n (Same m)
    same-fate up own =
        (namesake-is, agree-down s.old s.new t u s.before s.after m n child.positive child.within pos inside own (subst AboveAgree (sym child.parent_is) up.1))

    pub own-fate : (Own → ⊥) → IsFate s n (Changed m)
    own-fate apart = (namesake-is, λ whole. apart (agree-own s.old s.new t u s.before s.after m n child.positive child.within pos inside whole))

    pub changed-fate : IsFate s (parent (tree_of s.new) n) (Changed class) → IsFate s n (Changed m)
    changed-fate up =
        (namesake-is, λ whole. up.1 (subst AboveAgree child.parent_is (agree-up s.old s.new t u s.before s.after m n child.positive child.within pos inside whole)))

gone-above : (old new : List Row) (m : ℕ) → has_gone old new m ≡ true → 0 < m
gone-above old new zero e = absurd (true≢false (sym e ∙ ap is_none (namesake-root new old)))
gone-above old new (suc m) e = omega arith

-- what has gone are nodes other than the root
pub gone-nodes : (old new : List Row) → All (IsNode old) (gone old new)
gone-nodes old new k d h =
    let among = those-are (has_gone old new) (length old) k d h in
    record { above = gone-above old new _ among.passed; within = among.within }

-- they are no more than there are nodes
pub gone-few : (old new : List Row) → length (gone old new) ≤ length old
gone-few old new = number-small (has_gone old new) (length old)
