use Rattle.std.proofs.Common.{Option, ℕ, IfSome, length, sym, ◌∙◌, subst, true≢false}
use Rattle.iso_affected.proofs.FateLemmas.{changed-fate, new-fate, own-fate, same-fate}
use Rattle.iso_affected.specs.Fates.{IsFate, Suites, suites}
use Rattle.iso_affected.specs.declared.affected.Fate.TheVariants.{Changed, Same}
use Rattle.iso_plan.specs.Children.{IsChild}
use Rattle.iso_plan.specs.Paths.{parent}
use Rattle.iso_plan.specs.RowView.{tree_of}
use Rattle.iso_affected.proofs.affected.fate_in.Goals as goal

pub returns-in-Some-clause-fate : goal.returns-in-Some-clause-fate
returns-in-Some-clause-fate c =
    let s : Suites = suites c.args.old.now c.args.starts.now.before c.args.new.now c.args.starts.now.after in
    let n = c.args.node in
    let up : IsFate s (parent (tree_of s.new) n) (Same c.in-Same.class) = subst (IsFate s (parent (tree_of s.new) n)) c.in-Same.is c.requires.class in
    let child : IsChild (tree_of s.old) c.in-Same.class (length (tree_of s.old)) c.in-Some.namesake =
    subst (λ (o : Option ℕ). IfSome o (IsChild (tree_of s.old) c.in-Same.class (length (tree_of s.old)))) c.in-Some.is c.namesake_in.ensures.child in
    same-fate s c.nodes_are_a_tree.ensures c.nodes_are_a_tree-2.ensures n c.requires.above c.requires.within c.in-Same.class c.in-Some.namesake child
    (sym c.namesake_in.ensures.namesake ∙ c.in-Some.is) up (c.in_ok-own_agree-in-Same.ensures.agree.0 c.if-branch.true)

pub returns-in-Some-2-clause-fate : goal.returns-in-Some-2-clause-fate
returns-in-Some-2-clause-fate c =
    let s : Suites = suites c.args.old.now c.args.starts.now.before c.args.new.now c.args.starts.now.after in
    let child : IsChild (tree_of s.old) c.in-Same.class (length (tree_of s.old)) c.in-Some.namesake =
    subst (λ (o : Option ℕ). IfSome o (IsChild (tree_of s.old) c.in-Same.class (length (tree_of s.old)))) c.in-Some.is c.namesake_in.ensures.child in
    own-fate s c.nodes_are_a_tree.ensures c.nodes_are_a_tree-2.ensures c.args.node c.requires.above c.requires.within c.in-Same.class c.in-Some.namesake child
    (sym c.namesake_in.ensures.namesake ∙ c.in-Some.is) (λ own. true≢false (sym (c.in_ok-own_agree-in-Same.ensures.agree.1 own) ∙ c.if-branch.false))

pub returns-in-Some-namesake_in-clause-fate : goal.returns-in-Some-namesake_in-clause-fate
returns-in-Some-namesake_in-clause-fate c =
    let s : Suites = suites c.args.old.now c.args.starts.now.before c.args.new.now c.args.starts.now.after in
    let n = c.args.node in
    let m = c.in-Some-namesake_in.namesake in
    let up : IsFate s (parent (tree_of s.new) n) (Changed c.in-Changed.class) = subst (IsFate s (parent (tree_of s.new) n)) c.in-Changed.is c.requires.class in
    let child : IsChild (tree_of s.old) c.in-Changed.class (length (tree_of s.old)) m =
    subst (λ (o : Option ℕ). IfSome o (IsChild (tree_of s.old) c.in-Changed.class (length (tree_of s.old)))) c.in-Some-namesake_in.is c.namesake_in-in-Changed.ensures.child in
    changed-fate s c.nodes_are_a_tree.ensures c.nodes_are_a_tree-2.ensures n c.requires.above c.requires.within c.in-Changed.class m child
    (sym c.namesake_in-in-Changed.ensures.namesake ∙ c.in-Some-namesake_in.is) up

pub returns-in-New-clause-fate : goal.returns-in-New-clause-fate
returns-in-New-clause-fate c =
    let s : Suites = suites c.args.old.now c.args.starts.now.before c.args.new.now c.args.starts.now.after in
    let n = c.args.node in
    new-fate s c.nodes_are_a_tree.ensures c.nodes_are_a_tree-2.ensures n c.requires.above c.requires.within
    (subst (IsFate s (parent (tree_of s.new) n)) c.in-New.is c.requires.class)
