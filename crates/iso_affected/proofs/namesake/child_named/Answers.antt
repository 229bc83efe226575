use Rattle.std.proofs.Common.{Option, ℕ, IfSome, length, sym, ◌∙◌, subst}
use Rattle.iso_affected.proofs.NamesakeLemmas.{named-child}
use Rattle.iso_affected.specs.NameTables.{FindsNamed}
use Rattle.iso_plan.specs.Children.{IsChild}
use Rattle.iso_plan.specs.Paths.{children}
use Rattle.iso_plan.specs.RowView.{tree_of}
use Rattle.iso_affected.proofs.namesake.child_named.Goals as goal

pub returns-clause-named : goal.returns-clause-named
returns-clause-named c =
    let tree = tree_of c.args.plan.now in
    let class = c.args.class in
    let table = c.index-names-class.result in
    let finds : FindsNamed tree (children tree class) table = subst (FindsNamed tree (children tree class)) (sym c.index-names-class.is) (c.requires.names.find class table c.requires.within) in
    c.copied.ensures ∙ c.get.ensures.value ∙ finds c.args.name.now

pub returns-clause-child : goal.returns-clause-child
returns-clause-child c =
    let tree = tree_of c.args.plan.now in
    let class = c.args.class in
    let name = c.args.name.now in
    let table = c.index-names-class.result in
    let finds : FindsNamed tree (children tree class) table = subst (FindsNamed tree (children tree class)) (sym c.index-names-class.is) (c.requires.names.find class table c.requires.within) in
    let is = c.copied.ensures ∙ c.get.ensures.value ∙ finds name in
    subst (λ (o : Option ℕ). IfSome o (IsChild tree class (length tree))) (sym is) (named-child tree class name)
