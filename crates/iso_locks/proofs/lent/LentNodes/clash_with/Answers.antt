use Rattle.std.proofs.Common.{◌≡◌, ◌<◌, ℕ, Some, None, Option, length, ap, sym, ◌∙◌, subst}
use Rattle.iso_plan.specs.HeldNodes.{HeldView}
use Rattle.iso_plan.specs.Locks.{locking_node}
use Rattle.iso_plan.specs.RowView.{tree_of}
use Rattle.iso_locks.proofs.LentLemmas.{beside-all, free-of, kept-in, locker-known}
use Rattle.iso_locks.specs.Lent.{AreApart, IsBeside}
use Rattle.iso_locks.specs.Lockers.{is_kept_out}
use Rattle.iso_locks.proofs.lent.LentNodes.clash_with.Goals as goal

abbrev Beside : ℕ → HeldView → Type 0
Beside n h = IsBeside (tree_of h.plan) h.held n

abbrev Apart : HeldView → Type 0
Apart h = AreApart (tree_of h.plan) h.held

abbrev Known : ℕ → HeldView → Type 0
Known n h = n < length h.plan.rows

pub keep_out-requires : goal.keep_out-requires
keep_out-requires c =
    locker-known c.self.inside.plan.now c.self.inside.lent c.self.inside.lockers c.self.invariant c.args.node c.in-Some.locker c.nodes_are_a_tree.ensures.below
    (subst (Known c.args.node) (sym c.self.view_is) c.requires.node) (sym c.in-Some.ensures)

pub returns-then-excludes-clause-clashes : goal.returns-then-excludes-clause-clashes
returns-then-excludes-clause-clashes c beside =
    sym c.if-excludes.true ∙ c.excludes.ensures
    ∙ free-of c.self.inside.plan.now c.self.inside.lent c.self.inside.lockers c.self.invariant c.args.node (subst (Beside c.args.node) (sym c.self.view_is) beside)

same : (o : Option ℕ) (a b : ℕ) → o ≡ Some a → o ≡ Some b → a ≡ b
same o a b ea eb = let both : Some a ≡ Some b = sym ea ∙ eb in cc

pub returns-in-Some-clause-beside : goal.returns-in-Some-clause-beside
returns-in-Some-clause-beside c e =
    let n = c.args.node in
    let plan = c.self.inside.plan.now in
    subst (Beside n) c.self.view_is
    (beside-all plan c.self.inside.lent c.self.inside.lockers c.self.invariant n c.nodes_are_a_tree.ensures.below
    (subst (Known n) (sym c.self.view_is) c.requires.node) (subst Apart (sym c.self.view_is) c.requires.apart) (sym c.excludes.ensures ∙ c.if-excludes.false)
    (λ a is. ap (is_kept_out c.self.inside.lockers) (same (locking_node (tree_of plan) n) a c.in-Some.locker is (sym c.in-Some.ensures)) ∙ sym c.keep_out.ensures ∙ e))

pub returns-in-Some-clause-clashes : goal.returns-in-Some-clause-clashes
returns-in-Some-clause-clashes c beside =
    c.keep_out.ensures
    ∙ kept-in c.self.inside.plan.now c.self.inside.lent c.self.inside.lockers c.self.invariant c.args.node c.in-Some.locker (sym c.in-Some.ensures)
    (subst (Beside c.args.node) (sym c.self.view_is) beside)

none-some : (o : Option ℕ) (a : ℕ) → o ≡ None → o ≡ Some a → ⊥
none-some o a none is = let wrong : None ≡ Some a = sym none ∙ is in cc

pub returns-in-None-clause-beside : goal.returns-in-None-clause-beside
returns-in-None-clause-beside c e =
    let n = c.args.node in
    let plan = c.self.inside.plan.now in
    subst (Beside n) c.self.view_is
    (beside-all plan c.self.inside.lent c.self.inside.lockers c.self.invariant n c.nodes_are_a_tree.ensures.below
    (subst (Known n) (sym c.self.view_is) c.requires.node) (subst Apart (sym c.self.view_is) c.requires.apart) (sym c.excludes.ensures ∙ c.if-excludes.false)
    (λ a is. absurd (none-some (locking_node (tree_of plan) n) a (sym c.in-None.ensures) is)))
