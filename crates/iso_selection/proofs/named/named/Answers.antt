use Rattle.std.proofs.Common.{◌≡◌, List, Option, IfErr, IfOk, None, ℕ, Bool, drop, length, map, ap, sym, subst, ◌∙◌}
use Rattle.std.specs.Borrow.{Bor}
use Rattle.std.specs.List.{position_from}
use Rattle.iso_plan.specs.Faults.{IsFaultOf, not_selected}
use Rattle.iso_plan.specs.Paths.{column}
use Rattle.iso_selection.proofs.NodeLemmas.{named-column, paths-but-root}
use Rattle.iso_selection.specs.Wishes.{first_in_vain, is_in_vain, is_named_by, wish_of, wishes_of}
use Rattle.iso_selection.specs.declared.wanted.Wanted.{Wanted}
use Rattle.iso_selection.proofs.named.named.Goals as goal

pub returns-in-Some-clause-named : goal.returns-in-Some-clause-named
returns-in-Some-clause-named c = λ tree t are are_classes.
    let wishes = map wish_of c.in-Some.wanted.now in
    subst (λ (named : List Bool). IfOk c.named_by.result (λ v. v.items ≡ named))
    (named-column tree c.deref.result.now wishes (c.deref.ensures.value ∙ are)
    ∙ sym (ap (λ (w : Option (Bor (List Wanted))). column (is_named_by tree (wishes_of w)) (length tree)) c.in-Some.is))
    c.named_by.ensures.named

pub returns-in-Some-clause-known : goal.returns-in-Some-clause-known
returns-in-Some-clause-known c = λ tree t are.
    subst (λ (first : Option ℕ). IfOk c.named_by.result (λ v. first ≡ None))
    (ap (λ (paths : List (List ℕ)). position_from (is_in_vain paths) 0 (map wish_of c.in-Some.wanted.now)) (ap (drop 1) (c.deref.ensures.value ∙ are) ∙ paths-but-root tree t)
    ∙ sym (ap (λ (w : Option (Bor (List Wanted))). first_in_vain tree (wishes_of w)) c.in-Some.is))
    c.named_by.ensures.known

pub returns-in-Some-clause-unknown : goal.returns-in-Some-clause-unknown
returns-in-Some-clause-unknown c = λ tree t are.
    subst (λ (first : Option ℕ). IfErr c.named_by.result (IsFaultOf (not_selected first)))
    (ap (λ (paths : List (List ℕ)). position_from (is_in_vain paths) 0 (map wish_of c.in-Some.wanted.now)) (ap (drop 1) (c.deref.ensures.value ∙ are) ∙ paths-but-root tree t)
    ∙ sym (ap (λ (w : Option (Bor (List Wanted))). first_in_vain tree (wishes_of w)) c.in-Some.is))
    c.named_by.ensures.unknown
