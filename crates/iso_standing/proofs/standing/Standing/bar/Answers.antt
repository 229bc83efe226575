use Rattle.std.proofs.Common.{◌≡◌, ℕ, ◌<◌, ◌≤◌, ◌+◌, Bool, true, length, get_or, set, cond, eqb, ap, sym, ◌∙◌, subst, arith, inl, inr}
use Rattle.std.proofs.lemmas.Bool.{cases_eq, cases_lt}
use Rattle.std.proofs.lemmas.List.{get_or-set_other, get_or-set_same, length-set}
use Rattle.iso_standing.proofs.Barring.{barred-at, stays-before, stays-outside, under-inside}
use Rattle.iso_standing.proofs.Inside.{none-inside, run-inside}
use Rattle.iso_standing.specs.Standings.{IsStanding, Standing, is_inside, nodes_in, phase_at, phase_under, with_phase}
use Rattle.iso_standing.specs.declared.phase.Phase.{Phase}
use Rattle.iso_standing.specs.declared.phase.Phase.TheVariants.{Barred, Waiting}
use Rattle.iso_plan.proofs.PathLemmas.{IsBelow, eq_not}
use Rattle.iso_plan.specs.Paths.{parent}
use Rattle.iso_plan.specs.Preorder.{IsPreorder}
use Rattle.iso_plan.specs.RowView.{tree_of}
use Rattle.iso_standing.proofs.standing.Standing.bar.Goals as goal

pub inside-init : goal.inside-init
inside-init c =
    let v = c.args.self.now in
    let n = c.args.class in
    let is : IsStanding v = subst IsStanding c.self.view_is c.self.invariant.0 in
    let below : IsBelow (tree_of v.plan) = subst (λ (u : Standing). IsBelow (tree_of u.plan)) c.self.view_is c.parents_come_first.ensures in
    let long : n < length v.phases = omega (arith, is.phases, c.requires.class) in
    let read : (m : ℕ) → phase_at c.set_phase.new.self m ≡ cond (eqb m n) Barred (phase_at v m) =
    λ m. ap (λ (u : Standing). phase_at u m) c.set_phase.ensures ∙ barred-at v.phases Waiting n m long in
    record {
      rest = c.set_phase.ensures ∙ ap (λ (u : Standing). record v { phases = u.phases }) (sym c.set_phase.ensures);
      long = ap (λ (u : Standing). length u.phases) c.set_phase.ensures ∙ length-set v.phases n Barred ∙ is.phases;
      behind = omega arith;
      inside = λ m low h. absurd (omega arith);
      before = λ m h. read m ∙ ap (λ (p : Phase). cond (eqb m n) Barred p) (sym (stays-before v below (is.root (omega (arith, c.requires.class))) n m (omega arith)));
      later = λ m h. read m;
    }

pub inside-preserved : goal.inside-preserved
inside-preserved c =
    let v = c.args.self.now in
    let u = c.inside.self in
    let n = c.inside.node in
    let class = c.args.class in
    let next = c.phase_inside-next.result in
    let is : IsStanding v = subst IsStanding c.self.view_is c.self.invariant.0 in
    let tree = tree_of v.plan in
    let below : IsBelow tree = subst (λ (s : Standing). IsBelow (tree_of s.plan)) c.self.view_is c.parents_come_first.ensures in
    let behind = c.inside.invariant.behind in
    let up : c.parent.result ≡ parent tree n = c.parent.ensures.parent (omega arith) ∙ ap (λ (s : Standing). parent (tree_of s.plan) n) c.inside.invariant.rest in
    let run : (m : ℕ) → class < m → m < n + 1 → class ≤ parent tree m = λ m low h. elim (cases_eq m n) [
      | inl here ↦ let same : parent tree m ≡ parent tree n = ap (parent tree) here in omega (arith, c.inside-test.true)
      | inr other ↦ c.inside.invariant.inside m low (omega (arith, other))
    ] in
    let stands : is_inside v n class ≡ true = run-inside tree below class (n + 1) c.requires.inner run n behind (omega arith) in
    let was : phase_at u n ≡ phase_at v n =
    c.inside.invariant.later n (omega arith) ∙ ap (λ (b : Bool). cond b Barred (phase_at v n)) (eq_not n class (λ e. omega (arith, e))) in
    let value : next ≡ cond (eqb n class) Barred (phase_under v class n) =
    c.phase_inside-next.ensures ∙ under-inside v class n stands (phase_at u n) was
    ∙ sym (ap (λ (b : Bool). cond b Barred (phase_under v class n)) (eq_not n class (λ e. omega (arith, e)))) in
    let count : c.len-nodes.result ≡ nodes_in v = c.len-nodes.ensures ∙ ap nodes_in (c.self-2.view_is ∙ c.set_phase.ensures) in
    let long : n < length u.phases = omega (arith, c.inside.invariant.long, c.inside-test.true) in
    let read : (m : ℕ) → phase_at c.set_phase-in-inside.new.self m ≡ get_or (set u.phases n next) m Waiting =
    λ m. ap (λ (w : Standing). phase_at w m) c.set_phase-in-inside.ensures in
    record {
      rest =
          c.set_phase-in-inside.ensures ∙ ap (λ (w : Standing). with_phase w n next) c.inside.invariant.rest
          ∙ ap (λ (w : Standing). record v { phases = w.phases }) (sym c.set_phase-in-inside.ensures);
      long = ap (λ (w : Standing). length w.phases) c.set_phase-in-inside.ensures ∙ length-set u.phases n next ∙ c.inside.invariant.long;
      behind = omega arith;
      inside = run;
      before = λ m h. read m ∙ elim (cases_eq m n) [
        | inl here ↦
            ap (λ j. get_or (set u.phases n next) j Waiting) here ∙ get_or-set_same u.phases n next Waiting long ∙ value
            ∙ ap (λ j. cond (eqb j class) Barred (phase_under v class j)) (sym here)
        | inr other ↦ get_or-set_other u.phases n m next Waiting other ∙ c.inside.invariant.before m (omega (arith, other))
      ];
      later = λ m h. read m ∙ get_or-set_other u.phases n m next Waiting (λ e. omega (arith, e)) ∙ c.inside.invariant.later m (omega arith);
    }

pub returns-else-parent-class : goal.returns-else-parent-class
returns-else-parent-class c =
    let v = c.args.self.now in
    let n = c.inside.node in
    let class = c.args.class in
    let tree = tree_of v.plan in
    let below : IsBelow tree = subst (λ (s : Standing). IsBelow (tree_of s.plan)) c.self.view_is c.parents_come_first.ensures in
    let order : IsPreorder tree = subst (λ (s : Standing). IsPreorder (tree_of s.plan)) c.self.view_is c.nodes_stand_in_preorder.ensures in
    let behind = c.inside.invariant.behind in
    let up : c.parent.result ≡ parent tree n = c.parent.ensures.parent (omega arith) ∙ ap (λ (s : Standing). parent (tree_of s.plan) n) c.inside.invariant.rest in
    let out : parent tree n < class = omega (arith, c.if-parent-class.false) in
    record {
      phases = λ m h. elim (cases_lt m n) [
        | inl less ↦ c.inside.invariant.before m less
        | inr past ↦
            c.inside.invariant.later m past
            ∙ ap (λ (p : Phase). cond (eqb m class) Barred p) (sym (stays-outside v class m (none-inside tree below order class n behind out m past)))
      ];
      rest = c.inside.invariant.rest;
    }
