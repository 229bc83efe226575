use Rattle.std.proofs.Common.{rules, ◌≡◌, ℕ, List, Vec, Global, Option, length, set, get_or, replicate, None, false, ap, sym, ◌∙◌, subst, refl, arith}
use Rattle.std.proofs.lemmas.List.{get_or-replicate, get_or-set_same, length-set}
use Rattle.iso_plan.specs.HeldNodes.{holding, none_held}
use Rattle.iso_standing.proofs.First.{first-phases}
use Rattle.iso_standing.proofs.Holding.{holding-none, holding-root}
use Rattle.iso_standing.proofs.Passing.{keeps-none, none-in}
use Rattle.iso_standing.specs.Holding.{KeepsHeld}
use Rattle.iso_standing.specs.Passed.{KeepsPassed}
use Rattle.iso_standing.specs.Standings.{Standing}
use Rattle.iso_standing.specs.declared.phase.Phase.{Phase}
use Rattle.iso_standing.specs.declared.phase.Phase.TheVariants.{Open, Waiting}
use Rattle.iso_standing.proofs.standing.Standing.new.Goals as goal
use Rattle.iso_standing.proofs.standing.Standing.new.Goals.{then-nodes-gt0, else-nodes-gt0}

pub invariant_of-result : goal.invariant_of-result
invariant_of-result c =
    let p = c.args.plan.now in
    let phases = c.if-nodes-gt0.phases.items in
    let waiting = c.in_ok-phases.phases.items in
    let count : length waiting ≡ length p.rows = omega (arith, c.in_ok-phases.phases.ok.0, c.in_ok-phases.ensures.len, c.len-nodes.ensures) in
    let busy : c.in_ok-vec-2.field-0.items ≡ replicate c.args.workers None = c.in_ok-vec-2.ensures.items_if_clones_equal (λ y h. search rules) in
    let n = c.len-nodes.result in
    let all : waiting ≡ replicate n Waiting = c.in_ok-phases.ensures.items_if_clones_equal (λ y h. search rules) in
    let held : KeepsHeld p phases c.if-nodes-gt0.held = elim c.if-nodes-gt0.branch [
      | then-nodes-gt0 w ↦
          subst (KeepsHeld p phases) (sym (w.held-is ∙ w.hold.ensures ∙ ap (holding 0) c.in_ok-held.ensures))
          (subst (λ (ps : List Phase). KeepsHeld p ps (holding 0 (none_held p))) (sym (ap (λ (v : Vec Phase Global). v.items) w.phases-is ∙ ap (λ (ps : List Phase). set ps 0 Open) all))
          (holding-root p n c.len-nodes.ensures (omega (arith, w.if-nodes-gt0.true))))
      | else-nodes-gt0 w ↦
          subst (KeepsHeld p phases) (sym (w.held-is ∙ c.in_ok-held.ensures))
          (subst (λ (ps : List Phase). KeepsHeld p ps (none_held p)) (sym (ap (λ (v : Vec Phase Global). v.items) w.phases-is ∙ all)) (holding-none p n c.len-nodes.ensures))
    ] in
    let none : c.in_ok-vec-3.field-0.items ≡ replicate (length p.rows) 0 =
    c.in_ok-vec-3.ensures.items_if_clones_equal (λ y h. search rules) ∙ ap (λ (n : ℕ). replicate n 0) c.len-nodes.ensures in (
      record {
        phases = elim c.if-nodes-gt0.branch [
          | then-nodes-gt0 w ↦ ap (λ (v : Vec Phase Global). length v.items) w.phases-is ∙ length-set waiting 0 Open ∙ count
          | else-nodes-gt0 w ↦ ap (λ (v : Vec Phase Global). length v.items) w.phases-is ∙ count
        ];
        owners = omega (arith, c.in_ok-vec.field-0.ok.0, c.in_ok-vec.ensures.len, c.len-nodes.ensures);
        root = λ h. elim c.if-nodes-gt0.branch [
          | then-nodes-gt0 w ↦ ap (λ (v : Vec Phase Global). get_or v.items 0 Waiting) w.phases-is ∙ get_or-set_same waiting 0 Open Waiting (omega (arith, count, h))
          | else-nodes-gt0 w ↦ absurd (omega (arith, w.if-nodes-gt0.false, c.len-nodes.ensures, h))
        ];
        bodies = λ w n e. absurd (cc (sym (none-in c.args.workers w) ∙ ap (λ os. get_or os w None) (sym busy) ∙ e));
      },
      subst (KeepsPassed p phases) (sym none) (keeps-none p phases),
      held,
    )

pub returns-clause-state : goal.returns-clause-state
returns-clause-state c = λ start.
    let v : Standing = record { plan = c.args.plan.now; phases = c.if-nodes-gt0.phases.items; owners = c.in_ok-vec.field-0.items; busy = c.in_ok-vec-2.field-0.items; stopped = false } in
    let k = c.len-nodes.result in
    let all : c.in_ok-phases.phases.items ≡ replicate k Waiting = c.in_ok-phases.ensures.items_if_clones_equal (λ y h. search rules) in
    let zeros : c.in_ok-vec.field-0.items ≡ replicate k 0 = c.in_ok-vec.ensures.items_if_clones_equal (λ y h. search rules) in
    let busy : c.in_ok-vec-2.field-0.items ≡ replicate c.args.workers None = c.in_ok-vec-2.ensures.items_if_clones_equal (λ y h. search rules) in
    record {
      phases = λ n h. elim c.if-nodes-gt0.branch [
        | then-nodes-gt0 w ↦ first-phases v start k n (omega (arith, h, c.len-nodes.ensures))
            ∙ sym (ap (λ (ps : Vec Phase Global). get_or ps.items n Waiting) w.phases-is ∙ ap (λ (ps : List Phase). get_or (set ps 0 Open) n Waiting) all)
        | else-nodes-gt0 w ↦ absurd (omega (arith, h, c.len-nodes.ensures, w.if-nodes-gt0.false))
      ];
      owners = λ n h. sym (ap (λ (os : List ℕ). get_or os n 0) zeros ∙ get_or-replicate k n 0 0 (omega (arith, h, c.len-nodes.ensures)));
      bodies = λ w h. sym (ap (λ (os : List (Option ℕ)). get_or os w None) busy ∙ none-in c.args.workers w);
      stopped = refl;
    }
