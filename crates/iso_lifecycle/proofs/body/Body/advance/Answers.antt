use Rattle.std.proofs.Common.{◌≡◌, suc, ap, ◌∙◌, false, subst, sym}
use Rattle.iso_model.specs.Bodies.{body_step, going, is_ended}
use Rattle.iso_model.specs.Rights.{Rights}
use Rattle.iso_lifecycle.specs.BodyRuns.{rights_of, stage_of}
use Rattle.iso_lifecycle.specs.declared.body_run.BodyRun.{BodyRun}
use Rattle.iso_lifecycle.specs.OriginViews.{subject_of_origin}
use Rattle.iso_lifecycle.specs.Origins.{HasCome, HasLeft}
use Rattle.iso_lifecycle.proofs.Beginnings.{owes-come, owes-left, step-comes, step-stands}
use Rattle.iso_lifecycle.proofs.body.Body.advance.Goals as goal

pub invariant_of-self : goal.invariant_of-self
invariant_of-self g c =
    let b = c.args.self.now in
    let s = subject_of_origin b.origin in
    let stage = stage_of c.step.new.self in
    let more = c.in_err-ended.ensures.stopped in
    record {
      outer_is = b.outer_is;
      rights = λ k. ap (λ (r : Rights). r k) (c.step.ensures.rights ∙ ap rights_of c.deref_mut.ensures.value) ∙ b.rights k;
      come = owes-come b.origin.kind s stage more;
      left = owes-left b.origin.kind s stage b.frame more;
    }

pub invariant_of-self-then-not-ended : goal.invariant_of-self-then-not-ended
invariant_of-self-then-not-ended g c =
    let b = c.args.self.now in
    let s = subject_of_origin b.origin in
    let stage = stage_of c.step.new.self in
    let more : is_ended stage ≡ false = sym c.in_ok-ended.ensures.ended ∙ c.if-not-ended.true in
    record {
      outer_is = b.outer_is;
      rights = λ k. ap (λ (r : Rights). r k) (c.step.ensures.rights ∙ ap rights_of c.deref_mut.ensures.value) ∙ b.rights k;
      come = owes-come b.origin.kind s stage more;
      left = owes-left b.origin.kind s stage b.frame more;
    }

pub returns-then-not-ended-clause-stands : goal.returns-then-not-ended-clause-stands
returns-then-not-ended-clause-stands g c =
    let content = g.T.Touch.content in
    let stepped = subst (λ (r : BodyRun). going (stage_of c.step.new.self) (content c.step.new.touch) ≡ body_step (rights_of r) (going (stage_of r) (content c.args.touch.now)))
    c.deref_mut.ensures.value c.in_ok-ended.ensures.step in
    let alike = step-stands c.args.self.now (stage_of c.step.new.self) (content c.args.touch.now) (content c.step.new.touch) c.requires.stands stepped in
    record { steps = suc c.requires.stands.steps; stage = alike.stage; resources = alike.resources }

pub frame-requires-clause-come : goal.frame-requires-clause-come
frame-requires-clause-come g c =
    let content = g.T.Touch.content in
    let stepped = subst (λ (r : BodyRun). going (stage_of c.step.new.self) (content c.step.new.touch) ≡ body_step (rights_of r) (going (stage_of r) (content c.args.touch.now)))
    c.deref_mut.ensures.value c.in_ok-ended.ensures.step in
    let b = c.args.self.now in
    subst (λ (r : BodyRun). HasCome b.origin.kind (subject_of_origin b.origin) (stage_of r)) (sym c.deref-run.ensures)
    (step-comes b (stage_of c.step.new.self) (content c.args.touch.now) (content c.step.new.touch) c.requires.stands stepped)

pub invariant_of-self-in-Ok : goal.invariant_of-self-in-Ok
invariant_of-self-in-Ok g c =
    let b = c.args.self.now in
    let content = g.T.Touch.content in
    let stepped = subst (λ (r : BodyRun). going (stage_of c.step.new.self) (content c.step.new.touch) ≡ body_step (rights_of r) (going (stage_of r) (content c.args.touch.now)))
    c.deref_mut.ensures.value c.in_ok-ended.ensures.step in
    record {
      outer_is = b.outer_is;
      rights = λ q. ap (λ (r : Rights). r q) (c.step.ensures.rights ∙ ap rights_of c.deref_mut.ensures.value) ∙ b.rights q;
      come = step-comes b (stage_of c.step.new.self) (content c.args.touch.now) (content c.step.new.touch) c.requires.stands stepped;
      left = subst (λ (r : BodyRun). HasLeft b.origin.kind (subject_of_origin b.origin) (stage_of r) c.in-Ok.frame) c.deref-run.ensures c.in-Ok.ensures;
    }

pub invariant_of-self-in-Err : goal.invariant_of-self-in-Err
invariant_of-self-in-Err g c =
    let b = c.args.self.now in
    let s = subject_of_origin b.origin in
    let stage = stage_of c.stop.new.self in
    record {
      outer_is = b.outer_is;
      rights = λ q. ap (λ (r : Rights). r q) (c.stop.ensures.rights ∙ ap rights_of c.deref_mut-in-Err.ensures.value ∙ c.step.ensures.rights ∙ ap rights_of c.deref_mut.ensures.value) ∙ b.rights q;
      come = owes-come b.origin.kind s stage c.stop.ensures.stopped;
      left = owes-left b.origin.kind s stage b.frame c.stop.ensures.stopped;
    }

pub returns-in-Ok-clause-stands : goal.returns-in-Ok-clause-stands
returns-in-Ok-clause-stands g c =
    let content = g.T.Touch.content in
    let stepped = subst (λ (r : BodyRun). going (stage_of c.step.new.self) (content c.step.new.touch) ≡ body_step (rights_of r) (going (stage_of r) (content c.args.touch.now)))
    c.deref_mut.ensures.value c.in_ok-ended.ensures.step in
    let alike = step-stands c.args.self.now (stage_of c.step.new.self) (content c.args.touch.now) (content c.step.new.touch) c.requires.stands stepped in
    record { steps = suc c.requires.stands.steps; stage = alike.stage; resources = alike.resources }
