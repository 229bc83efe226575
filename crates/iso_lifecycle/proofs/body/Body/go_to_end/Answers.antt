use Rattle.std.proofs.Common.{◌≡◌, ◌∙◌, refl, sym, subst, true, false}
use Rattle.iso_lifecycle.proofs.WholeBodies.{stands-last, stands-ready, step-apart, step-nearer, step-ready}
use Rattle.iso_lifecycle.specs.BodyViews.{kind_of_body, stage_of_body, subject_of}
use Rattle.iso_lifecycle.specs.Subjects.{Subject, rights_of_subject}
use Rattle.iso_model.specs.Bodies.{body_step, going, is_ended}
use Rattle.iso_model.specs.Touch.{HasKeys}
use Rattle.iso_lifecycle.proofs.body.Body.go_to_end.Goals as goal

pub steps-init : goal.steps-init
steps-init g c = record {
  ended = c.is_ended-ended.ensures;
  subject = refl;
  kind = refl;
  stands = c.requires.stands;
  keys = c.requires.keys;
  ready = stands-ready c.args.self.now (g.T.Touch.content c.args.touch.now) c.requires.stands;
  goes_on = g.met.T.Touch.still _;
  others = λ k locked. refl;
}

pub advance-requires-clause-keys : goal.advance-requires-clause-keys
advance-requires-clause-keys g c =
    let t = c.steps.touch in
    subst (λ (s : Subject). HasKeys (rights_of_subject s) (g.T.Touch.content t) (g.T.Touch.writes t)) (sym c.steps.invariant.subject) c.steps.invariant.keys

pub advance-requires-clause-stands : goal.advance-requires-clause-stands
advance-requires-clause-stands g c = c.steps.invariant.stands

pub steps-smaller : goal.steps-smaller
steps-smaller g c =
    let content = g.T.Touch.content in
    let old = c.steps.self in
    let on : is_ended (stage_of_body old) ≡ false = sym c.steps.invariant.ended ∙ c.steps-test.true in
    step-nearer (rights_of_subject (subject_of old)) (stage_of_body old) (stage_of_body c.advance.new.self) (content c.steps.touch) (content c.advance.new.touch) c.in_ok-ended.ensures.step
    c.steps.invariant.ready on

pub steps-preserved : goal.steps-preserved
steps-preserved g c =
    let i = c.steps.invariant in
    let content = g.T.Touch.content in
    let old = stage_of_body c.steps.self in
    let new = stage_of_body c.advance.new.self in
    let s = subject_of c.args.self.now in
    let stepped : going new (content c.advance.new.touch) ≡ body_step (rights_of_subject s) (going old (content c.steps.touch)) =
    subst (λ (t : Subject). going new (content c.advance.new.touch) ≡ body_step (rights_of_subject t) (going old (content c.steps.touch))) i.subject c.in_ok-ended.ensures.step in
    record {
      ended = c.in_ok-ended.ensures.ended;
      subject = c.advance.ensures.subject ∙ i.subject;
      kind = c.advance.ensures.kind ∙ i.kind;
      stands = c.in_ok-ended.ensures.stands;
      keys = subst (λ (t : Subject). HasKeys (rights_of_subject t) (content c.advance.new.touch) (g.T.Touch.writes c.advance.new.touch)) i.subject c.in_ok-ended.ensures.keys;
      ready = step-ready (rights_of_subject s) old new (content c.steps.touch) (content c.advance.new.touch) stepped i.ready;
      goes_on = g.met.T.Touch.further _ _ _ i.goes_on c.advance.ensures.goes_on;
      others = λ k locked. step-apart (rights_of_subject s) old new (content c.steps.touch) (content c.advance.new.touch) stepped k locked ∙ i.others k locked;
    }

pub returns-in_err-ended-clause-goes_on : goal.returns-in_err-ended-clause-goes_on
returns-in_err-ended-clause-goes_on g c = g.met.T.Touch.further _ _ _ c.steps.invariant.goes_on c.advance.ensures.goes_on

pub returns-clause-ended : goal.returns-clause-ended
returns-clause-ended g c = sym c.steps.invariant.ended ∙ c.steps-test.false

pub returns-clause-values : goal.returns-clause-values
returns-clause-values g c =
    let i = c.steps.invariant in
    let off : is_ended (stage_of_body c.steps.self) ≡ true = sym c.steps.invariant.ended ∙ c.steps-test.false in
    record {
      others = i.others;
      whole = stands-last c.steps.self (kind_of_body c.args.self.now) (subject_of c.args.self.now) (g.T.Touch.content c.steps.touch) i.subject i.kind i.stands off;
    }
