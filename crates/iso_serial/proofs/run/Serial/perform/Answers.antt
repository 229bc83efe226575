use Rattle.std.proofs.Common.{◌≡◌, ℕ, ◌<◌, List, length, ap, sym, subst, ◌∙◌}
use Rattle.iso_lifecycle.proofs.WholeBodies.{stands-first}
use Rattle.iso_lifecycle.specs.BodyViews.{Stands, kind_of_body, stage_of_body, subject_of}
use Rattle.iso_lifecycle.specs.DoneViews.{DoneView}
use Rattle.iso_lifecycle.specs.ResultViews.{AreOpened, CanPut, with_done}
use Rattle.iso_lifecycle.specs.Subjects.{Subject, begun, rights_of_subject, subject}
use Rattle.iso_lifecycle.specs.WholeBodies.{CanBegin, IsAfterBody}
use Rattle.iso_lifecycle.specs.declared.kind.BodyKind.{BodyKind}
use Rattle.iso_locks.specs.Trays.{TrayView, content, frames_on, has_value}
use Rattle.iso_model.specs.Touch.{HasKeys}
use Rattle.iso_plan.specs.Paths.{is_test, path, row_at}
use Rattle.iso_plan.specs.Planned.{Planned}
use Rattle.iso_plan.specs.RowView.{tree_of}
use Rattle.iso_settings.specs.Worlds.{Start}
use Rattle.iso_serial.proofs.TrayLemmas.{frames-apart}
use Rattle.iso_serial.specs.OpenedTrays.{IsTrayAfter}
use Rattle.iso_serial.specs.Walks.{innermost}
use Rattle.iso_serial.proofs.run.Serial.perform.Goals as goal

pub hand_own_path-requires-clause-plan : goal.hand_own_path-requires-clause-plan
hand_own_path-requires-clause-plan g c = sym c.requires.put.plan ∙ sym c.requires.tray

pub hand_own_path-requires-clause-start : goal.hand_own_path-requires-clause-start
hand_own_path-requires-clause-start g c = sym c.requires.put.start ∙ sym c.requires.start

pub hand_own_path-requires-clause-node : goal.hand_own_path-requires-clause-node
hand_own_path-requires-clause-node g c = subst (λ (p : Planned). c.innermost-class.result < length p.rows) (sym c.requires.tray) c.innermost-class.ensures.within

pub hand_own_path-requires-clause-class : goal.hand_own_path-requires-clause-class
hand_own_path-requires-clause-class g c = ap (λ (p : Planned). is_test (row_at (tree_of p) c.innermost-class.result).kind) c.requires.tray ∙ c.innermost-class.ensures.class

pub hand_own_path-requires-clause-opened : goal.hand_own_path-requires-clause-opened
hand_own_path-requires-clause-opened g c =
    let results = c.args.walk.now.results in
    let here = subst (λ (n : ℕ). AreOpened results (path (tree_of c.args.self.now.plan.now) n)) (sym c.innermost-class.ensures.is) c.requires.opened in
    subst (λ (p : Planned). AreOpened results (path (tree_of p) c.innermost-class.result)) (sym c.requires.tray) here

pub begin-requires : goal.begin-requires
begin-requires g c =
    let plan = c.args.self.now.plan.now in
    let world = c.args.self.now.world.now in
    let n = c.args.node in
    let k = c.args.kind in
    let handed : frames_on c.args.walk.now.results (innermost (tree_of plan) k n) ≡ c.frames-frames.result.now =
    ap (frames_on c.args.walk.now.results) (sym c.innermost-class.ensures.is) ∙ ap (λ (t : TrayView). t.frames) (sym c.in_ok-hand_own_path.ensures.ok) ∙ sym c.frames-frames.ensures in
    let here = subst (λ (fs : List Subject). CanBegin (subject plan world n) k fs) handed c.requires.begins in
    subst (λ (w : Start). CanBegin (subject plan w n) k c.frames-frames.result.now) (sym c.of-start.ensures) here

pub run-requires-clause-keys : goal.run-requires-clause-keys
run-requires-clause-keys g c =
    let plan = c.args.self.now.plan.now in
    let n = c.args.node in
    let is_of : subject_of c.in_ok-body.body ≡ subject plan c.args.self.now.world.now n = c.in_ok-body.ensures.subject ∙ ap (λ (w : Start). subject plan w n) c.of-start.ensures in
    let here = subst (λ (s : Subject). HasKeys (rights_of_subject s) (content c.args.walk.now.tray) (has_value c.args.walk.now.tray)) (sym is_of) c.requires.ready.keys in
    subst (λ (t : TrayView). HasKeys (rights_of_subject (subject_of c.in_ok-body.body)) (content t) (has_value t)) (sym c.in_ok-hand_own_path.ensures.ok) here

pub run-requires-clause-stands : goal.run-requires-clause-stands
run-requires-clause-stands g c =
    let plan = c.args.self.now.plan.now in
    let n = c.args.node in
    let k = c.args.kind in
    let s = subject plan c.args.self.now.world.now n in
    let b = c.in_ok-body.body in
    let started : subject plan c.of-start.result.value n ≡ s = ap (λ (w : Start). subject plan w n) c.of-start.ensures in
    let stage : stage_of_body b ≡ (begun k s).stage = c.in_ok-body.ensures.begun ∙ ap (λ (t : Subject). (begun k t).stage) started in
    let here = stands-first b k s (content c.args.walk.now.tray) (c.in_ok-body.ensures.subject ∙ started) c.in_ok-body.ensures.kind stage c.requires.ready.stands in
    subst (λ (t : TrayView). Stands b (content t)) (sym c.in_ok-hand_own_path.ensures.ok) here

-- a done is told by its subject and its kind
done-is : (d : DoneView) (s : Subject) (k : BodyKind) → d.subject ≡ s → d.kind ≡ k → d ≡ record { subject = s; kind = k }
done-is d s k of kind i = record { subject = of i; kind = kind i }

pub put-requires : goal.put-requires
put-requires g c =
    let s = subject c.args.self.now.plan.now c.args.self.now.world.now c.args.node in
    let started = ap (λ (w : Start). subject c.args.self.now.plan.now w c.args.node) c.of-start.ensures in
    let is = done-is c.in_ok-done.done s c.args.kind (c.in_ok-done.ensures.subject ∙ c.in_ok-body.ensures.subject ∙ started) (c.in_ok-done.ensures.kind ∙ c.in_ok-body.ensures.kind) in
    subst (λ (d : DoneView). CanPut d c.args.walk.now.results) (sym is) c.requires.put

pub returns-clause-results : goal.returns-clause-results
returns-clause-results g c =
    let s = subject c.args.self.now.plan.now c.args.self.now.world.now c.args.node in
    let started = ap (λ (w : Start). subject c.args.self.now.plan.now w c.args.node) c.of-start.ensures in
    let is = done-is c.in_ok-done.done s c.args.kind (c.in_ok-done.ensures.subject ∙ c.in_ok-body.ensures.subject ∙ started) (c.in_ok-done.ensures.kind ∙ c.in_ok-body.ensures.kind) in
    c.put.ensures ∙ ap (λ (d : DoneView). with_done d c.args.walk.now.results) is

pub returns-clause-values : goal.returns-clause-values
returns-clause-values g c =
    let plan = c.args.self.now.plan.now in
    let world = c.args.self.now.world.now in
    let n = c.args.node in
    let old = c.hand_own_path.new.self in
    let new = c.run.new.touch in
    let is_of : subject_of c.in_ok-body.body ≡ subject plan world n = c.in_ok-body.ensures.subject ∙ ap (λ (w : Start). subject plan w n) c.of-start.ensures in
    let here = subst (λ (s : Subject). IsAfterBody s (kind_of_body c.in_ok-body.body) (content old) (content new)) is_of c.in_ok-done.ensures.values in
    let after : IsTrayAfter plan world c.args.kind n old new = record {
      plan_is = c.run.ensures.goes_on.plan;
      world_is = c.run.ensures.goes_on.world;
      lent = c.run.ensures.goes_on.lent;
      onward = c.run.ensures.goes_on.values;
      after = subst (λ (k : BodyKind). IsAfterBody (subject plan world n) k (content old) (content new)) c.in_ok-body.ensures.kind here;
    } in
    frames-apart plan world c.args.kind n c.args.walk.now.tray new (frames_on c.args.walk.now.results c.innermost-class.result)
    (subst (λ (t : TrayView). IsTrayAfter plan world c.args.kind n t new) c.in_ok-hand_own_path.ensures.ok after)
