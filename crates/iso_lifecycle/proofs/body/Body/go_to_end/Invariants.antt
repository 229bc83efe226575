use Rattle.std.proofs.Common.{◌≡◌, ℕ, List, false}
use Rattle.iso_lifecycle.specs.BodyViews.{Stands, kind_of_body, stage_of_body, subject_of}
use Rattle.iso_lifecycle.specs.Subjects.{rights_of_subject}
use Rattle.iso_model.specs.Bodies.{IsReadyStage, body_distance, is_ended}
use Rattle.iso_model.specs.Rights.{is_writable}
use Rattle.iso_model.specs.Touch.{HasKeys}
use Rattle.iso_lifecycle.proofs.body.Body.go_to_end.Given as goal

abbrev pub invariant-steps : goal.invariant-steps
invariant-steps g l =
    let content = g.T.Touch.content in
    record {
      ended : l.ended ≡ is_ended (stage_of_body l.self);
      subject : subject_of l.self ≡ subject_of l.fn.self;
      kind : kind_of_body l.self ≡ kind_of_body l.fn.self;
      stands : Stands l.self (content l.touch);
      keys : HasKeys (rights_of_subject (subject_of l.fn.self)) (content l.touch) (g.T.Touch.writes l.touch);
      ready : IsReadyStage (stage_of_body l.self);
      goes_on : g.T.Touch.goes_on l.fn.touch l.touch;
      others : (k : List ℕ) → is_writable (rights_of_subject (subject_of l.fn.self) k) ≡ false → content l.touch k ≡ content l.fn.touch k;
    }

abbrev pub decreases-steps : goal.decreases-steps
decreases-steps g l = body_distance (stage_of_body l.self)
