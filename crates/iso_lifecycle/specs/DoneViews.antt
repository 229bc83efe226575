-- What contracts see of the end of a body.
--
-- end of a body: Which body of which subject has ended; what its type keeps of it: of a
-- `before_all` the class's frame, of a test its outcome, of an `after_all` its ending and the rest
-- of its class's outcome (`IsDone`); whether it ended well (`ends_well`, `is_unfailed`).
-- Also in: `Ends`.
use Rattle.std.specs.Prelude.{refl}
use Rattle.std.specs.Coded.{Coded, code_by, coded×}
use Rattle.iso_lifecycle.specs.Subjects.{Subject, subject_code}
use Rattle.iso_lifecycle.specs.declared.kind.BodyKind.{BodyKind}
use Rattle.iso_lifecycle.specs.contracts.kind.BodyKind as kind

-- what the body was for, and which of the bodies of its node it was
pub record DoneView : Type 0 where
  pub subject : Subject
  pub kind : BodyKind

abbrev pub done_code : Coded DoneView
done_code = code_by (Subject × BodyKind) (coded× subject_code kind.the_row.coded)
    (λ d. (d.subject, d.kind)) (λ p. record { subject = p.0; kind = p.1 }) (λ _. refl)
