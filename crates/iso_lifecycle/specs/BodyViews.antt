-- What a body is for, and where it stands.
--
-- a body that stands: Body and resources stand, at the keys of its rights, where `steps` steps of
-- it alone have left them (`Stands`).
use Rattle.std.specs.Prelude.{◌≡◌, ℕ}
use Rattle.iso_model.specs.ChainAgreement.{EqualAt}
use Rattle.iso_model.specs.Bodies.{Stage}
use Rattle.iso_model.specs.Resources.{Resources}
use Rattle.iso_lifecycle.specs.BodyRuns.{rights_of, stage_of}
use Rattle.iso_lifecycle.specs.OriginViews.{kind_of_origin, subject_of_origin}
use Rattle.iso_lifecycle.specs.Origins.{HasCome, HasLeft, HasRights, outer_names}
use Rattle.iso_lifecycle.specs.Subjects.{Subject, begun, reached, rights_of_subject}
use Rattle.iso_lifecycle.specs.declared.beginning.Beginning.{Beginning}
use Rattle.iso_lifecycle.specs.declared.body.Body.{Body}
use Rattle.iso_lifecycle.specs.declared.kind.BodyKind.{BodyKind}
use Rattle.iso_lifecycle.specs.declared.origin.Origin.{Origin}

abbrev pub subject_of : Body → Subject
subject_of b = subject_of_origin b.origin

abbrev pub kind_of_body : Body → BodyKind
kind_of_body b = kind_of_origin b.origin

abbrev pub stage_of_body : Body → Stage
stage_of_body b = stage_of b.run.value

-- what a body of this origin begins with
pub record IsBeginning (o : Origin) (b : Beginning) : Type 0 where
  pub outer : b.outer ≡ outer_names (kind_of_origin o) (subject_of_origin o)
  pub rights : HasRights (subject_of_origin o) (rights_of b.run.value)
  pub stage : stage_of b.run.value ≡ (begun (kind_of_origin o) (subject_of_origin o)).stage
  pub come : HasCome (kind_of_origin o) (subject_of_origin o) (stage_of b.run.value)
  pub left : HasLeft (kind_of_origin o) (subject_of_origin o) (stage_of b.run.value) b.frame

-- A body, and the resources at the keys of its rights, stand where `steps` steps of it alone have
-- left them.
pub record Stands (b : Body) (m : Resources) : Type 0 where
  pub steps : ℕ
  pub stage : stage_of_body b ≡ (reached (kind_of_body b) (subject_of b) steps).stage
  pub resources : EqualAt (rights_of_subject (subject_of b)) m
      (reached (kind_of_body b) (subject_of b) steps).resources
