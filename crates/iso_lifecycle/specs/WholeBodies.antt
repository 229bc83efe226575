-- When a body can begin, and what it leaves when it is done to its end.
--
-- a body can begin, and is done: With which frames a body can begin (`CanBegin`), on which
-- resources (`IsReadyFor`), and how these stand when it is done (`IsAfterBody`).
use Rattle.std.specs.Prelude.{◌≡◌, ℕ, ◌<◌, List, length, map, Bool, true, false}
use Rattle.iso_model.specs.ChainAgreement.{EqualAt}
use Rattle.iso_model.specs.Bodies.{body_finished}
use Rattle.iso_model.specs.Resources.{Resources}
use Rattle.iso_model.specs.Rights.{is_writable}
use Rattle.iso_model.specs.Touch.{HasKeys}
use Rattle.iso_plan.specs.Paths.{row_at}
use Rattle.iso_plan.specs.RowView.{tree_of}
use Rattle.iso_lifecycle.specs.Subjects.{Subject, begun, enclosing, framed, is_kind_of, opening_of, rights_of_subject, subject}
use Rattle.iso_lifecycle.specs.declared.kind.BodyKind.{BodyKind}

-- A body of this kind can begin with these frames: the node has such a body, the frames are those
-- of its enclosing classes, outermost first, and for an `after_all` its own, and the
-- enclosing classes were opened well.
pub record CanBegin (s : Subject) (kind : BodyKind) (given : List Subject) : Type 0 where
  pub inner : 0 < s.node
  pub within : s.node < length s.plan.rows
  pub fits : is_kind_of kind (row_at (tree_of s.plan) s.node).kind ≡ true
  pub frames : given ≡ map (subject s.plan s.start) (framed kind s)
  pub well : (opening_of (enclosing s)).well ≡ true

-- Resources are ready for the body: all keys of its rights are there, and stand as the openings
-- before it have left them.
pub record IsReadyFor (s : Subject) (kind : BodyKind) (m : Resources)
    (writes : List ℕ → Bool) : Type 0 where
  pub keys : HasKeys (rights_of_subject s) m writes
  pub stands : EqualAt (rights_of_subject s) m (begun kind s).resources

-- Resources before and after the whole body: no key changed that it may not change, and those of
-- its rights stand as the whole body leaves them.
pub record IsAfterBody (s : Subject) (kind : BodyKind) (old new : Resources) : Type 0 where
  pub others : (k : List ℕ) → is_writable (rights_of_subject s k) ≡ false → new k ≡ old k
  pub whole : EqualAt (rights_of_subject s) new
      (body_finished (rights_of_subject s) (begun kind s)).resources
