-- Bodies that do the same over resources that are equal at the keys of their rights.
--
-- bodies that are alike: Two bodies at equal points, over resources that are equal at the keys of
-- their rights (`AlikeGoing`).
use Rattle.std.specs.Prelude.{◌≡◌}
use Rattle.iso_model.specs.ChainAgreement.{EqualAt}
use Rattle.iso_model.specs.Bodies.{Going}
use Rattle.iso_model.specs.Rights.{Rights}

-- two bodies are at equal points, with resources that are equal but at keys that may not be looked
-- at
pub record AlikeGoing (r : Rights) (g h : Going) : Type 0 where
  pub stage : g.stage ≡ h.stage
  pub resources : EqualAt r g.resources h.resources
