-- What the end of a test or class restores.
--
-- what a Leave restores: The keys that a node may change stand again, once it is finished, as at its
-- Enter: so no test sees what another has changed (`finishing`).
use Rattle.std.specs.Prelude.{ℕ, cond}
use Rattle.iso_isolation.specs.Languages.{Language}
use Rattle.iso_isolation.specs.Suites.{Suite, may_write}
use Rattle.iso_isolation.specs.States.{Finished, Nodes, nothing, put}

module _ {H K V B F R : Type 0} (l : Language H K V B F R) (x : Suite H K V) where
  -- Leave of a test or of an `after_all`: the keys that the node may change stand again as at its
  -- Enter
  abbrev pub finishing : ℕ → R → Nodes K V B F R → Nodes K V B F R
  finishing n r s = record {
    flat = λ k. cond (may_write l x n k) (s.saved n k) (s.flat k);
    status = put n (Finished r) s.status;
    saved = put n nothing s.saved;
  }
