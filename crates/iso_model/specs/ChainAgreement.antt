-- Agreement of chains: two tests, or two classes, of equal chains on starts that are equal at the
-- keys of their rights.
--
-- agreement: Two tests, or two classes, agree where their chains are equal and their starts are
-- equal at the keys of the chain's rights (`TestsAgree`, `ClassesAgree`).
--
-- equal at the keys of rights: Two resource maps have the same value at each key that the rights
-- let look at (`EqualAt`).
use Rattle.std.specs.Prelude.{◌≡◌, ℕ, List, ◌∷◌, true}
use Rattle.iso_model.specs.Chains.{ClassHead, TestHead, class_rights, test_rights}
use Rattle.iso_model.specs.Rights.{Rights, is_readable}
use Rattle.iso_model.specs.Resources.{Resources}
use Rattle.iso_model.specs.Statements.{State}
use Rattle.iso_model.specs.Openings.{Opening}
use Rattle.iso_model.specs.Steps.{Machine}
use Rattle.iso_model.specs.Tests.{Body}

-- two resource maps are equal at the keys of the rights: those that a block with these rights may
-- look at
pub record EqualAt (r : Rights) (m n : Resources) : Type 0 where
  pub same : (k : List ℕ) → is_readable (r k) ≡ true → m k ≡ n k

-- two tests agree: their chains are equal, and their starts are equal at the keys of that chain's
-- rights
pub record TestsAgree (t : TestHead) (cs : List ClassHead) (m : Resources) (u : TestHead)
    (ds : List ClassHead) (n : Resources) : Type 0 where
  pub head : t ≡ u
  pub classes : cs ≡ ds
  pub starts : EqualAt (test_rights t cs) m n

-- two classes agree, in the same way
pub record ClassesAgree (c : ClassHead) (cs : List ClassHead) (m : Resources) (d : ClassHead)
    (ds : List ClassHead) (n : Resources) : Type 0 where
  pub head : c ≡ d
  pub classes : cs ≡ ds
  pub starts : EqualAt (class_rights (c ∷ cs)) m n

-- the second rights let look wherever the first do
pub record LooksWithin (q r : Rights) : Type 0 where
  pub looks : (k : List ℕ) → is_readable (q k) ≡ true → is_readable (r k) ≡ true

-- two states are equal but for resources at keys that may not be looked at
pub record Alike (r : Rights) (s t : State) : Type 0 where
  pub here : s.here ≡ t.here
  pub resources : EqualAt r s.resources t.resources

-- the same of what the opening of a chain leaves, and of how far a test has come
pub record AlikeOpenings (r : Rights) (o p : Opening) : Type 0 where
  pub frames : o.frames ≡ p.frames
  pub resources : EqualAt r o.resources p.resources
  pub well : o.well ≡ p.well

pub record AlikeBodies (r : Rights) (b d : Body) : Type 0 where
  pub names : b.names ≡ d.names
  pub resources : EqualAt r b.resources d.resources
  pub printed : b.printed ≡ d.printed
  pub lines : b.lines ≡ d.lines
  pub endings : b.endings ≡ d.endings

-- the same of two machines, with the pieces that are left
pub record AlikeAt (r : Rights) (x y : Machine) : Type 0 where
  pub pieces : x.pieces ≡ y.pieces
  pub state : Alike r x.state y.state
