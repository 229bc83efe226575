-- Access rights: what a block may look at and change. Held locks play no part in them.
--
-- access rights: Each key that is marked anywhere on the chain, with the strongest access of its
-- marks (`rights_of`, `class_rights`, `test_rights`). Held locks play no part.
-- Also in: `Chains`.
use Rattle.std.specs.Prelude.{ℕ, List, [], ◌∷◌, Option, Some, None, Bool, true, false, cond, bytes_eq}
use Rattle.iso_model.specs.declared.access.Access.{Access}
use Rattle.iso_model.specs.declared.access.Access.TheVariants.{Read, Write}
use Rattle.iso_model.specs.declared.heads.Mark.{Mark}

-- the access that a key is declared with, if it is
abbrev pub Rights : Type 0
Rights = List ℕ → Option Access

-- the stronger of two accesses: `write` lets look as well as change
abbrev pub stronger : Access → Access → Access
stronger Read a = a
stronger Write a = Write

-- the stronger of two accesses, where either may be absent
abbrev pub strongest : Option Access → Option Access → Option Access
strongest None b = b
strongest (Some a) None = Some a
strongest (Some a) (Some b) = Some (stronger a b)

-- what one mark declares
abbrev pub declared_by : Mark → Rights
declared_by mark k = cond (bytes_eq k mark.key) (Some mark.access) None

-- what marks declare together: for each key the strongest access that a mark names it with
abbrev pub rights_of : List Mark → Rights
rights_of [] k = None
rights_of (mark ∷ marks) k = strongest (declared_by mark k) (rights_of marks k)

-- the access of a key in a list of declared keys: the first that it stands with
abbrev pub access_in : List (List ℕ × Access) → Rights
access_in [] k = None
access_in (e ∷ es) k = cond (bytes_eq k e.0) (Some e.1) (access_in es k)

-- whether a key may be looked at
abbrev pub is_readable : Option Access → Bool
is_readable None = false
is_readable (Some a) = true

-- whether a key may be changed
abbrev pub is_writable : Option Access → Bool
is_writable None = false
is_writable (Some Read) = false
is_writable (Some Write) = true
