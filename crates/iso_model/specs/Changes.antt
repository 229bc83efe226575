-- What blocks may do to the resources, the output and the names: the words of the laws.
--
-- one change: A step leaves the resources as they are, or makes one change of one key that the
-- rights let change (`OneChange`).
use Rattle.std.specs.Prelude.{◌≡◌, ℕ, ◌+◌, List, [], ◌∷◌, ◌++◌, length, Option, Some, None, true, cond, option_map}
use Rattle.iso_model.specs.Rights.{Rights, is_writable}
use Rattle.iso_model.specs.Resources.{Resources, changed_at}
use Rattle.iso_model.specs.Names.{is_frozen}
use Rattle.iso_model.specs.Statements.{Local}
use Rattle.iso_model.specs.Touch.{Kind, kind_of_value}
use Rattle.iso_model.specs.declared.data.Data.{Data}
use Rattle.iso_model.specs.declared.names.Binding.{Binding}
use Rattle.iso_model.specs.declared.names.Sort.{Sort}
use Rattle.iso_model.specs.declared.resource.Change.{Change}

-- from some resources to others: none is changed, or one, at a key that the rights let change
pub data OneChange (r : Rights) (m : Resources) : Resources → Type 0 where
  none : OneChange r m m
  one : (k : List ℕ) (change : Change) → is_writable (r k) ≡ true
      → OneChange r m (changed_at m k change)

-- the kind of the value at a key, where there is one
abbrev pub kind_at : Resources → List ℕ → Option Kind
kind_at m k = option_map kind_of_value (m k)

-- the bytes of lines, each with one for its end
abbrev pub bytes_of : List (List ℕ) → ℕ
bytes_of [] = 0
bytes_of (line ∷ lines) = length line + 1 + bytes_of lines

-- the second has printed some lines more than the first, and counts their bytes
pub record PrintsMore (l t : Local) : Type 0 where
  pub lines : List (List ℕ)
  pub printed : t.lines ≡ l.lines ++ lines
  pub counted : t.env.printed ≡ l.env.printed + bytes_of lines

-- what no block changes of a name that it sees: the name, its sort and, where it is frozen, its
-- value
abbrev pub lasting : Binding → List ℕ × Sort × Option Data
lasting b = (b.name, b.sort, cond (is_frozen b.sort) (Some b.value) None)
