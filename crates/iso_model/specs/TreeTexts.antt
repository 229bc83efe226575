-- Texts as the tree of a script keeps them.
use Rattle.std.specs.Prelude.{ℕ, List}
use Rattle.iso_model.specs.declared.tree_text.Kept.{Kept}
use Rattle.iso_model.specs.declared.tree_text.Kept.TheVariants.{InPlace, Apart}

-- the bytes of a text, wherever they are
abbrev pub kept_bytes : Kept → List ℕ
kept_bytes (InPlace s) = s
kept_bytes (Apart t) = t.value
