-- Lists that grow.
use Rattle.std.specs.Prelude.{◌≡◌, ℕ, ◌<◌, List, [], ◌++◌, length, slice_index_or}
use Rattle.iso_html.specs.declared.shape.Mark.{Mark}

-- each of some lists has something more behind it, by its number
pub record AreLonger (old new : List (List Mark)) (more : ℕ → List Mark) : Type 0 where
  pub size : length new ≡ length old
  pub longer : (k : ℕ) → k < length old → slice_index_or new k []
      ≡ slice_index_or old k [] ++ more k
