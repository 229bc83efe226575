-- How contracts see what borrows texts: with the texts themselves.
use Rattle.std.specs.Prelude.{ℕ, List, Option, Bool}
use Rattle.std.specs.Option.{option_map}
use Rattle.iso_summary.specs.declared.again.Again.{Again}
use Rattle.iso_summary.specs.declared.located.Located.{Located}

-- where a failure stands: the file and whether it was named, the line's number, and the line; and
-- what mends it, a line each
pub record LocatedView : Type 0 where
  pub file : List ℕ
  pub named : Bool
  pub line : ℕ
  pub source : List ℕ
  pub hints : List (List ℕ)

abbrev pub located_of : Located → LocatedView
located_of l = record {
  file = l.file.now;
  named = l.named;
  line = l.line;
  source = l.source.now;
  hints = l.hints.now;
}

-- what is told again of a command: the files of its options, and the number of processors
pub record AgainView : Type 0 where
  pub settings : Option (List ℕ)
  pub world : Option (List ℕ)
  pub processors : Option ℕ

abbrev pub again_of : Again → AgainView
again_of a =
    record {
      settings = option_map (λ f. f.now) a.settings;
      world = option_map (λ f. f.now) a.world;
      processors = a.processors;
    }
