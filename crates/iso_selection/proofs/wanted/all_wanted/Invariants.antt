use Rattle.std.proofs.Common.{◌≡◌, ◌++◌, take, map}
use Rattle.iso_plan.specs.KeptNodes.{texts_of}
use Rattle.iso_selection.specs.Wishes.{path, pattern, wish_of}
use Rattle.iso_selection.proofs.wanted.all_wanted.Given as goal

abbrev pub invariant-only : goal.invariant-only
invariant-only l = map wish_of l.wanted.items ≡ map path (texts_of (take l.path-index l.only))

abbrev pub invariant-patterns : goal.invariant-patterns
invariant-patterns l = map wish_of l.wanted.items ≡ map path (texts_of l.only) ++ map pattern (texts_of (take l.pattern-index l.patterns))
