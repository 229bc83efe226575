use Rattle.std.proofs.Common.{◌≡◌, List, length}
use Rattle.std.specs.List.{filter_map}
use Rattle.std.specs.Option.{option_to_list}
use Rattle.iso_model.specs.declared.place.Lifecycle.{Lifecycle}
use Rattle.iso_script.specs.Blocks.{IsWritten, Written, blocks_of, block_in}
use Rattle.iso_script.specs.Readings.{AreRead}
use Rattle.iso_script.proofs.block.read_blocks.Given as goal

abbrev pub invariant-written : goal.invariant-written
invariant-written l = (written : List Written) × AreRead IsWritten written l.fn.parser.lexer l.parser.lexer
    × ((k : Lifecycle) → filter_map (block_in k) written ≡ option_to_list (blocks_of l.blocks k))

abbrev pub decreases-written : goal.decreases-written
decreases-written l = length l.parser.lexer
