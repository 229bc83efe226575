-- The parts of commands, as texts.
use Rattle.std.specs.Prelude.{ℕ, List}
use Rattle.std.specs.Fmt.{decimal}
use Rattle.iso_github.specs.Commands.{in_message, in_property}
use Rattle.iso_github.specs.declared.part.Part.{Part}
use Rattle.iso_github.specs.declared.part.Part.TheVariants.{Plain, Number, Property, Message}

-- the text of a part
abbrev pub part_text : Part → List ℕ
part_text (Plain text) = text.now
part_text (Number n) = decimal n
part_text (Property text) = in_property text.now
part_text (Message text) = in_message text.now
