-- The parts of elements, as texts.
use Rattle.std.specs.Prelude.{ℕ, List}
use Rattle.std.specs.Fmt.{decimal}
use Rattle.iso_junit.specs.Documents.{counts_text}
use Rattle.iso_junit.specs.Elements.{display_name}
use Rattle.iso_junit.specs.Escapes.{escaped}
use Rattle.iso_junit.specs.Files.{file_name}
use Rattle.iso_junit.specs.Times.{time_attribute}
use Rattle.iso_junit.specs.declared.part.Part.{Part}
use Rattle.iso_junit.specs.declared.part.Part.TheVariants.{Plain, Number, Text, File, Time, Display, Counts}

-- the text of a part
abbrev pub part_text : Part → List ℕ
part_text (Plain text) = text.now
part_text (Number n) = decimal n
part_text (Text text) = escaped text.now
part_text (File file) = escaped (file_name file.now)
part_text (Time time) = time_attribute time
part_text (Display title) = display_name title.now
part_text (Counts tally) = counts_text tally
