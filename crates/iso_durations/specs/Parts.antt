-- The parts of lines, as texts.
use Rattle.std.specs.Prelude.{ℕ, List}
use Rattle.std.specs.Fmt.{decimal}
use Rattle.iso_durations.specs.Lines.{counted}
use Rattle.iso_durations.specs.Seconds.{seconds}
use Rattle.iso_durations.specs.declared.part.Part.{Part}
use Rattle.iso_durations.specs.declared.part.Part.TheVariants.{Plain, Number, Counted, Seconds}

-- the text of a part
abbrev pub part_text : Part → List ℕ
part_text (Plain text) = text.now
part_text (Number n) = decimal n
part_text (Counted n one many) = counted n one.now many.now
part_text (Seconds t) = seconds t
