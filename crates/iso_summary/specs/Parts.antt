-- The parts of lines, as texts.
use Rattle.std.specs.Prelude.{ℕ, List, map}
use Rattle.std.specs.Fmt.{decimal}
use Rattle.std.specs.Option.{option_map}
use Rattle.iso_summary.specs.Lines.{counted, failed_classes, file_option, number_option}
use Rattle.iso_summary.specs.Names.{shown_name}
use Rattle.iso_summary.specs.ShownLines.{shown_byte, shown_source}
use Rattle.iso_summary.specs.Words.{file_word}
use Rattle.iso_summary.specs.declared.part.Part.{Part}
use Rattle.iso_summary.specs.declared.part.Part.TheVariants.{Plain, Number, Counted, FailedClasses, Name, Source, Shown, File, FileOption, NumberOption}

-- the text of a part
abbrev pub part_text : Part → List ℕ
part_text (Plain text) = text.now
part_text (Number n) = decimal n
part_text (Counted n one many) = counted n one.now many.now
part_text (FailedClasses n) = failed_classes n
part_text (Name file) = shown_name file.now
part_text (Source line) = shown_source line.now
part_text (Shown text) = map shown_byte text.now
part_text (File name) = file_word name.now
part_text (FileOption option file) = file_option option.now (option_map (λ f. f.now) file)
part_text (NumberOption option n) = number_option option.now n
