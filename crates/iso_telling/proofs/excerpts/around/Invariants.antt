use Rattle.std.proofs.Common.{◌≡◌, map}
use Rattle.std.specs.List.{range_with_len}
use Rattle.iso_html.specs.Quotes.{line_of}
use Rattle.iso_telling.specs.Excerpts.{numbered_line}
use Rattle.iso_telling.proofs.excerpts.around.Given as goal

abbrev pub invariant-lines : goal.invariant-lines
invariant-lines l = map line_of l.lines.items ≡ map (numbered_line l.text) (range_with_len l.first l.place)
