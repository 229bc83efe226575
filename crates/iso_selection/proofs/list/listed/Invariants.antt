use Rattle.std.proofs.Common.{◌≡◌, ◌≤◌, ◌++◌, drop, filter}
use Rattle.std.specs.Str.Lines.{lines}
use Rattle.iso_plan.specs.KeptNodes.{texts_of}
use Rattle.iso_selection.proofs.LineLemmas.{IsLine}
use Rattle.iso_selection.specs.Lists.{has_bytes, listed}
use Rattle.iso_selection.proofs.list.listed.Given as goal

abbrev pub invariant-bytes : goal.invariant-bytes
invariant-bytes l = record {
  within : l.begin ≤ l.at;
  line : IsLine l.file l.begin l.at;
  same : texts_of l.paths.items ++ filter has_bytes (lines (drop l.begin l.file)) ≡ listed l.file;
}
