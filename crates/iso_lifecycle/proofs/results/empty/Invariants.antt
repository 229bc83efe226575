use Rattle.std.proofs.Common.{◌≡◌, replicate}
use Rattle.iso_lifecycle.specs.declared.entry.Entry.TheVariants.{Empty}
use Rattle.iso_lifecycle.proofs.results.empty.Given as goal

abbrev pub invariant-entries : goal.invariant-entries
invariant-entries l = l.entries.items ≡ replicate l._n Empty
