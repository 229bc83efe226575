use Rattle.std.proofs.Common.{refl}
use Rattle.iso_plan.specs.Paths.{path}
use Rattle.std.specs.Fmt.{digits}
use Rattle.iso_conflicts.proofs.examples.one_reader_counts.Goals as goal

pub returns-clause-readers : goal.returns-clause-readers
unfolding digits path
returns-clause-readers c = refl

pub returns-clause-global : goal.returns-clause-global
unfolding digits path
returns-clause-global c = refl

pub returns-clause-both : goal.returns-clause-both
unfolding digits path
returns-clause-both c = refl

pub returns-clause-reader : goal.returns-clause-reader
unfolding digits path
returns-clause-reader c = refl

pub returns-clause-writer : goal.returns-clause-writer
unfolding digits path
returns-clause-writer c = refl
