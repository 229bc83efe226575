use Rattle.iso_junit.proofs.AllowedLemmas.{names-are-allowed}
use Rattle.iso_junit.proofs.laws.names_of_files_are_allowed.Goals as goal

pub returns : goal.returns
returns c name text = names-are-allowed name text
