use Rattle.std.proofs.Common.{[], refl}
use Rattle.iso_isolation.specs.Examples.{counting}
use Rattle.iso_progress.specs.Examples.{after_in, both_opened, crossed_rows, nested_rows, outer_done, rooted_rows, suite_in}
use Rattle.iso_progress.proofs.BrokenLaws.{crossed_laws, crossed_root, crossed_tests, nested_laws, nested_root, nested_gathered, rooted_laws, rooted_gathered, rooted_tests}
use Rattle.iso_progress.proofs.Refusing.{stuck}
use Rattle.iso_progress.proofs.examples.each_law_is_needed.Goals as goal

pub returns-clause-crossed : goal.returns-clause-crossed
returns-clause-crossed c = record {
  suite = crossed_laws;
  run = refl;
  stuck = stuck counting (suite_in crossed_rows) 2 (after_in crossed_rows both_opened) refl;
  unfinished = refl;
}

pub returns-clause-crossed_root : goal.returns-clause-crossed_root
returns-clause-crossed_root c = crossed_root

pub returns-clause-crossed_tests : goal.returns-clause-crossed_tests
returns-clause-crossed_tests c = crossed_tests

pub returns-clause-nested : goal.returns-clause-nested
returns-clause-nested c = record {
  suite = nested_laws;
  run = refl;
  stuck = stuck counting (suite_in nested_rows) 2 (after_in nested_rows outer_done) refl;
  unfinished = refl;
}

pub returns-clause-nested_root : goal.returns-clause-nested_root
returns-clause-nested_root c = nested_root

pub returns-clause-nested_gathered : goal.returns-clause-nested_gathered
returns-clause-nested_gathered c = nested_gathered

pub returns-clause-rooted : goal.returns-clause-rooted
returns-clause-rooted c = record {
  suite = rooted_laws;
  run = refl;
  stuck = stuck counting (suite_in rooted_rows) 2 (after_in rooted_rows []) refl;
  unfinished = refl;
}

pub returns-clause-rooted_gathered : goal.returns-clause-rooted_gathered
returns-clause-rooted_gathered c = rooted_gathered

pub returns-clause-rooted_tests : goal.returns-clause-rooted_tests
returns-clause-rooted_tests c = rooted_tests
