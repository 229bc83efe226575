use Rattle.iso_summary.proofs.UnseenLemmas.{control-is-unseen, unseen-ranges}
use Rattle.iso_summary.proofs.laws.unseen_characters_are_of_these_ranges.Goals as goal

pub returns-clause-ranges : goal.returns-clause-ranges
returns-clause-ranges c n = unseen-ranges n

pub returns-clause-controls : goal.returns-clause-controls
returns-clause-controls c n h = control-is-unseen n h
