use Rattle.std.proofs.Common.{◌≡◌, ◌+◌, ◌*◌, ◌-◌, ◌≤◌, ◌||◌, drop, length}
use Rattle.iso_selection.proofs.MatchLemmas.{GoesOn, some_later}
use Rattle.iso_selection.specs.Patterns.{is_match, some_end}
use Rattle.iso_selection.proofs.pattern.has_end.Given as goal

abbrev pub invariant-text : goal.invariant-text
invariant-text l = record {
  at_in : l.at ≤ length l.pattern;
  after_in : l.after ≤ l.at;
  place_in : l.place ≤ length l.text;
  from_in : l.from ≤ l.place;
  on : GoesOn (is_match (drop l.after l.pattern)) (is_match (drop l.at l.pattern)) (l.place - l.from);
  same : (is_match (drop l.at l.pattern) (drop l.place l.text) || some_later (is_match (drop l.after l.pattern)) (drop l.from l.text)) ≡ some_end (is_match l.pattern) l.text;
}

abbrev pub decreases-text : goal.decreases-text
decreases-text l = (length l.text - l.from) * (length l.pattern + 1) + (length l.pattern - l.at)
