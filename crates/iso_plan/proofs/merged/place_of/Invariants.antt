use Rattle.std.proofs.Common.{◌≡◌, ◌<◌, ◌≤◌, ℕ, false, slice_index_or}
use Rattle.iso_plan.specs.Merged.{is_same_key, most_marks}
use Rattle.iso_plan.proofs.merged.place_of.Given as goal

abbrev pub invariant-marks : goal.invariant-marks
invariant-marks l = ((j : ℕ) → j < l.place → is_same_key (slice_index_or l.marks j l.mark) l.mark ≡ false) × l.place ≤ most_marks
