use Rattle.std.proofs.Common.{◌≡◌, ◌<◌, ℕ, None, [], drop, length, map, slice_index_or}
use Rattle.iso_model.specs.Rights.{rights_of, strongest}
use Rattle.iso_plan.proofs.locks.gather.Given as goal

abbrev pub invariant-marks : goal.invariant-marks
invariant-marks l = record {
  fits : length l.table.items ≡ length l.fn.table.items;
  rest : (i : ℕ) → i < length l.keys.keys
      → strongest (rights_of (drop l.mark-index l.marks) (slice_index_or (map (λ k. k.now) l.keys.keys) i [])) (slice_index_or l.table.items i None) ≡ strongest
      (rights_of l.marks (slice_index_or (map (λ k. k.now) l.keys.keys) i [])) (slice_index_or l.fn.table.items i None);
}
