-- Sets of key numbers, as bits in words of 64.
use Rattle.std.specs.Prelude.{ℕ, Bool, ◌/◌, ◌%◌, slice_index_or}
use Rattle.iso_desk.specs.Marking.{bit}
use Rattle.iso_locks.specs.declared.key_set.KeySet.{KeySet}

-- whether a number is in a set
abbrev pub holds : KeySet → ℕ → Bool
holds s k = bit (slice_index_or s.words (k / 64) 0) (k % 64)
