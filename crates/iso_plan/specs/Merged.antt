-- Marks of a node as they count: each key once for each target, in the strongest access.
use Rattle.std.specs.Prelude.{ℕ, zero, suc, ◌+◌, List, [], ◌∷◌, Bool, ◌&&◌, cond}
use Rattle.std.specs.Str.{bytes_eq}
use Rattle.iso_model.specs.Rights.{stronger}
use Rattle.iso_model.specs.Targets.{is_target}
use Rattle.iso_model.specs.declared.heads.Mark.{Mark}
use Rattle.iso_model.specs.declared.limits.TheConstants.{KEYS}

-- whether two marks are of one key and for one target
abbrev pub is_same_key : Mark → Mark → Bool
is_same_key m n = bytes_eq m.key n.key && is_target m.target n.target

-- two marks of one key as one: the stronger access counts
abbrev pub as_one : Mark → Mark → Mark
as_one m n = record m { access = stronger m.access n.access }

-- how many marks are kept of a node: one more than a node of a plan can have, which are two targets
-- of each key, the global one with them (`laws::no_mark_is_left_out`)
abbrev pub most_marks : ℕ
most_marks = suc ((KEYS + 1) + (KEYS + 1))

-- a mark more, where at most this number is kept: one with the mark of its key and target, else
-- after all others
abbrev pub with_mark : ℕ → List Mark → Mark → List Mark
with_mark zero ns m = ns
with_mark (suc most) [] m = m ∷ []
with_mark (suc most) (n ∷ ns) m = cond (is_same_key n m) (as_one n m ∷ ns) (n ∷ with_mark most ns m)

-- further marks, one after another
abbrev pub with_marks : List Mark → List Mark → List Mark
with_marks ns [] = ns
with_marks ns (m ∷ ms) = with_marks (with_mark most_marks ns m) ms

-- marks as they count. A node with more than are kept has too many keys by those that are.
abbrev pub merged : List Mark → List Mark
merged marks = with_marks [] marks

-- the same without a bound: a mark more, further marks, and all marks as they count
abbrev pub with_any_mark : List Mark → Mark → List Mark
with_any_mark [] m = m ∷ []
with_any_mark (n ∷ ns) m = cond (is_same_key n m) (as_one n m ∷ ns) (n ∷ with_any_mark ns m)

abbrev pub with_all_marks : List Mark → List Mark → List Mark
with_all_marks ns [] = ns
with_all_marks ns (m ∷ ms) = with_all_marks (with_any_mark ns m) ms

abbrev pub all_merged : List Mark → List Mark
all_merged marks = with_all_marks [] marks
