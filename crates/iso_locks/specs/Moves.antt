-- What moves between slots of the same numbers when locks for READ_WRITE are taken and let go.
use Rattle.std.specs.Prelude.{◌≡◌, ℕ, ◌<◌, List, [], ◌∷◌, length, None, Bool, true, false, ◌||◌, ◌&&◌, ◌==◌, cond, slice_set}
use Rattle.std.specs.Option.{option_or}
use Rattle.iso_plan.specs.Locks.{is_write}
use Rattle.iso_plan.specs.Paths.{column}
use Rattle.iso_plan.specs.declared.lock.Lock.{Lock}
use Rattle.iso_locks.specs.Slots.{Slots, slot}

-- whether a lock is on the key with a number for READ_WRITE
abbrev pub writes_key : Lock → ℕ → Bool
writes_key l i = l.key == i && is_write l

-- whether one of some locks is
abbrev pub is_written : List Lock → ℕ → Bool
is_written [] i = false
is_written (l ∷ ls) i = writes_key l i || is_written ls i

-- the slots into which values move: at each number with such a lock the value from there, if there
-- is one
abbrev pub moved_here : List Lock → Slots → Slots → Slots
moved_here locks there here =
    column (λ i. cond (is_written locks i) (option_or (slot there i) (slot here i)) (slot here i))
    (length here)

-- the slots from which they move
abbrev pub moved_away : List Lock → Slots → Slots
moved_away locks there = column (λ i. cond (is_written locks i) None (slot there i)) (length there)

-- the same of one lock
abbrev pub put_here : Lock → Slots → Slots → Slots
put_here l there here =
    cond (is_write l) (slice_set here l.key (option_or (slot there l.key) (slot here l.key))) here

abbrev pub taken_away : Lock → Slots → Slots
taken_away l there = cond (is_write l) (slice_set there l.key None) there

-- each lock is on a key with a number below n
abbrev pub AreWithin : ℕ → List Lock → Type 0
AreWithin n [] = Unit {0}
AreWithin n (l ∷ ls) = (l.key < n) × AreWithin n ls

-- of n keys some locks are for READ_WRITE on each but the first, on which none is
pub record AreAllButFirst (n : ℕ) (locks : List Lock) : Type 0 where
  pub some : 0 < n
  pub first : is_written locks 0 ≡ false
  pub others : (i : ℕ) → 0 < i → i < n → is_written locks i ≡ true

-- the first of some locks is on the second key, for READ_WRITE
abbrev pub BeginAtSecond : List Lock → Type 0
BeginAtSecond [] = ⊥
BeginAtSecond (l ∷ ls) = writes_key l 1 ≡ true
