-- Sinks of bytes: what they took, and whether they failed.
--
-- account of a sink: What a sink took, as far as it tells, how many bytes that were, and how often
-- it failed; a text written whole (`Wrote`) or cut off (`CutOff`).
use Rattle.std.specs.Prelude.{◌≡◌, ℕ, ◌+◌, ◌-◌, ◌<◌, ◌≤◌, suc, zero, min, List, [], ◌∷◌, ◌++◌, length, take, Bool, true, false, Option, None, Some, Result, Ok, Err}

-- what a sink tells of itself: the bytes that it took so far, where it tells them, their number,
-- and how often it failed
pub record Account : Type 0 where
  pub bytes : Option (List ℕ)
  pub count : ℕ
  pub failures : ℕ

-- the greatest number that a sink can count to
abbrev pub greatest : ℕ
greatest = 18446744073709551615

-- the bytes with a piece after them, where they are told
abbrev pub appended : Option (List ℕ) → List ℕ → Option (List ℕ)
appended None piece = None
appended (Some bytes) piece = Some (bytes ++ piece)

-- the sink took just this piece
pub record Took (old new : Account) (piece : List ℕ) : Type 0 where
  pub bytes : new.bytes ≡ appended old.bytes piece
  pub count : new.count ≡ old.count + length piece

-- the sink took nothing
pub record TookNothing (old new : Account) : Type 0 where
  pub bytes : new.bytes ≡ old.bytes
  pub count : new.count ≡ old.count

-- whether an answer to a piece is a failure: an error, or no byte taken of a piece that isn't empty
abbrev pub is_failure : {E : Type 0} → Result ℕ E → List ℕ → Bool
is_failure (Err e) piece = true
is_failure (Ok (suc n)) piece = false
is_failure (Ok zero) [] = false
is_failure (Ok zero) (b ∷ bs) = true

-- the number of failures after one more, or none: it stays at the greatest number
abbrev pub failures_after : Bool → ℕ → ℕ
failures_after true n = min (n + 1) greatest
failures_after false n = n

-- the sink failed once between these numbers of failures
abbrev pub HasFailed : ℕ → ℕ → Type 0
HasFailed old new = new ≡ failures_after true old

-- the whole text was written, and the sink didn't fail
pub record Wrote (old new : Account) (text : List ℕ) : Type 0 where
  pub took : Took old new text
  pub failures : new.failures ≡ old.failures

-- the sink failed once and was asked nothing more: what was written is the beginning of the text,
-- not the whole of it
pub record CutOff (old new : Account) (text : List ℕ) : Type 0 where
  pub begun : old.count ≤ new.count
  pub within : new.count < old.count + length text
  pub took : Took old new (take (new.count - old.count) text)
  pub failed : HasFailed old.failures new.failures
