-- Where two lists differ first.
--
-- first place that differs: Two lists are alike before a place, and not with what stands at it
-- (`ApartAt`, `IsFirst`); of two blocks the rows of what stands there (`AreRowsApart`).
use Rattle.std.specs.Prelude.{◌≡◌, ℕ, ◌+◌, List, Option, Some, None, take}
use Rattle.std.specs.List.{slice_get}
use Rattle.std.specs.Option.{option_map}
use Rattle.iso_affected.specs.declared.firsts.RowsApart.{RowsApart}
use Rattle.iso_model.specs.Syntax.{Act}

-- two lists are alike before a place, and not with what stands at it, where one of them may have
-- nothing
pub record ApartAt {A : Type 0} (xs ys : List A) (place : ℕ) : Type 0 where
  pub before : take place xs ≡ take place ys
  pub here : take (place + 1) xs ≡ take (place + 1) ys → ⊥

-- the first place where two lists differ, if they do
abbrev pub IsFirst : {A : Type 0} → List A → List A → Option ℕ → Type 0
IsFirst xs ys None = xs ≡ ys
IsFirst xs ys (Some place) = ApartAt xs ys place

-- the row of the statement at a place of a block, where there is one
abbrev pub row_in : List (ℕ × Act) → ℕ → Option ℕ
row_in xs place = option_map (λ s. s.0) (slice_get xs place)

-- the rows of what stands at the first place where two blocks differ
pub record RowsAt (xs ys : List (ℕ × Act)) (rows : RowsApart) : Type 0 where
  pub place : ℕ
  pub apart : ApartAt xs ys place
  pub before : rows.before ≡ row_in xs place
  pub now : rows.now ≡ row_in ys place

-- the same, if they differ
abbrev pub AreRowsApart : List (ℕ × Act) → List (ℕ × Act) → Option RowsApart → Type 0
AreRowsApart xs ys None = xs ≡ ys
AreRowsApart xs ys (Some rows) = RowsAt xs ys rows
