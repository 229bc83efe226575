-- How far the comparison of receipts with a history has come: the numbers of the receipts that are
-- in order are marked.
use Rattle.std.specs.Prelude.{◌≡◌, ◌<◌, ℕ, List, [], ◌∷◌, ◌++◌, min, max, Option, Some, None, Bool, true, false, slice_get, slice_index_or}
use Rattle.std.specs.Option.{IfSome}
use Rattle.iso_book.specs.Leaves.{ReceiptView}
use Rattle.iso_standing.specs.declared.event.Event.{Event}
use Rattle.iso_standing.specs.declared.event.Event.TheVariants.{Leave}
use Rattle.iso_floor.specs.Audits.{IsAstray, IsReceipted, Stands, receipt_at}

-- whether a number is marked
abbrev pub is_marked : List Bool → ℕ → Bool
is_marked marks n = slice_index_or marks n false

-- a number is below the lowest one that is lost so far, if one is
abbrev pub IsBefore : ℕ → Option ℕ → Type 0
IsBefore n None = Unit {0}
IsBefore n (Some m) = n < m

-- a number is above the highest so far, if there is one
abbrev pub IsAbove : ℕ → Option ℕ → Type 0
IsAbove n None = Unit {0}
IsAbove n (Some m) = m < n

-- the lower, and the higher, of a number and one that may be missing
abbrev pub lower_of : ℕ → Option ℕ → ℕ
lower_of n None = n
lower_of n (Some m) = min n m

abbrev pub higher_of : ℕ → Option ℕ → ℕ
higher_of n None = n
higher_of n (Some m) = max n m

-- a receipt is of the history, above the highest of its list so far, and its number isn't marked
-- yet
abbrev pub IsNext : List Event → ReceiptView → Option ℕ → List Bool → Type 0
IsNext h r highest marks = Stands h r × IsAbove r.number highest
    × (is_marked marks r.number ≡ false)

-- Below the lowest number that is lost so far, each receipt of these lists is in order and marked,
-- and what is marked has a receipt.
pub record IsAudited (h : List Event) (lists : List (List ReceiptView)) (marks : List Bool)
    (lowest : Option ℕ) : Type 0 where
  pub marked : (n : ℕ) → is_marked marks n ≡ true → IsReceipted lists n
  pub every : (seat place : ℕ) (r : ReceiptView) → receipt_at lists seat place ≡ Some r
      → IsBefore r.number lowest → is_marked marks r.number ≡ true
  pub stands : (seat place : ℕ) (r : ReceiptView) → receipt_at lists seat place ≡ Some r
      → IsBefore r.number lowest → Stands h r
  pub above : (seat earlier place : ℕ) (q r : ReceiptView) → earlier < place
      → receipt_at lists seat earlier ≡ Some q
      → receipt_at lists seat place ≡ Some r → IsBefore r.number lowest → q.number < r.number
  pub once : (seat other place there : ℕ) (r q : ReceiptView) → receipt_at lists seat place ≡ Some r
      → receipt_at lists other there ≡ Some q → r.number ≡ q.number → IsBefore r.number lowest
      → seat ≡ other
  pub astray : IfSome lowest (IsAstray h lists)

-- the comparison goes on by one list more
abbrev pub GoesOnBy : List Event → (marks : List Bool) (lowest : Option ℕ) → List ReceiptView
    → (marks_after : List Bool) (lowest_after : Option ℕ) → Type 0
GoesOnBy h marks lowest list marks_after lowest_after =
    (lists : List (List ReceiptView)) → IsAudited h lists marks lowest
    → IsAudited h (lists ++ list ∷ []) marks_after lowest_after

-- the number, if there is one, is the lowest of a Leave that isn't marked
abbrev pub IsFirstUnmarked : List Event → List Bool → Option ℕ → Type 0
IsFirstUnmarked h marks None = (n w : ℕ) → slice_get h n ≡ Some (Leave w) → is_marked marks n ≡ true
IsFirstUnmarked h marks (Some m) =
    ((w : ℕ) × (slice_get h m ≡ Some (Leave w)))
    × (is_marked marks m ≡ false)
    × ((n w : ℕ) → n < m → slice_get h n ≡ Some (Leave w) → is_marked marks n ≡ true)
