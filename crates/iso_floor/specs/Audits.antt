-- When the receipts that seats hand in are those of a history.
--
-- receipts of a history: A receipt is of a history where a Leave of its worker stands at its
-- number, whose last Enter or Shut before was of its node (`Stands`, `last_begun`); a number is
-- lost where a receipt with it isn't of the history, stands after one that isn't lower, or is in
-- two seats, or where it is a Leave's without a receipt (`IsLost`); the lowest such number
-- (`IsLowest`), and how far a comparison has come (`IsAudited`).
-- Also in: `Auditing`.
use Rattle.std.specs.Prelude.{◌≡◌, ◌<◌, ◌≤◌, ◌≢◌, ℕ, List, [], ◌∷◌, take, Option, Some, None, cond, ◌==◌, slice_get, slice_index_or}
use Rattle.std.specs.Option.{option_or}
use Rattle.iso_book.specs.Leaves.{ReceiptView}
use Rattle.iso_standing.specs.declared.event.Event.{Event}
use Rattle.iso_standing.specs.declared.event.Event.TheVariants.{Enter, Step, Leave, Shut}

-- the node of which an event begins a body by this worker
abbrev pub begun_by : ℕ → Event → Option ℕ
begun_by w (Enter v n) = cond (v == w) (Some n) None
begun_by w (Step v) = None
begun_by w (Leave v) = None
begun_by w (Shut v n) = cond (v == w) (Some n) None

-- the node of the worker's last Enter or Shut
abbrev pub last_begun : ℕ → List Event → Option ℕ
last_begun w [] = None
last_begun w (e ∷ es) = option_or (last_begun w es) (begun_by w e)

-- the receipt is of this history: at its number stands a Leave of its worker, whose last Enter or
-- Shut before was of its node
abbrev pub Stands : List Event → ReceiptView → Type 0
Stands h r = (slice_get h r.number ≡ Some (Leave r.worker))
    × (last_begun r.worker (take r.number h) ≡ Some r.node)

-- the receipt at a place of a seat's list
abbrev pub receipt_at : List (List ReceiptView) → (seat place : ℕ) → Option ReceiptView
receipt_at lists seat place = slice_get (slice_index_or lists seat []) place

-- a seat has a receipt with this number
pub record IsReceipted (lists : List (List ReceiptView)) (n : ℕ) : Type 0 where
  pub seat : ℕ
  pub place : ℕ
  pub receipt : ReceiptView
  pub there : receipt_at lists seat place ≡ Some receipt
  pub number : receipt.number ≡ n

-- the receipts with this number are as they should be: of this history, above those before them in
-- their list, and in one seat alone; and a Leave has one
pub record IsInOrder (h : List Event) (lists : List (List ReceiptView)) (n : ℕ) : Type 0 where
  pub stands : (seat place : ℕ) (r : ReceiptView) → receipt_at lists seat place ≡ Some r
      → r.number ≡ n → Stands h r
  pub above : (seat earlier place : ℕ) (q r : ReceiptView) → earlier < place
      → receipt_at lists seat earlier ≡ Some q
      → receipt_at lists seat place ≡ Some r → r.number ≡ n → q.number < n
  pub once : (seat other place there : ℕ) (r q : ReceiptView) → receipt_at lists seat place ≡ Some r
      → receipt_at lists other there ≡ Some q → r.number ≡ n → q.number ≡ n → seat ≡ other
  pub receipted : (w : ℕ) → slice_get h n ≡ Some (Leave w) → IsReceipted lists n

-- a receipt with this number is astray: it isn't of this history, or stands after one that isn't
-- lower, or another seat has one too
pub data IsAstray (h : List Event) (lists : List (List ReceiptView)) (n : ℕ) : Type 0 where
  Foreign : (seat place : ℕ) (r : ReceiptView) → receipt_at lists seat place ≡ Some r → r.number ≡ n
      → (Stands h r → ⊥) → IsAstray h lists n
  Late : (seat earlier place : ℕ) (q r : ReceiptView) → earlier < place
      → receipt_at lists seat earlier ≡ Some q
      → receipt_at lists seat place ≡ Some r → r.number ≡ n → n ≤ q.number → IsAstray h lists n
  Twice : (seat other place there : ℕ) (r q : ReceiptView) → seat ≢ other
      → receipt_at lists seat place ≡ Some r
      → receipt_at lists other there ≡ Some q → r.number ≡ n → q.number ≡ n → IsAstray h lists n

-- a number is lost: a receipt with it is astray, or it is a Leave's of which no seat has the
-- receipt
pub data IsLost (h : List Event) (lists : List (List ReceiptView)) (n : ℕ) : Type 0 where
  Astray : IsAstray h lists n → IsLost h lists n
  Missing : (w : ℕ) → slice_get h n ≡ Some (Leave w) → (IsReceipted lists n → ⊥) → IsLost h lists n

-- the number, if there is one, is the lowest that is lost
abbrev pub IsLowest : List Event → List (List ReceiptView) → Option ℕ → Type 0
IsLowest h lists None = (n : ℕ) → IsInOrder h lists n
IsLowest h lists (Some m) = IsLost h lists m × ((n : ℕ) → n < m → IsInOrder h lists n)
