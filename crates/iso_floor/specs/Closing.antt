-- What closing a floor answers.
use Rattle.std.specs.Prelude.{◌≡◌, ◌<◌, ◌≤◌, ℕ, List, Option, Some, None, true, false, is_some}
use Rattle.iso_book.specs.Books.{BookView, is_complete}
use Rattle.iso_book.specs.Leaves.{ReceiptView}
use Rattle.iso_floor.specs.Audits.{IsInOrder, IsLowest}
use Rattle.iso_floor.specs.declared.fault.CloseFault.{CloseFault}
use Rattle.iso_floor.specs.declared.fault.CloseFault.TheVariants.{Lost, Unfinished}
use Rattle.iso_floor.specs.declared.fault.SeatFault.{SeatFault}
use Rattle.iso_floor.specs.declared.fault.SeatFault.TheVariants.{NoWorker, Taken, OutOfMemory}
use Rattle.iso_posts.specs.declared.posts.PostSeat.{PostSeat}

-- a book is whole: every node but the root is finished, each receipt stands once in its history,
-- those of a seat in their order, and no Leave is without one
pub record IsWhole (b : BookView) (lists : List (List ReceiptView)) : Type 0 where
  pub complete : is_complete b ≡ true
  pub receipts : (n : ℕ) → IsInOrder b.history lists n

-- why a book isn't handed out: the lowest number that is lost, or, where none is, that a node isn't
-- finished
abbrev pub IsCloseFault : BookView → List (List ReceiptView) → CloseFault → Type 0
IsCloseFault b lists (Lost n) = IsLowest b.history lists (Some n)
IsCloseFault b lists Unfinished = IsLowest b.history lists None × (is_complete b ≡ false)

-- why a worker gets no seat: there is no such worker, or there is
abbrev pub IsSeatFault : (workers worker : ℕ) → SeatFault → Type 0
IsSeatFault workers worker NoWorker = workers ≤ worker
IsSeatFault workers worker Taken = worker < workers
IsSeatFault workers worker OutOfMemory = worker < workers

-- the same of a worker that there is, by what its place has of the deques: nothing, since it has a
-- seat; or memory ran out
abbrev pub IsPlaceFault : Option PostSeat → SeatFault → Type 0
IsPlaceFault place NoWorker = ⊥
IsPlaceFault place Taken = is_some place ≡ false
IsPlaceFault place OutOfMemory = is_some place ≡ true
