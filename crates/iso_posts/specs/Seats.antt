-- The seats of a pool.
--
-- seats of a pool: A seat for each worker, none of whom did anything, with a thief of every other
-- worker's deque in the order of the workers (`ArePosts`).
use Rattle.std.specs.Prelude.{◌≡◌, ℕ, suc, ◌-◌, List, ◌++◌, length, map, take, drop, slice_get, Some}
use Rattle.iso_posts.specs.Accounts.{DequeId, new_owner, new_thief}
use Rattle.iso_posts.specs.declared.posts.PostSeat.{PostSeat}

-- a list but for what stands at a place
abbrev pub without : {A : Type 0} → ℕ → List A → List A
without at xs = take at xs ++ drop (suc at) xs

-- the deques of some seats' owners
abbrev pub deques : List PostSeat → List DequeId
deques seats = map (λ (seat : PostSeat). seat.owner.deque) seats

-- a seat for each worker: each owner did nothing but to send a thief to every other worker, and
-- each worker has a thief of every other deque, in their order, who did nothing
pub record ArePosts (workers : ℕ) (seats : List PostSeat) : Type 0 where
  pub number : length seats ≡ workers
  pub owners : (w : ℕ) (seat : PostSeat) → slice_get seats w ≡ Some seat
      → seat.owner ≡ new_owner seat.owner.deque (workers - 1)
  pub thieves : (w : ℕ) (seat : PostSeat) → slice_get seats w ≡ Some seat → seat.thieves.items
      ≡ map new_thief (without w (deques seats))
