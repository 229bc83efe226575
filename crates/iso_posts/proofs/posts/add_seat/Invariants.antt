use Rattle.std.proofs.Common.{◌≡◌, map, take}
use Rattle.iso_posts.specs.Accounts.{new_owner, new_thief}
use Rattle.iso_posts.proofs.Seating.{AreMet, deque_of, seen}
use Rattle.iso_posts.proofs.posts.add_seat.Given as goal

abbrev pub invariant-loop-at : goal.invariant-loop-at
invariant-loop-at l =
    AreMet l.initial.owner.deque l.at l.initial.seats.items l.seats.items
    × (l.owner ≡ new_owner l.initial.owner.deque l.at)
    × (l.thieves.items ≡ map new_thief (map deque_of (take l.at (map seen l.initial.seats.items))))
