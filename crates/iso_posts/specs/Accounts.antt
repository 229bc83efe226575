-- The account of a deque: what was posted was taken or stolen, or lies in it, each node as often.
--
-- account of a deque: Each node was posted as often as its owner took it, its thieves stole it, a
-- list for each, and it lies in the deque (`IsAccount`, `times`); of an owner, with some list for
-- each thief that is out, where `count` nodes lie there (`AddsUp`); what a steal adds to a thief's
-- list (`HasStolen`).
use Rattle.std.specs.Prelude.{◌≡◌, ℕ, ◌+◌, ◌==◌, List, [], ◌∷◌, ◌++◌, if◌then◌else◌, length}
use Rattle.iso_posts.specs.declared.thief.Stolen.{Stolen}
use Rattle.iso_posts.specs.declared.thief.Stolen.TheVariants.{Node, Empty, Again}

-- how often a node stands in a list
abbrev pub times : ℕ → List ℕ → ℕ
times node [] = 0
times node (x ∷ xs) = (if x == node then 1 else 0) + times node xs

-- how often a node stands in several lists
abbrev pub times_in : ℕ → List (List ℕ) → ℕ
times_in node [] = 0
times_in node (xs ∷ lists) = times node xs + times_in node lists

-- each node was posted as often as its owner took it, its thieves stole it, a list for each, and it
-- lies in the deque
abbrev pub IsAccount : List ℕ → List ℕ → List (List ℕ) → List ℕ → Type 0
IsAccount posted taken stolen lying =
    (node : ℕ) → times node posted ≡ times node taken + times_in node stolen + times node lying

-- which deque it is
abbrev pub DequeId : Type 0
DequeId = ℕ × ℕ

-- an owner's end: of which deque, what it posted and took, what the thieves had stolen who were
-- joined to it, and how many thieves are out
pub record OwnerView : Type 0 where
  pub deque : DequeId
  pub posted : List ℕ
  pub taken : List ℕ
  pub returned : List ℕ
  pub thieves : ℕ

-- a thief's end: of which deque, and what it stole
pub record ThiefView : Type 0 where
  pub deque : DequeId
  pub stolen : List ℕ

-- the end of an owner who did nothing but to send `thieves` thieves out
abbrev pub new_owner : DequeId → ℕ → OwnerView
new_owner deque thieves =
    record { deque = deque; posted = []; taken = []; returned = []; thieves = thieves }

-- the end of a thief who did nothing
abbrev pub new_thief : DequeId → ThiefView
new_thief deque = record { deque = deque; stolen = [] }

-- the account of an owner holds, with some list for each thief that is out, where `count` nodes lie
-- in the deque
abbrev pub AddsUp : OwnerView → ℕ → Type 0
AddsUp owner count =
    (stolen : List (List ℕ)) × (lying : List ℕ) × (length stolen ≡ owner.thieves)
    × (length lying ≡ count)
    × IsAccount owner.posted owner.taken (owner.returned ∷ stolen) lying

-- a node that was stolen joins the thief's list, and nothing else does
abbrev pub HasStolen : Stolen → ThiefView → ThiefView → Type 0
HasStolen (Node node) old new = new ≡ record old { stolen = old.stolen ++ node ∷ [] }
HasStolen Empty old new = new ≡ old
HasStolen Again old new = new ≡ old
