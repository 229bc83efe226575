-- The rule of a deque: over what lies in it and what all passes know.
--
-- rule of a deque: One pass is its owner's and knows how many are thieves'; the account holds over
-- all passes, and one that was joined counts for nothing (`IsFair`); what a pass does to what it
-- knows, and what every owner's end is (`IsOwnersEnd`). No public clause cites it.
use Rattle.std.specs.Prelude.{◌≡◌, ◌≤◌, ℕ, ◌+◌, ◌-◌, List, [], ◌∷◌, ◌++◌, length}
use Rattle.iso_posts.specs.Accounts.{DequeId, IsAccount, OwnerView, ThiefView, times}
use Rattle.iso_posts.specs.declared.rule.Hand.{Hand}
use Rattle.iso_posts.specs.declared.rule.Role.{Role}
use Rattle.iso_posts.specs.declared.rule.Role.TheVariants.{Owner, Thief, Spent}

-- what contracts see of a deque's pass that is its owner's, and of one that is a thief's
abbrev pub owner_view : DequeId → Hand → OwnerView
owner_view deque v = record {
  deque = deque;
  posted = v.posted;
  taken = v.taken;
  returned = v.returned;
  thieves = v.thieves;
}

abbrev pub thief_view : DequeId → Hand → ThiefView
thief_view deque v = record { deque = deque; stolen = v.taken }

-- whose a pass is
abbrev pub IsOfOwner : Hand → Type 0
IsOfOwner v = v.role ≡ Owner

abbrev pub IsOfThief : Hand → Type 0
IsOfThief v = v.role ≡ Thief

-- an owner's end: of a deque that is first in, first out, with `slots` slots, to which no more
-- nodes were pushed than its pass has posted
pub record IsOwnersEnd (flavor slots pushed : ℕ) (v : Hand) : Type 0 where
  pub first_out : flavor ≡ 0
  pub owned : IsOfOwner v
  pub room : 64 ≤ slots
  pub counted : pushed ≤ length v.posted

-- a pass that knows of nothing that was done: the owner's at first, a thief's at first, and one
-- that was joined
abbrev pub new_hand : Role → Hand
new_hand role = record { role = role; posted = []; taken = []; returned = []; thieves = 0 }

abbrev pub owner_hand : Hand
owner_hand = new_hand Owner

abbrev pub thief_hand : Hand
thief_hand = new_hand Thief

abbrev pub spent_hand : Hand
spent_hand = new_hand Spent

-- a pass after nodes were posted by it, after nodes were taken or stolen by it, after a thief's was
-- split off it and joined to it
abbrev pub with_posted : Hand → List ℕ → Hand
with_posted v nodes = record v { posted = v.posted ++ nodes }

abbrev pub with_taken : Hand → List ℕ → Hand
with_taken v nodes = record v { taken = v.taken ++ nodes }

abbrev pub with_thief : Hand → Hand
with_thief v = record v { thieves = v.thieves + 1 }

abbrev pub with_returned : Hand → Hand → Hand
with_returned v thief = record v { returned = v.returned ++ thief.taken; thieves = v.thieves - 1 }

-- a number that counts for an owner's pass alone, or for a thief's alone
abbrev pub of_owner : Role → ℕ → ℕ
of_owner Owner n = n
of_owner Thief n = 0
of_owner Spent n = 0

abbrev pub of_thief : Role → ℕ → ℕ
of_thief Owner n = 0
of_thief Thief n = n
of_thief Spent n = 0

-- numbers of all passes, added up
abbrev pub total : (Hand → ℕ) → List Hand → ℕ
total f [] = 0
total f (v ∷ vs) = f v + total f vs

-- how often a pass has posted a node, and how often it knows that a node was taken or stolen; one
-- that was joined counts for nothing
abbrev pub times_posted : ℕ → Hand → ℕ
times_posted node v = of_owner v.role (times node v.posted)

abbrev pub times_gone : ℕ → Hand → ℕ
times_gone node v = of_owner v.role (times node v.taken + times node v.returned)
    + of_thief v.role (times node v.taken)

-- one pass is the owner's, and knows how many are thieves'; each node was posted as often as it was
-- taken or stolen and lies in the deque
pub record IsFair (items : List ℕ) (views : List Hand) : Type 0 where
  pub owner : total (λ v. of_owner v.role 1) views ≡ 1
  pub thieves : total (λ v. of_thief v.role 1) views ≡ total (λ v. of_owner v.role v.thieves) views
  pub account : (node : ℕ) → total (times_posted node) views
      ≡ total (times_gone node) views + times node items

-- what a pass learns of the nodes that lie in the deque: of an owner's the account, with a list for
-- each thief that is out
abbrev pub Learned : Role → Hand → List ℕ → Type 0
Learned Owner v items = (stolen : List (List ℕ)) × (length stolen ≡ v.thieves)
    × IsAccount v.posted v.taken (v.returned ∷ stolen) items
Learned Thief v items = Unit {0}
Learned Spent v items = Unit {0}

abbrev pub Knows : Hand → List ℕ → Type 0
Knows v items = Learned v.role v items
