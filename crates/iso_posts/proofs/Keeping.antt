-- Each step of an owner and of a thief keeps the rule of their deque.
use Rattle.std.proofs.Common.{◌-◌, ◌≤◌, ◌≡◌, ◌≢◌, ℕ, zero, suc, ◌+◌, List, [], ◌∷◌, ◌++◌, length, set, sym, refl, ap, ◌∙◌, subst, arith}
use mathlib.Core.Option.{some, some-ne-none}
use lib.ListN.{get_elem?}
use Rattle.crossbeam_deque.specs.Tasks.{Pushes, Takes, Forks, Merges, Learns, Finds}
use Rattle.iso_posts.specs.declared.rule.Hand.{Hand}
use Rattle.iso_posts.specs.declared.rule.Role.{Role}
use Rattle.iso_posts.specs.declared.rule.Role.TheVariants.{Owner, Thief, Spent}
use Rattle.iso_posts.specs.Accounts.{IsAccount, times, times_in}
use Rattle.iso_posts.specs.Rules.{IsFair, Knows, Learned, owner_hand, thief_hand, of_owner, of_thief, spent_hand, times_gone, times_posted, total, with_posted, with_returned, with_taken, with_thief}

times_append : (node : ℕ) (xs ys : List ℕ) → times node (xs ++ ys) ≡ times node xs + times node ys
times_append node [] ys = omega arith
times_append node (z ∷ xs) ys = omega (arith, times_append node xs ys)

-- totals: after a change of one pass, with one pass more, of a sum, and that no pass has more than all
total_set : (f : Hand → ℕ) (views : List Hand) (port : ℕ) (v w : Hand) → get_elem? views port ≡ some v → total f (set views port w) + f v ≡ total f views + f w
total_set f [] port v w at = absurd (some-ne-none v (sym at))
total_set f (u ∷ us) zero v w at = let same : u ≡ v = cc in let g = ap f same in omega arith
total_set f (u ∷ us) (suc port) v w at = omega (arith, total_set f us port v w at)

total_snoc : (f : Hand → ℕ) (views : List Hand) (w : Hand) → total f (views ++ w ∷ []) ≡ total f views + f w
total_snoc f [] w = omega arith
total_snoc f (u ∷ us) w = omega (arith, total_snoc f us w)

total_sum : (f g : Hand → ℕ) (views : List Hand) → total (λ v. f v + g v) views ≡ total f views + total g views
total_sum f g [] = omega arith
total_sum f g (u ∷ us) = omega (arith, total_sum f g us)

total_most : (f : Hand → ℕ) (views : List Hand) (port : ℕ) (v : Hand) → get_elem? views port ≡ some v → f v ≤ total f views
total_most f [] port v at = absurd (some-ne-none v (sym at))
total_most f (u ∷ us) zero v at = let same : u ≡ v = cc in let g = ap f same in omega arith
total_most f (u ∷ us) (suc port) v at = omega (arith, total_most f us port v at)

-- what counts for a role
owns : (role : Role) (n : ℕ) → role ≡ Owner → of_owner role n ≡ n
owns role n is = ap (λ r. of_owner r n) is

owns_no_theft : (role : Role) (n : ℕ) → role ≡ Owner → of_thief role n ≡ 0
owns_no_theft role n is = ap (λ r. of_thief r n) is

steals : (role : Role) (n : ℕ) → role ≡ Thief → of_thief role n ≡ n
steals role n is = ap (λ r. of_thief r n) is

steals_unowned : (role : Role) (n : ℕ) → role ≡ Thief → of_owner role n ≡ 0
steals_unowned role n is = ap (λ r. of_owner r n) is

owns_nothing : (role : Role) (n : ℕ) → of_owner role 1 ≡ 0 → of_owner role n ≡ 0
owns_nothing Owner n none = absurd (omega arith)
owns_nothing Thief n none = refl
owns_nothing Spent n none = refl

-- what only owners have is nothing where none is an owner's, and the owner's where one is
unowned : (g : Hand → ℕ) (views : List Hand) → total (λ v. of_owner v.role 1) views ≡ 0 → total (λ v. of_owner v.role (g v)) views ≡ 0
unowned g [] none = refl
unowned g (u ∷ us) none =
    let first : of_owner u.role 1 ≡ 0 = omega arith in
    let others : total (λ v. of_owner v.role 1) us ≡ 0 = omega arith in
    omega (arith, owns_nothing u.role (g u) first, unowned g us others)

owned : (g : Hand → ℕ) (views : List Hand) (port : ℕ) (v : Hand) → total (λ u. of_owner u.role 1) views ≡ 1 → get_elem? views port ≡ some v → v.role ≡ Owner
    → total (λ u. of_owner u.role (g u)) views ≡ g v
owned g [] port v one at is = absurd (some-ne-none v (sym at))
owned g (u ∷ us) zero v one at is =
    let same : u ≡ v = cc in
    let role : u.role ≡ Owner = ap (λ (w : Hand). w.role) same ∙ is in
    let first = owns u.role 1 role in
    let others : total (λ w. of_owner w.role 1) us ≡ 0 = omega arith in
    let mine = owns u.role (g u) role in
    let value : g u ≡ g v = ap g same in
    omega (arith, unowned g us others)
owned g (u ∷ us) (suc port) v one at is =
    let mine = owns v.role 1 is in
    let most = total_most (λ w. of_owner w.role 1) us port v at in
    let first : of_owner u.role 1 ≡ 0 = omega arith in
    let others : total (λ w. of_owner w.role 1) us ≡ 1 = omega arith in
    omega (arith, owns_nothing u.role (g u) first, owned g us port v others at is)

-- a change of one pass, which keeps its role and the number of its thieves, and moves each node from one place to another
moves : (items left : List ℕ) (views : List Hand) (port : ℕ) (v w : Hand) → get_elem? views port ≡ some v → w.role ≡ v.role → w.thieves ≡ v.thieves
    → ((node : ℕ) → times_posted node w + times_gone node v + times node items ≡ times_posted node v + times_gone node w + times node left)
    → IsFair items views → IsFair left (set views port w)
moves items left views port v w at role thieves balanced fair = record {
  owner = (let one = ap (λ r. of_owner r 1) role in omega (arith, fair.owner, total_set (λ u. of_owner u.role 1) views port v w at));
  thieves = (
      let own = ap (λ (x : Role × ℕ). of_owner x.0 x.1) (λ i. (role i, thieves i)) in
      let stolen = ap (λ r. of_thief r 1) role in
      omega (arith, fair.thieves, total_set (λ u. of_thief u.role 1) views port v w at, total_set (λ u. of_owner u.role u.thieves) views port v w at));
  account = (λ node.
      omega (arith, balanced node, fair.account node, total_set (times_posted node) views port v w at, total_set (times_gone node) views port v w at));
}

pub begins : IsFair [] (owner_hand ∷ [])
begins = record { owner = refl; thieves = refl; account = (λ node. refl) }

pub posts : (port : ℕ) (v : Hand) (xs : List ℕ) → v.role ≡ Owner → Pushes IsFair port v xs (λ w. w ≡ with_posted v xs)
posts port v xs is items views fair at = (
  with_posted v xs,
  moves items (items ++ xs) views port v (with_posted v xs) at refl refl
      (λ node.
      let before = owns v.role (times node v.posted) is in
      let after = owns v.role (times node (v.posted ++ xs)) is in
      omega (arith, times_append node v.posted xs, times_append node items xs))
      fair,
  refl,
)

gone : (role : Role) (node : ℕ) (taken returned xs : List ℕ) → role ≢ Spent
    → of_owner role (times node (taken ++ xs) + times node returned) + of_thief role (times node (taken ++ xs))
    ≡ of_owner role (times node taken + times node returned) + of_thief role (times node taken) + times node xs
gone Owner node taken returned xs some_role = omega (arith, times_append node taken xs)
gone Thief node taken returned xs some_role = omega (arith, times_append node taken xs)
gone Spent node taken returned xs some_role = absurd (some_role refl)

pub takes : (port : ℕ) (v : Hand) → v.role ≢ Spent → Takes IsFair port v 1 (λ xs w. w ≡ with_taken v xs)
takes port v some_role xs items views _ _ fair at = (
  with_taken v xs,
  moves (xs ++ items) items views port v (with_taken v xs) at refl refl
      (λ node. omega (arith, gone v.role node v.taken v.returned xs some_role, times_append node xs items)) fair,
  refl,
)

pub forks : (port : ℕ) (v : Hand) → v.role ≡ Owner → Forks IsFair port v (with_thief v) thief_hand
forks port v is items views fair at =
    let w : Hand = with_thief v in
    let vs : List Hand = set views port w in
    record {
      owner = omega (arith, fair.owner, total_snoc (λ u. of_owner u.role 1) vs thief_hand, total_set (λ u. of_owner u.role 1) views port v w at);
      thieves = (
          let before = owns v.role v.thieves is in
          let after = owns v.role (v.thieves + 1) is in
          omega (
            arith,
            fair.thieves,
            total_snoc (λ u. of_thief u.role 1) vs thief_hand,
            total_set (λ u. of_thief u.role 1) views port v w at,
            total_snoc (λ u. of_owner u.role u.thieves) vs thief_hand,
            total_set (λ u. of_owner u.role u.thieves) views port v w at,
          ));
      account = (λ node.
          omega (
            arith,
            fair.account node,
            total_snoc (times_posted node) vs thief_hand,
            total_set (times_posted node) views port v w at,
            total_snoc (times_gone node) vs thief_hand,
            total_set (times_gone node) views port v w at,
          ));
    }

pub merges : (port : ℕ) (v : Hand) (other : ℕ) (u : Hand) → v.role ≡ Owner → u.role ≡ Thief → Merges IsFair port v other u (with_returned v u) spent_hand
merges port v other u own thief items views fair at apart there =
    let w : Hand = with_returned v u in
    let vs : List Hand = set views port w in
    let first = total_set (λ x. of_thief x.role 1) views port v w at in
    let out : 1 ≤ v.thieves =
    let known = owned (λ x. x.thieves) views port v fair.owner at own in
    let one = steals u.role 1 thief in
    omega (arith, fair.thieves, total_most (λ x. of_thief x.role 1) vs other u there) in
    record {
      owner = (let none = steals_unowned u.role 1 thief in
          omega (arith, fair.owner, total_set (λ x. of_owner x.role 1) views port v w at, total_set (λ x. of_owner x.role 1) vs other u spent_hand there));
      thieves = (
          let before = owns v.role v.thieves own in
          let after = owns v.role (v.thieves - 1) own in
          let none = steals_unowned u.role u.thieves thief in
          let one = steals u.role 1 thief in
          omega (
            arith,
            fair.thieves,
            total_set (λ x. of_thief x.role 1) vs other u spent_hand there,
            total_set (λ x. of_owner x.role x.thieves) views port v w at,
            total_set (λ x. of_owner x.role x.thieves) vs other u spent_hand there,
          ));
      account = (λ node.
          let none = steals_unowned u.role (times node u.posted) thief in
          let stolen = steals u.role (times node u.taken) thief in
          let unowned_too = steals_unowned u.role (times node u.taken + times node u.returned) thief in
          let before = owns v.role (times node v.taken + times node v.returned) own in
          let after = owns v.role (times node v.taken + times node (v.returned ++ u.taken)) own in
          omega (
            arith,
            fair.account node,
            times_append node v.returned u.taken,
            total_set (times_posted node) views port v w at,
            total_set (times_posted node) vs other u spent_hand there,
            total_set (times_gone node) views port v w at,
            total_set (times_gone node) vs other u spent_hand there,
          ));
    }

-- the lists of the thieves that are out
with_list : Role → List ℕ → List (List ℕ) → List (List ℕ)
with_list Owner taken lists = lists
with_list Thief taken lists = taken ∷ lists
with_list Spent taken lists = lists

stolen_lists : List Hand → List (List ℕ)
stolen_lists [] = []
stolen_lists (v ∷ vs) = with_list v.role v.taken (stolen_lists vs)

list_counts : (role : Role) (taken : List ℕ) (lists : List (List ℕ)) → length (with_list role taken lists) ≡ of_thief role 1 + length lists
unfolding with_list
list_counts Owner taken lists = omega arith
list_counts Thief taken lists = omega arith
list_counts Spent taken lists = omega arith

list_has : (node : ℕ) (role : Role) (taken : List ℕ) (lists : List (List ℕ)) → times_in node (with_list role taken lists) ≡ of_thief role (times node taken) + times_in node lists
unfolding with_list
list_has node Owner taken lists = omega arith
list_has node Thief taken lists = omega arith
list_has node Spent taken lists = omega arith

lists_count : (views : List Hand) → length (stolen_lists views) ≡ total (λ v. of_thief v.role 1) views
unfolding stolen_lists
lists_count [] = refl
lists_count (v ∷ vs) = omega (arith, list_counts v.role v.taken (stolen_lists vs), lists_count vs)

lists_have : (node : ℕ) (views : List Hand) → times_in node (stolen_lists views) ≡ total (λ v. of_thief v.role (times node v.taken)) views
unfolding stolen_lists
lists_have node [] = refl
lists_have node (v ∷ vs) = omega (arith, list_has node v.role v.taken (stolen_lists vs), lists_have node vs)

pub knows : (port : ℕ) (v : Hand) → v.role ≡ Owner → Learns IsFair port v (Knows v)
knows port v is items views fair at =
    let count : length (stolen_lists views) ≡ v.thieves =
    omega (arith, lists_count views, fair.thieves, owned (λ u. u.thieves) views port v fair.owner at is) in
    let account : IsAccount v.posted v.taken (v.returned ∷ stolen_lists views) items =
    λ node.
    omega (
      arith,
      fair.account node,
      lists_have node views,
      owned (λ u. times node u.posted) views port v fair.owner at is,
      owned (λ u. times node u.taken + times node u.returned) views port v fair.owner at is,
      total_sum (λ u. of_owner u.role (times node u.taken + times node u.returned)) (λ u. of_thief u.role (times node u.taken)) views,
    ) in
    subst (λ role. Learned role v items) (sym is) (stolen_lists views, count, account)

pub finds : (port : ℕ) (v : Hand) → v.role ≡ Owner → Finds IsFair port v (Knows v [])
finds port v is views fair at = knows port v is [] views fair at

-- neither an owner's pass nor a thief's is spent
owner_or : Role → Type 0
owner_or Owner = Unit {0}
owner_or Thief = Unit {0}
owner_or Spent = ⊥

pub owner_moves : (role : Role) → role ≡ Owner → role ≢ Spent
unfolding owner_or
owner_moves role is not = subst owner_or (sym is ∙ not) tt

pub thief_moves : (role : Role) → role ≡ Thief → role ≢ Spent
unfolding owner_or
thief_moves role is not = subst owner_or (sym is ∙ not) tt
