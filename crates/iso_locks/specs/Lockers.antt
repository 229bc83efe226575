-- The locking nodes of the nodes that are lent, as contracts see them.
use Rattle.std.specs.Prelude.{◌≡◌, ◌≤◌, ◌+◌, ◌-◌, ◌++◌, ◌&&◌, ◌==◌, ℕ, List, length, replicate, Bool, is_some, not, slice_index_or, slice_set, refl}
use Rattle.std.specs.Coded.{Coded, code_by, coded×, coded_list, coded_ℕ}
use Rattle.iso_plan.specs.Conflicts.{lowest_in_the_way}
use Rattle.iso_plan.specs.HeldNodes.{HeldView, is_held}
use Rattle.iso_plan.specs.Planned.{Planned}
use Rattle.iso_plan.specs.RowView.{tree_of}
use Rattle.iso_plan.specs.contracts.plan.Plan as plan

-- the plan, and of each node by its number how many lent nodes it is the locking node of
pub record LockersView : Type 0 where
  pub plan : Planned
  pub under : List ℕ

abbrev pub lockers_code : Coded LockersView
lockers_code =
    code_by (Planned × List ℕ) (coded× plan.the_row.coded (coded_list coded_ℕ))
    (λ v. (v.plan, v.under)) (λ p. record { plan = p.0; under = p.1 })
    (λ _. refl)

-- how many lent nodes a node is the locking node of
abbrev pub under_it : List ℕ → ℕ → ℕ
under_it under a = slice_index_or under a 0

-- whether it is the locking node of any
abbrev pub has_under : List ℕ → ℕ → Bool
has_under under a = not (under_it under a == 0)

-- whether a node is the locking node of no lent node, and conflicts with one that is
abbrev pub is_kept_out : LockersView → ℕ → Bool
is_kept_out v a =
    not (has_under v.under a) && is_some (lowest_in_the_way (tree_of v.plan) (has_under v.under) a)

-- no node of a plan is lent
abbrev pub no_lockers : Planned → LockersView
no_lockers plan = record { plan = plan; under = replicate (length plan.rows) 0 }

-- a node is the locking node of one lent node more
abbrev pub one_more : ℕ → LockersView → LockersView
one_more a v = record v { under = slice_set v.under a (under_it v.under a + 1) }

-- of one less
abbrev pub one_less : ℕ → LockersView → LockersView
one_less a v = record v { under = slice_set v.under a (under_it v.under a - 1) }

-- the held nodes are those that are the locking node of any
pub record KeepsLockers (nodes : HeldView) (under : List ℕ) : Type 0 where
  pub each : length nodes.held ≡ length nodes.plan.rows
  pub table : length under ≡ length nodes.plan.rows
  pub held : (a : ℕ) → is_held nodes.held a ≡ has_under under a

-- counts that are written down, and zeros behind them
abbrev pub with_zeros : List ℕ → ℕ → List ℕ
with_zeros written all = written ++ replicate (all - length written) 0

-- no more counts are written down than there are, for which there is room
pub record HasRoom (written : List ℕ) (all room : ℕ) : Type 0 where
  pub within : length written ≤ all
  pub fits : all ≤ room
