-- What had to end before a body.
use Rattle.std.specs.Prelude.{ℕ, List, [], ◌∷◌, Option, Some, None, Bool, false, true, ◌&&◌, ◌||◌, ◌==◌, cond, nat_le, nat_lt, not, slice_index_or}
use Rattle.std.specs.Option.{option_map}
use Rattle.iso_critical.specs.Bodies.{Run}
use Rattle.iso_critical.specs.declared.body.Body.{Body}
use Rattle.iso_critical.specs.declared.needs.Needs.{Needs}
use Rattle.iso_plan.specs.Paths.{column, is_under, parent_of}
use Rattle.iso_plan.specs.Tree.{Row}
use Rattle.iso_times.specs.declared.times.BodyTime.{BodyTime}
use Rattle.iso_waits.specs.Waits.{earlier}
use Rattle.iso_waits.specs.declared.wait.NodeWait.{NodeWait}

-- of two waits the one that ended later, of those that ended together the second; where there is
-- one alone, this one
abbrev pub later : Option NodeWait → NodeWait → NodeWait
later None w = w
later (Some v) w = cond (nat_lt w.end v.end) v w

-- with a wait more, where it is node n's
abbrev pub noted : ℕ → Option NodeWait → NodeWait → Option NodeWait
noted n found w = cond (w.node == n) (Some (later found w)) found

-- of the waits of node n the one that ended last, where one was found before
abbrev pub last_wait : ℕ → Option NodeWait → List NodeWait → Option NodeWait
last_wait n found [] = found
last_wait n found (w ∷ ws) = last_wait n (noted n found w) ws

-- the node that a node waited for last: in its wait that ended last, the node of the last single
-- wait
abbrev pub last_holder : List NodeWait → ℕ → Option ℕ
last_holder waits n = option_map (λ (w : NodeWait). w.last) (last_wait n None waits)

-- the same of each of `nodes` nodes
abbrev pub last_holders : List NodeWait → (nodes : ℕ) → List (Option ℕ)
last_holders waits nodes = column (last_holder waits) nodes

-- whose bodies had to end before a body: the class of its node, the earlier sibling, and the node
-- that its node waited for last
abbrev pub needs : Run → Body → Needs
needs run b =
    record {
      body = b;
      class = parent_of run.tree b.node;
      earlier = earlier run.tree run.settings run.bodies b.node;
      holder = slice_index_or run.holders b.node None;
    }

-- whether a node is another, if there is one
abbrev pub is_node : Option ℕ → ℕ → Bool
is_node None n = false
is_node (Some m) n = m == n

-- a body had ended when another began, and before that one ended
abbrev pub ended_by : BodyTime → BodyTime → Bool
ended_by p b = nat_le p.end b.begin && nat_lt p.end b.end

-- it opens the class, or is a body of the sibling or of the node that was waited for
abbrev pub lets_in : Needs → Body → Bool
lets_in needs p = is_node needs.class p.node && not p.closes || is_node needs.earlier p.node
    || is_node needs.holder p.node

-- it is a body of the class that closes, or of a descendant of it; or else it had to end before the
-- node was entered
abbrev pub is_needed : List Row → Needs → Body → Bool
is_needed tree needs p =
    cond needs.body.closes (is_under tree needs.body.node p.node) (lets_in needs p)

-- Whether a body had to end before another: it did, and is on its worker, or had to end before the
-- class closed or the node was entered.
abbrev pub had_to_end : List Row → Needs → Body → Bool
had_to_end tree needs p =
    ended_by p.time needs.body.time
    && (p.time.worker == needs.body.time.worker || is_needed tree needs p)

-- the same, of the last body of a run before its end
abbrev pub comes_before : List Row → Option Needs → Body → Bool
comes_before tree None p = true
comes_before tree (Some needs) p = had_to_end tree needs p
