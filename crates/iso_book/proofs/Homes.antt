-- On the way up from a node: what the classes around it take for READ_WRITE is lent to a tray.
use Rattle.std.proofs.Common.{◌≡◌, ℕ, ◌<◌, Option, Some, None, Bool, true, false, ◌||◌, ◌&&◌, not, length, refl, ap, sym, ◌∙◌, subst, arith}
use Rattle.std.specs.Prelude.{unwrap_or}
use Rattle.iso_book.proofs.Frames.{parent-is}
use Rattle.iso_book.specs.Books.{BookView}
use Rattle.iso_book.specs.Turns.{GoesOnWith, IsRefusedBy, MayEnterWith, handed, has_around, holds_writers}
use Rattle.iso_isolation.specs.Refusals as Why
use Rattle.iso_locks.specs.Owners.{CanHold}
use Rattle.iso_locks.specs.Trays.{TrayView, is_lent}
use Rattle.iso_plan.proofs.PathLemmas.{path-root, path-step}
use Rattle.iso_plan.specs.Locks.{takes_write}
use Rattle.iso_plan.specs.Paths.{IsTree, parent, parent_of, path}
use Rattle.iso_plan.specs.RowView.{tree_of}

-- what is still to be tested decides
pub record IsOnWay (t : TrayView) (node at : ℕ) : Type 0 where
  pub within : at < length t.plan.rows
  pub rest : holds_writers t (path (tree_of t.plan) at) ≡ holds_writers t (path (tree_of t.plan) (parent (tree_of t.plan) node))

module _ (t : TrayView) (tree : IsTree (tree_of t.plan)) (node : ℕ) where
  above : (n m : ℕ) → 0 < n → n < length t.plan.rows → m ≡ unwrap_or (parent_of (tree_of t.plan) n) 0 → (m ≡ parent (tree_of t.plan) n) × (m < length t.plan.rows)
  above n m pos h e =
      let same = parent-is (tree_of t.plan) n m pos e in
      let less = tree.below n pos in
      (same, omega (arith, same, less, h))

  pub begins : (m : ℕ) → 0 < node → node < length t.plan.rows → m ≡ unwrap_or (parent_of (tree_of t.plan) node) 0 → IsOnWay t node m
  begins m pos h e = let a = above node m pos h e in record { within = a.1; rest = ap (λ (j : ℕ). holds_writers t (path (tree_of t.plan) j)) a.0 }

  here : (at : ℕ) → 0 < at → holds_writers t (path (tree_of t.plan) at) ≡
      ((not (takes_write (tree_of t.plan) at) || is_lent t.lent at) && holds_writers t (path (tree_of t.plan) (parent (tree_of t.plan) at)))
  here at pos = ap (holds_writers t) (path-step (tree_of t.plan) tree.below at pos)

  passed : (a b c : Bool) → (a && not b) ≡ false → ((not a || b) && c) ≡ c
  passed true true c e = refl
  passed true false c e = absurd cc
  passed false b c e = refl

  failed : (a b c : Bool) → (a && not b) ≡ true → ((not a || b) && c) ≡ false
  failed true true c e = absurd cc
  failed true false c e = refl
  failed false b c e = absurd cc

  pub goes-up : (at m : ℕ) → IsOnWay t node at → 0 < at → (takes_write (tree_of t.plan) at && not (is_lent t.lent at)) ≡ false → m ≡ unwrap_or (parent_of (tree_of t.plan) at) 0 → IsOnWay t node m
  goes-up at m way pos pass e =
      let a = above at m pos way.within e in
      record {
        within = a.1;
        rest =
            ap (λ (j : ℕ). holds_writers t (path (tree_of t.plan) j)) a.0
            ∙ sym (here at pos ∙ passed (takes_write (tree_of t.plan) at) (is_lent t.lent at) (holds_writers t (path (tree_of t.plan) (parent (tree_of t.plan) at))) pass)
            ∙ way.rest;
      }

  -- a class whose keys aren't there decides
  pub stops : (at : ℕ) → IsOnWay t node at → 0 < at → (takes_write (tree_of t.plan) at && not (is_lent t.lent at)) ≡ true
      → holds_writers t (path (tree_of t.plan) (parent (tree_of t.plan) node)) ≡ false
  stops at way pos fail =
      sym way.rest ∙ here at pos ∙ failed (takes_write (tree_of t.plan) at) (is_lent t.lent at) (holds_writers t (path (tree_of t.plan) (parent (tree_of t.plan) at))) fail

  -- at the root there is nothing left
  pub ends : (at : ℕ) → IsOnWay t node at → at ≡ 0 → holds_writers t (path (tree_of t.plan) (parent (tree_of t.plan) node)) ≡ true
  ends at way e = sym way.rest ∙ ap (λ (j : ℕ). holds_writers t (path (tree_of t.plan) j)) e ∙ ap (holds_writers t) (path-root (tree_of t.plan))

-- what a refusal, and what none, comes to
pub refused-by : (o : Option Why.Refused) (asked : Type 0) (kind : Why.Refused) → Some kind ≡ o → IsRefusedBy o asked kind
refused-by (Some k) asked kind e = cc
refused-by None asked kind e = absurd cc

pub stranger-by : (o : Option Why.Refused) (asked : Type 0) → None ≡ o → (asked → ⊥) → IsRefusedBy o asked Why.Stranger
stranger-by (Some k) asked e un = absurd cc
stranger-by None asked e un = (refl, un)

both : (a b : Bool) → (a && b) ≡ true → (a ≡ true) × (b ≡ true)
both true b e = (refl, e)
both false b e = absurd cc

both-so : (a b : Bool) → a ≡ true → b ≡ true → (a && b) ≡ true
both-so true b e f = f
both-so false b e f = absurd cc

unflat-by : (a : Bool) → not a ≡ true → a ≡ false
unflat-by true e = absurd cc
unflat-by false e = refl

pub unflat : (t : TrayView) (n : ℕ) → has_around t n ≡ true → t.flat ≡ false
unflat t n e = unflat-by t.flat (both (not t.flat) (holds_writers t (path (tree_of t.plan) (parent (tree_of t.plan) n))) e).0

-- what an Enter and a Shut ask of a tray of the book's plan and starting values
module _ (b : BookView) (n : ℕ) (t : TrayView) (plan : t.plan ≡ b.plan) (world : t.world ≡ b.world) where
  pub may-enter-with : ((has_around t n ≡ true) × CanHold n t) → MayEnterWith b n t
  may-enter-with a = record { own = record { plan = plan; world = world; around = a.0 }; holds = a.1 }

  pub entered-with : MayEnterWith b n t → (has_around t n ≡ true) × CanHold n t
  entered-with m = (m.own.around, m.holds)

  pub may-go-on-with : (has_around t n && is_lent t.lent n) ≡ true → GoesOnWith b n t
  may-go-on-with e =
      let a = both (has_around t n) (is_lent t.lent n) e in
      record { own = record { plan = plan; world = world; around = a.0 }; lent = a.1 }

  pub went-on-with : GoesOnWith b n t → (has_around t n && is_lent t.lent n) ≡ true
  went-on-with g = both-so (has_around t n) (is_lent t.lent n) g.own.around g.lent

  -- other frames don't matter to it
  pub still-enters : (class : ℕ) (u : TrayView) → u ≡ handed t class → MayEnterWith b n t → MayEnterWith b n u
  still-enters class u e m =
      subst (MayEnterWith b n) (sym e)
      (record { own = record { plan = plan; world = world; around = m.own.around }; holds = record { apart = m.holds.apart; beside = m.holds.beside } })
