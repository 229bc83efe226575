-- Where there is no candidate, every event is refused.
use Rattle.std.proofs.Common.{◌≡◌, ℕ, Option, Some, None, is_some, is_none, Bool, true, false, cond, not, leb, ◌&&◌, ◌||◌, inl, inr, refl, sym, ap, ◌∙◌}
use Rattle.std.specs.Option.{option_or, option_map}
use Rattle.iso_isolation.specs.Languages.{Language}
use Rattle.iso_isolation.specs.Suites.{Suite}
use Rattle.iso_isolation.specs.States.{State, is_waiting, is_open, is_at_rest}
use Rattle.iso_isolation.specs.Events.{Event, Enter, Step, Leave, Shut}
use Rattle.iso_isolation.specs.Refusals as Why
use Rattle.iso_isolation.specs.Refusals.{is_root, lowest_below, body_of, has_unfinished_sibling, has_unfinished_child, lock_held}
use Rattle.iso_isolation.specs.Runs.{is_accepted}
use Rattle.iso_isolation.proofs.Accepted.{enter_passes, in_plan, leave_passes, not_refused, shut_passes, step_passes}
use Rattle.iso_isolation.proofs.Changes.{true_or_false, none_below}
use Rattle.iso_progress.specs.Candidates.{is_at_work, going_on, may_be_shut, may_be_entered, shut_by_owner, entered_by_owner, candidate}
use Rattle.iso_progress.specs.NeverStuck.{IsStuck}
use Rattle.iso_progress.proofs.Descent.{enter_test}

none_first : {A C : Type 0} (f : A → C) (o : Option A) (rest : Option C) → option_or (option_map f o) rest ≡ None → (o ≡ None) × (rest ≡ None)
none_first f None rest e = (refl, e)
none_first f (Some a) rest e = absurd cc

none_last : {A C : Type 0} (f : A → C) (o : Option A) → option_map f o ≡ None → o ≡ None
none_last f None e = refl
none_last f (Some a) e = absurd cc

neither : (a b : Bool) → (a || b) ≡ false → (a ≡ false) × (b ≡ false)
neither true b e = absurd cc
neither false b e = (refl, e)

is_true : (b : Bool) → not b ≡ false → b ≡ true
is_true true e = refl
is_true false e = absurd cc

shut_test : (a b c : Bool) → a ≡ false → b ≡ true → c ≡ false → (not a && b && not c) ≡ true
shut_test true b c e f g = absurd cc
shut_test false true true e f g = absurd cc
shut_test false true false e f g = refl
shut_test false false c e f g = absurd cc

open_by : (a b : Bool) → (not a && not b) ≡ false → a ≡ false → b ≡ true
open_by true b e f = absurd cc
open_by false true e f = refl
open_by false false e f = absurd cc

none_is : {A : Type 0} (o : Option A) → o ≡ None → is_none o ≡ true
none_is None e = refl
none_is (Some a) e = absurd cc

module _ {H K V B F R : Type 0} (l : Language H K V B F R) (x : Suite H K V) (workers : ℕ) (s : State K V B F R) (none : candidate l x workers s ≡ None) where
  abbrev at_work : ℕ → Bool
  at_work = is_at_work l x workers s

  record NothingFound : Type 0 where
    body : lowest_below workers at_work ≡ None
    shut : lowest_below x.nodes (may_be_shut l x workers s) ≡ None
    enter : lowest_below x.nodes (may_be_entered l x workers s) ≡ None

  -- after no stop
  nothing_found : s.stopped ≡ false → NothingFound
  nothing_found going =
      let rest = option_or (option_map (shut_by_owner l x workers s) (lowest_below x.nodes (may_be_shut l x workers s)))
      (option_map (entered_by_owner l x workers s) (lowest_below x.nodes (may_be_entered l x workers s)))
      in
      let found = option_or (option_map (going_on l x workers s) (lowest_below workers at_work)) rest in
      let e : found ≡ None = sym (ap (λ (b : Bool). cond b None found) going) ∙ none in
      let first = none_first (going_on l x workers s) (lowest_below workers at_work) rest e in
      let second = none_first (shut_by_owner l x workers s) (lowest_below x.nodes (may_be_shut l x workers s))
      (option_map (entered_by_owner l x workers s) (lowest_below x.nodes (may_be_entered l x workers s))) first.1
      in
      record { body = first.0; shut = second.0; enter = none_last (entered_by_owner l x workers s) (lowest_below x.nodes (may_be_entered l x workers s)) second.1 }

  no_body : s.stopped ≡ false → (w : ℕ) → leb workers w ≡ false → not (is_some (body_of l x workers s w)) ≡ false → ⊥
  no_body going w lt has =
      let idle = none_below workers at_work (nothing_found going).body w (in_plan workers w lt) in
      let busy : at_work w ≡ true = is_true (is_some (body_of l x workers s w)) has in
      cc

  unaccepted : (e : Event) → is_accepted l x workers s e ≡ true → ⊥
  unaccepted (Step w) ok =
      let t = step_passes l x workers s w ok in
      no_body (not_refused s.stopped Why.Stopped t.running) w (not_refused (leb workers w) Why.NoWorker t.worker)
      (not_refused (not (is_some (body_of l x workers s w))) Why.NoBody t.body)
  unaccepted (Leave w) ok =
      let t = leave_passes l x workers s w ok in
      no_body (not_refused s.stopped Why.Stopped t.running) w (not_refused (leb workers w) Why.NoWorker t.worker)
      (not_refused (not (is_some (body_of l x workers s w))) Why.NoBody t.body)
  unaccepted (Shut w n) ok =
      let t = shut_passes l x workers s w n ok in
      let going = not_refused s.stopped Why.Stopped t.running in
      let inside = in_plan x.nodes n (not_refused (leb x.nodes n) Why.NoNode t.node) in
      let status = s.nodes.status n in
      let class = neither (is_root n) (l.is_test (x.head n)) (not_refused (is_root n || l.is_test (x.head n)) Why.NotClass t.class) in
      let rests = is_true (is_at_rest status) (not_refused (not (is_at_rest status)) Why.NotOpen t.rests) in
      let left = is_open status && has_unfinished_child l x workers s n in
      let found = shut_test (is_root n) (is_at_rest status) left class.0 rests (not_refused left Why.ChildrenLeft t.children) in
      let no = none_below x.nodes (may_be_shut l x workers s) (nothing_found going).shut n inside in
      cc
  unaccepted (Enter w n) ok =
      let t = enter_passes l x workers s w n ok in
      let going = not_refused s.stopped Why.Stopped t.running in
      let inside = in_plan x.nodes n (not_refused (leb x.nodes n) Why.NoNode t.node) in
      let waits = is_waiting (s.nodes.status n) in
      let opened = is_open (s.nodes.status (x.parent n)) in
      let fresh = neither (is_root n) (not waits) (not_refused (is_root n || not waits) Why.AlreadyEntered t.fresh) in
      let parent = open_by (is_root n) opened (not_refused (not (is_root n) && not opened) Why.ParentClosed t.parent) fresh.0 in
      let earlier = x.is_same_thread n && has_unfinished_sibling l x workers s n in
      let found = enter_test (is_root n) waits opened earlier (is_none (lock_held l x workers s n)) fresh.0 (is_true waits fresh.1) parent
      (not_refused earlier Why.EarlierSibling t.earlier) (none_is (lock_held l x workers s n) t.unlocked)
      in
      let no = none_below x.nodes (may_be_entered l x workers s) (nothing_found going).enter n inside in
      cc

  pub stuck : IsStuck l x workers s
  stuck e = elim (true_or_false (is_accepted l x workers s e)) [
    | inl t ↦ absurd (unaccepted e t)
    | inr f ↦ f
  ]
