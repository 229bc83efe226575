-- What an accepted event tells: no kind of refusal applies.
use Rattle.std.proofs.Common.{◌≡◌, ℕ, ◌<◌, Bool, true, false, not, leb, ◌&&◌, ◌||◌, List, [], ◌∷◌, Option, Some, None, is_some, is_none, inl, inr, refl, sym, ap, ◌∙◌}
use Rattle.std.proofs.lemmas.Bool.{eq-eqb, ne_eqb, eqb-false}
use Rattle.std.proofs.lemmas.Bool.Decides.{leb_tells}
use Rattle.std.proofs.Math.Dec.{eqb}
use Rattle.std.specs.Option.{option_map}
use Rattle.iso_isolation.specs.Languages.{Language}
use Rattle.iso_isolation.specs.Suites.{Suite, SuiteLaws}
use Rattle.iso_isolation.specs.States.{State, is_waiting, is_open, is_finished, is_at_rest, is_held, body_in}
use Rattle.iso_isolation.specs.Events.{Enter, Step, Leave, Shut, where_some}
use Rattle.iso_isolation.specs.Refusals as Why
use Rattle.iso_isolation.specs.Refusals.{Refused, refuse, is_root, first_of, lowest_below, any_below, kinds, body_of, is_unfinished_sibling, is_unfinished_child}
use Rattle.iso_isolation.specs.Runs.{is_accepted}
use Rattle.iso_isolation.proofs.Changes.{none_below}
use Rattle.iso_isolation.proofs.Statuses.{waiting_is}
use Rattle.iso_isolation.proofs.LockEvents.{MayEnter}

-- none of a list of kinds applies
abbrev pub NoneApplies : List (Option Refused) → Type 0
NoneApplies [] = Unit {0}
NoneApplies (o ∷ os) = (o ≡ None) × NoneApplies os

pub none_applies : (os : List (Option Refused)) → is_none (first_of os) ≡ true → NoneApplies os
none_applies [] e = tt
none_applies (None ∷ os) e = (refl, none_applies os e)
none_applies (Some r ∷ os) e = absurd cc

pub not_refused : (b : Bool) (kind : Refused) → refuse b kind ≡ None → b ≡ false
not_refused true kind e = absurd cc
not_refused false kind e = refl

both_false : (a b : Bool) → (a || b) ≡ false → (a ≡ false) × (b ≡ false)
both_false true b e = absurd cc
both_false false b e = (refl, e)

second_false : (a b : Bool) → (a && b) ≡ false → a ≡ true → b ≡ false
second_false true b e t = e
second_false false b e t = absurd cc

is_true : (b : Bool) → not b ≡ false → b ≡ true
is_true true e = refl
is_true false e = absurd cc

is_false : (b : Bool) → not b ≡ true → b ≡ false
is_false true e = absurd cc
is_false false e = refl

no_number : (o : Option ℕ) → is_some o ≡ false → o ≡ None
no_number None e = refl
no_number (Some n) e = absurd cc

no_lock : (o : Option ℕ) → option_map (λ (m : ℕ). Why.LockHeld m) o ≡ None → o ≡ None
no_lock None e = refl
no_lock (Some n) e = absurd cc

pub nonzero_from : (n : ℕ) → is_root n ≡ false → n ≡ 0 → ⊥
nonzero_from n e z = eqb-false n 0 e z

root_false : (n : ℕ) → (n ≡ 0 → ⊥) → is_root n ≡ false
root_false n nz = ne_eqb n 0 nz

pub in_plan : (most n : ℕ) → leb most n ≡ false → n < most
in_plan most n e = elim (leb_tells most n) [ inl p ↦ absurd cc | inr p ↦ p.1 ]

-- the four tests of `is_unfinished_sibling`, and the three of `is_unfinished_child`
last_of_four : (a b c d : Bool) → (a && b && c && not d) ≡ false → a ≡ true → b ≡ true → c ≡ true → d ≡ true
last_of_four true true true d e p q r = is_true d e
last_of_four true true false d e p q r = absurd cc
last_of_four true false c d e p q r = absurd cc
last_of_four false b c d e p q r = absurd cc

last_of_three : (a b c : Bool) → (a && b && not c) ≡ false → a ≡ true → b ≡ true → c ≡ true
last_of_three true true c e p q = is_true c e
last_of_three true false c e p q = absurd cc
last_of_three false b c e p q = absurd cc

module _ {H K V B F R : Type 0} (l : Language H K V B F R) (x : Suite H K V) (workers : ℕ) (s : State K V B F R) where
  -- the body of a worker, and where it is
  pub record HasBody (w : ℕ) : Type 0 where
    pub node : ℕ
    pub body : B
    pub busy : s.busy w ≡ Some node
    pub here : body_in (s.nodes.status node) ≡ Some body

  abbrev body_by : Option ℕ → Option B
  body_by o = where_some o None (λ n. body_in (s.nodes.status n))

  body_at : (w n : ℕ) → s.busy w ≡ Some n → (o : Option B) → body_in (s.nodes.status n) ≡ o → is_some o ≡ true → HasBody w
  body_at w n busy None e h = absurd cc
  body_at w n busy (Some b) e h = record { node = n; body = b; busy = busy; here = e }

  has_body_by : (w : ℕ) (o : Option ℕ) → s.busy w ≡ o → is_some (body_by o) ≡ true → HasBody w
  has_body_by w None e h = absurd cc
  has_body_by w (Some n) e h = body_at w n e (body_in (s.nodes.status n)) refl h

  pub body_found : (w : ℕ) (h : HasBody w) → body_of l x workers s w ≡ Some h.body
  body_found w h = ap body_by h.busy ∙ h.here

  pub has_body : (w : ℕ) → not (is_some (body_of l x workers s w)) ≡ false → HasBody w
  has_body w e = has_body_by w (s.busy w) refl (is_true (is_some (body_of l x workers s w)) e)

  -- no kind of refusal of an Enter applies, each by its name
  pub record EnterPasses (w n : ℕ) : Type 0 where
    pub running : Why.stopped l x workers s ≡ None
    pub worker : Why.no_worker l x workers s w ≡ None
    pub node : Why.no_node l x workers s n ≡ None
    pub free : Why.worker_busy l x workers s w ≡ None
    pub parent : Why.parent_closed l x workers s n ≡ None
    pub fresh : Why.already_entered l x workers s n ≡ None
    pub owner : Why.not_owner_of_parent l x workers s w n ≡ None
    pub earlier : Why.earlier_sibling l x workers s n ≡ None
    pub unlocked : Why.lock_held l x workers s n ≡ None

  pub enter_passes : (w n : ℕ) → is_accepted l x workers s (Enter w n) ≡ true → EnterPasses w n
  enter_passes w n e =
      let t = none_applies (kinds l x workers s (Enter w n)) e in
      record {
        running = t.0;
        worker = t.1.0;
        node = t.1.1.0;
        free = t.1.1.1.0;
        parent = t.1.1.1.1.0;
        fresh = t.1.1.1.1.1.0;
        owner = t.1.1.1.1.1.1.0;
        earlier = t.1.1.1.1.1.1.1.0;
        unlocked = t.1.1.1.1.1.1.1.1.0;
      }

  -- no kind of refusal of a Step applies, and none of a Leave, each by its name
  pub record StepPasses (w : ℕ) : Type 0 where
    pub running : Why.stopped l x workers s ≡ None
    pub worker : Why.no_worker l x workers s w ≡ None
    pub body : Why.no_body l x workers s w ≡ None
    pub going : Why.body_ended l x workers s w ≡ None

  pub step_passes : (w : ℕ) → is_accepted l x workers s (Step w) ≡ true → StepPasses w
  step_passes w e =
      let t = none_applies (kinds l x workers s (Step w)) e in
      record { running = t.0; worker = t.1.0; body = t.1.1.0; going = t.1.1.1.0 }

  pub record LeavePasses (w : ℕ) : Type 0 where
    pub running : Why.stopped l x workers s ≡ None
    pub worker : Why.no_worker l x workers s w ≡ None
    pub body : Why.no_body l x workers s w ≡ None
    pub ended : Why.body_not_ended l x workers s w ≡ None

  pub leave_passes : (w : ℕ) → is_accepted l x workers s (Leave w) ≡ true → LeavePasses w
  leave_passes w e =
      let t = none_applies (kinds l x workers s (Leave w)) e in
      record { running = t.0; worker = t.1.0; body = t.1.1.0; ended = t.1.1.1.0 }

  -- no kind of refusal of a Shut applies, each by its name
  pub record ShutPasses (w n : ℕ) : Type 0 where
    pub running : Why.stopped l x workers s ≡ None
    pub worker : Why.no_worker l x workers s w ≡ None
    pub node : Why.no_node l x workers s n ≡ None
    pub free : Why.worker_busy l x workers s w ≡ None
    pub class : Why.not_class l x workers s n ≡ None
    pub rests : Why.not_open l x workers s n ≡ None
    pub owner : Why.not_owner l x workers s w n ≡ None
    pub children : Why.children_left l x workers s n ≡ None

  pub shut_passes : (w n : ℕ) → is_accepted l x workers s (Shut w n) ≡ true → ShutPasses w n
  shut_passes w n e =
      let t = none_applies (kinds l x workers s (Shut w n)) e in
      record {
        running = t.0;
        worker = t.1.0;
        node = t.1.1.0;
        free = t.1.1.1.0;
        class = t.1.1.1.1.0;
        rests = t.1.1.1.1.1.0;
        owner = t.1.1.1.1.1.1.0;
        children = t.1.1.1.1.1.1.1.0;
      }

  -- an accepted Enter
  pub enter_told : SuiteLaws l x → (w n : ℕ) → is_accepted l x workers s (Enter w n) ≡ true → MayEnter x s.nodes.status n
  enter_told plan w n e =
      let t = enter_passes w n e in
      let st = s.nodes.status in
      let node = not_refused (leb x.nodes n) Why.NoNode t.node in
      let parent = not_refused (not (is_root n) && not (is_open (st (x.parent n)))) Why.ParentClosed t.parent in
      let fresh = both_false (is_root n) (not (is_waiting (st n))) (not_refused (is_root n || not (is_waiting (st n))) Why.AlreadyEntered t.fresh) in
      let earlier = not_refused (x.is_same_thread n && any_below n (is_unfinished_sibling l x workers s n)) Why.EarlierSibling t.earlier in
      let free = no_lock (lowest_below x.nodes (λ m. is_held (s.nodes.status m) && x.conflict m n)) t.unlocked in
      record {
        nonzero = nonzero_from n fresh.0;
        inside = in_plan x.nodes n node;
        waiting = waiting_is (s.nodes.status n) (is_true (is_waiting (s.nodes.status n)) fresh.1);
        parent = is_true (is_open (s.nodes.status (x.parent n))) (second_false (not (is_root n)) (not (is_open (s.nodes.status (x.parent n)))) parent (ap not fresh.0));
        earlier = λ m lt nz p sm sn.
            let none = no_number (lowest_below n (is_unfinished_sibling l x workers s n)) (second_false (x.is_same_thread n) (any_below n (is_unfinished_sibling l x workers s n)) earlier sn) in
            last_of_four (not (is_root m)) (eqb (x.parent m) (x.parent n)) (x.is_same_thread m) (is_finished (s.nodes.status m))
            (none_below n (is_unfinished_sibling l x workers s n) none m lt) (ap not (root_false m nz)) (eq-eqb (x.parent m) (x.parent n) p) sm;
        free = λ m lt h shared.
            let f = second_false (is_held (s.nodes.status m)) (x.conflict m n) (none_below x.nodes (λ m. is_held (s.nodes.status m) && x.conflict m n) free m lt) h in
            let t = plan.conflicts m n shared in
            cc;
      }

  -- an accepted Step, and an accepted Leave
  pub step_told : (w : ℕ) → is_accepted l x workers s (Step w) ≡ true → HasBody w
  step_told w e =
      let t = step_passes w e in
      has_body w (not_refused (not (is_some (body_of l x workers s w))) Why.NoBody t.body)

  pub record HasEnded (w : ℕ) : Type 0 where
    pub has : HasBody w
    pub over : l.ended has.body ≡ true

  pub leave_told : (w : ℕ) → is_accepted l x workers s (Leave w) ≡ true → HasEnded w
  leave_told w e =
      let t = leave_passes w e in
      let h = has_body w (not_refused (not (is_some (body_of l x workers s w))) Why.NoBody t.body) in
      let ended = not_refused (where_some (body_of l x workers s w) false (λ b. not (l.ended b))) Why.BodyNotEnded t.ended in
      record { has = h; over = is_true (l.ended h.body) (sym (ap (λ (o : Option B). where_some o false (λ b. not (l.ended b))) (body_found w h)) ∙ ended) }

  -- an accepted Shut
  pub record MayShut (n : ℕ) : Type 0 where
    pub nonzero : n ≡ 0 → ⊥
    pub rests : is_at_rest (s.nodes.status n) ≡ true
    pub class : l.is_test (x.head n) ≡ false
    pub children : is_open (s.nodes.status n) ≡ true → (m : ℕ) → m < x.nodes → (m ≡ 0 → ⊥) → x.parent m ≡ n → is_finished (s.nodes.status m) ≡ true

  pub shut_told : (w n : ℕ) → is_accepted l x workers s (Shut w n) ≡ true → MayShut n
  shut_told w n e =
      let t = shut_passes w n e in
      let class = both_false (is_root n) (l.is_test (x.head n)) (not_refused (is_root n || l.is_test (x.head n)) Why.NotClass t.class) in
      let rests = not_refused (not (is_at_rest (s.nodes.status n))) Why.NotOpen t.rests in
      let left = not_refused (is_open (s.nodes.status n) && any_below x.nodes (is_unfinished_child l x workers s n)) Why.ChildrenLeft t.children in
      record {
        nonzero = nonzero_from n class.0;
        rests = is_true (is_at_rest (s.nodes.status n)) rests;
        class = class.1;
        children = λ o m lt nz p.
            let none = no_number (lowest_below x.nodes (is_unfinished_child l x workers s n))
            (second_false (is_open (s.nodes.status n)) (any_below x.nodes (is_unfinished_child l x workers s n)) left o) in
            last_of_three (not (is_root m)) (eqb (x.parent m) n) (is_finished (s.nodes.status m))
            (none_below x.nodes (is_unfinished_child l x workers s n) none m lt) (ap not (root_false m nz)) (eq-eqb (x.parent m) n p);
      }
