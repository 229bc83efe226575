-- What the search finds is accepted.
use Rattle.std.proofs.Common.{◌≡◌, ℕ, ◌<◌, List, [], ◌∷◌, Option, Some, None, is_some, is_none, Bool, true, false, cond, not, leb, ◌&&◌, ◌||◌, inl, inr, refl, ap, ◌∙◌, arith}
use Rattle.std.proofs.Math.Dec.{eqb}
use Rattle.std.proofs.lemmas.Bool.{eq-eqb}
use Rattle.std.proofs.lemmas.Bool.Decides.{leb_tells}
use Rattle.iso_isolation.specs.Languages.{Language, BodyLaws}
use Rattle.iso_isolation.specs.Suites.{Suite, SuiteLaws}
use Rattle.iso_isolation.specs.States.{State, is_waiting, is_open, is_at_rest}
use Rattle.iso_isolation.specs.Events.{Enter, Step, Leave, Shut, where_some}
use Rattle.iso_isolation.specs.Refusals as Why
use Rattle.iso_isolation.specs.Refusals.{Refused, refuse, first_of, kinds, is_root, body_of, has_unfinished_sibling, has_unfinished_child, lock_held}
use Rattle.iso_isolation.specs.Runs.{is_accepted}
use Rattle.iso_isolation.proofs.Accepted.{nonzero_from}
use Rattle.iso_progress.specs.Candidates.{NoneAtWork, is_at_work, going_on, may_be_shut, may_be_entered, shut_by_owner, entered_by_owner}
use Rattle.iso_progress.specs.ProgressLaws.{ProgressLaws}
use Rattle.iso_progress.proofs.Reaching.{Going}

-- each of a list of kinds is one that doesn't apply
abbrev AllNone : List (Option Refused) → Type 0
AllNone [] = Unit {0}
AllNone (o ∷ os) = (o ≡ None) × AllNone os

accepted_by : (os : List (Option Refused)) → AllNone os → is_none (first_of os) ≡ true
accepted_by [] all = refl
accepted_by (None ∷ os) all = accepted_by os all.1
accepted_by (Some r ∷ os) all = let e = all.0 in absurd cc

unrefused : (b : Bool) (kind : Refused) → b ≡ false → refuse b kind ≡ None
unrefused true kind e = absurd cc
unrefused false kind e = refl

above : (n most : ℕ) → n < most → leb most n ≡ false
above n most lt = elim (leb_tells most n) [ inl p ↦ let le = p.1 in absurd (omega arith) | inr p ↦ p.0 ]

-- the parts of the tests
record Shuttable (a b c : Bool) : Type 0 where
  nonroot : a ≡ false
  rests : b ≡ true
  rest : c ≡ false

shuttable : (a b c : Bool) → (not a && b && not c) ≡ true → Shuttable a b c
shuttable true b c e = absurd cc
shuttable false true true e = absurd cc
shuttable false true false e = record { nonroot = refl; rests = refl; rest = refl }
shuttable false false c e = absurd cc

record Enterable (a b c d f : Bool) : Type 0 where
  nonroot : a ≡ false
  waits : b ≡ true
  parent : c ≡ true
  sibling : d ≡ false
  free : f ≡ true

enterable : (a b c d f : Bool) → (not a && b && c && not d && f) ≡ true → Enterable a b c d f
enterable true b c d f e = absurd cc
enterable false false c d f e = absurd cc
enterable false true false d f e = absurd cc
enterable false true true true f e = absurd cc
enterable false true true false f e = record { nonroot = refl; waits = refl; parent = refl; sibling = refl; free = e }

is_nothing : {A : Type 0} (o : Option A) → is_none o ≡ true → o ≡ None
is_nothing None e = refl
is_nothing (Some a) e = absurd cc

neither : (a b : Bool) → a ≡ false → b ≡ false → (a || b) ≡ false
neither true b e f = absurd cc
neither false b e f = f

module _ {H K V B F R : Type 0} (l : Language H K V B F R) (x : Suite H K V) (plan : SuiteLaws l x) (laws : BodyLaws l) (more : ProgressLaws l x) (workers : ℕ)
    (s : State K V B F R) (g : Going l x plan laws more workers s) where
  going_by : (w : ℕ) → w < workers → (o : Option B) → body_of l x workers s w ≡ o → is_some o ≡ true → (t : Bool) → where_some o false l.ended ≡ t
      → is_accepted l x workers s (cond t (Leave w) (Step w)) ≡ true
  going_by w lt None e h t ended = absurd cc
  going_by w lt (Some b) e h true ended =
      accepted_by (kinds l x workers s (Leave w)) (
        unrefused s.stopped Why.Stopped g.staffed.going,
        (
          unrefused (leb workers w) Why.NoWorker (above w workers lt),
          (
            unrefused (not (is_some (body_of l x workers s w))) Why.NoBody (ap (λ (o : Option B). not (is_some o)) e),
            (unrefused (where_some (body_of l x workers s w) false (λ c. not (l.ended c))) Why.BodyNotEnded (ap (λ (o : Option B). where_some o false (λ c. not (l.ended c))) e ∙ ap not ended), tt),
          ),
        ),
      )
  going_by w lt (Some b) e h false ended =
      accepted_by (kinds l x workers s (Step w)) (
        unrefused s.stopped Why.Stopped g.staffed.going,
        (
          unrefused (leb workers w) Why.NoWorker (above w workers lt),
          (
            unrefused (not (is_some (body_of l x workers s w))) Why.NoBody (ap (λ (o : Option B). not (is_some o)) e),
            (unrefused (where_some (body_of l x workers s w) false l.ended) Why.BodyEnded (ap (λ (o : Option B). where_some o false l.ended) e ∙ ended), tt),
          ),
        ),
      )

  -- a body goes on
  pub body_accepted : (w : ℕ) → w < workers → is_at_work l x workers s w ≡ true → is_accepted l x workers s (going_on l x workers s w) ≡ true
  body_accepted w lt h = going_by w lt (body_of l x workers s w) refl h (where_some (body_of l x workers s w) false l.ended) refl

  -- a class is shut
  pub shut_accepted : (n : ℕ) → n < x.nodes → NoneAtWork l x workers s → may_be_shut l x workers s n ≡ true
      → is_accepted l x workers s (shut_by_owner l x workers s n) ≡ true
  shut_accepted n lt none e =
      let status = s.nodes.status n in
      let may = shuttable (is_root n) (is_at_rest status) (is_open status && has_unfinished_child l x workers s n) e in
      let w = s.owner n in
      let owned = g.staffed.owned n in
      let class = g.staffed.standing.class n (nonzero_from n may.nonroot) may.rests in
      accepted_by (kinds l x workers s (Shut w n)) (
        unrefused s.stopped Why.Stopped g.staffed.going,
        (
          unrefused (leb workers w) Why.NoWorker (above w workers owned),
          (
            unrefused (leb x.nodes n) Why.NoNode (above n x.nodes lt),
            (
              unrefused (is_some (body_of l x workers s w)) Why.WorkerBusy (none w owned),
              (
                unrefused (is_root n || l.is_test (x.head n)) Why.NotClass (neither (is_root n) (l.is_test (x.head n)) may.nonroot class),
                (
                  unrefused (not (is_at_rest status)) Why.NotOpen (ap not may.rests),
                  (
                    unrefused (not (eqb (s.owner n) w)) Why.NotOwner (ap not (eq-eqb w w refl)),
                    (unrefused (is_open status && has_unfinished_child l x workers s n) Why.ChildrenLeft may.rest, tt),
                  ),
                ),
              ),
            ),
          ),
        ),
      )

  -- a node is entered
  pub enter_accepted : (n : ℕ) → n < x.nodes → NoneAtWork l x workers s → may_be_entered l x workers s n ≡ true
      → is_accepted l x workers s (entered_by_owner l x workers s n) ≡ true
  enter_accepted n lt none e =
      let st = s.nodes.status in
      let may = enterable (is_root n) (is_waiting (st n)) (is_open (st (x.parent n))) (x.is_same_thread n && has_unfinished_sibling l x workers s n)
      (is_none (lock_held l x workers s n)) e in
      let w = s.owner (x.parent n) in
      let owned = g.staffed.owned (x.parent n) in
      accepted_by (kinds l x workers s (Enter w n)) (
        unrefused s.stopped Why.Stopped g.staffed.going,
        (
          unrefused (leb workers w) Why.NoWorker (above w workers owned),
          (
            unrefused (leb x.nodes n) Why.NoNode (above n x.nodes lt),
            (
              unrefused (is_some (body_of l x workers s w)) Why.WorkerBusy (none w owned),
              (
                unrefused (not (is_root n) && not (is_open (st (x.parent n)))) Why.ParentClosed (closed_by (not (is_root n)) (is_open (st (x.parent n))) may.parent),
                (
                  unrefused (is_root n || not (is_waiting (st n))) Why.AlreadyEntered (neither (is_root n) (not (is_waiting (st n))) may.nonroot (ap not may.waits)),
                  (
                    unrefused (x.is_same_thread n && not (eqb (s.owner (x.parent n)) w)) Why.NotOwner (closed_by (x.is_same_thread n) (eqb (s.owner (x.parent n)) w) (eq-eqb w w refl)),
                    (
                      unrefused (x.is_same_thread n && has_unfinished_sibling l x workers s n) Why.EarlierSibling may.sibling,
                      (is_nothing (lock_held l x workers s n) may.free, tt),
                    ),
                  ),
                ),
              ),
            ),
          ),
        ),
      )
    where
      closed_by : (a b : Bool) → b ≡ true → (a && not b) ≡ false
      closed_by true true e = refl
      closed_by true false e = absurd cc
      closed_by false b e = refl
