-- What a standing tells of every state that looks so.
use Rattle.std.proofs.Common.{◌≡◌, ℕ, suc, ◌+◌, ◌-◌, ◌<◌, List, [], ◌∷◌, ◌++◌, length, Option, Some, None, Bool, true, false, ◌&&◌, not, eqb, leb, is_some, option_map, ap, sym, ◌∙◌, arith, refl}
use Rattle.std.proofs.lemmas.Bool.{lt-leb}
use Rattle.std.specs.List.{list_any}
use Rattle.std.specs.Option.{option_or}
use Rattle.iso_standing.proofs.Below.{any-alike, any-cut, children-any, lowest-alike}
use Rattle.iso_standing.specs.Phases.{bare, phase_of}
use Rattle.iso_suites.specs.PlanSuites.{is_same_thread}
use Rattle.iso_standing.specs.KindsAt.{at, before_locks, booking_kinds, early_kinds, first_kinds, shut_kinds}
use Rattle.iso_suites.specs.ScriptLanguage.{scripts}
use Rattle.iso_suites.specs.SuiteStates.{RunState}
use Rattle.iso_standing.specs.Standings.{EndsAs, IsStanding, LooksLike, Standing, body_under_way, is_complete_in, node_of, nodes_in, phase_at, refusal_in, suite_in, workers_in}
use Rattle.iso_standing.specs.declared.phase.Phase.{Phase}
use Rattle.iso_isolation.specs.Events.{Enter, Leave, Shut, Step, where_some}
use Rattle.iso_isolation.specs.Refusals as Why
use Rattle.iso_isolation.specs.Refusals.{Refused, any_below, first_of, is_root, lowest_below, refuse}
use Rattle.iso_isolation.specs.States as S
use Rattle.iso_isolation.specs.States.{Status, body_in, is_at_rest, is_finished, is_held, is_open, is_waiting}
use Rattle.iso_model.specs.Bodies.{Stage, is_ended}
use Rattle.iso_model.specs.Resources.{Resources}
use Rattle.iso_plan.specs.Locks.{conflict}
use Rattle.iso_plan.specs.Modes.{mode}
use Rattle.iso_plan.specs.Paths.{children, parent}
use Rattle.iso_plan.specs.Planned.{Planned}
use Rattle.iso_plan.specs.RowView.{tree_of}
use Rattle.iso_plan.specs.Tree.{Row}

pub nodes-are : (p : Planned) → length (tree_of p) ≡ length p.rows
nodes-are p = refl

-- what a phase tells of its status
module _ {B F R : Type 0} where
  pub waiting-is : (s : Status B F R) → is_waiting s ≡ is_waiting (bare (phase_of s))
  waiting-is S.Waiting = refl
  waiting-is (S.Begun b) = refl
  waiting-is (S.Open fs) = refl
  waiting-is (S.Barred fs) = refl
  waiting-is (S.Closing fs b) = refl
  waiting-is (S.Finished r) = refl

  pub open-is : (s : Status B F R) → is_open s ≡ is_open (bare (phase_of s))
  open-is S.Waiting = refl
  open-is (S.Begun b) = refl
  open-is (S.Open fs) = refl
  open-is (S.Barred fs) = refl
  open-is (S.Closing fs b) = refl
  open-is (S.Finished r) = refl

  pub rest-is : (s : Status B F R) → is_at_rest s ≡ is_at_rest (bare (phase_of s))
  rest-is S.Waiting = refl
  rest-is (S.Begun b) = refl
  rest-is (S.Open fs) = refl
  rest-is (S.Barred fs) = refl
  rest-is (S.Closing fs b) = refl
  rest-is (S.Finished r) = refl

  pub finished-is : (s : Status B F R) → is_finished s ≡ is_finished (bare (phase_of s))
  finished-is S.Waiting = refl
  finished-is (S.Begun b) = refl
  finished-is (S.Open fs) = refl
  finished-is (S.Barred fs) = refl
  finished-is (S.Closing fs b) = refl
  finished-is (S.Finished r) = refl

  pub held-is : (s : Status B F R) → is_held s ≡ is_held (bare (phase_of s))
  held-is S.Waiting = refl
  held-is (S.Begun b) = refl
  held-is (S.Open fs) = refl
  held-is (S.Barred fs) = refl
  held-is (S.Closing fs b) = refl
  held-is (S.Finished r) = refl

  pub body-is : (s : Status B F R) → is_some (body_in s) ≡ is_some (body_in (bare (phase_of s)))
  body-is S.Waiting = refl
  body-is (S.Begun b) = refl
  body-is (S.Open fs) = refl
  body-is (S.Barred fs) = refl
  body-is (S.Closing fs b) = refl
  body-is (S.Finished r) = refl

by-twos : (a b c d : Bool) → (a && b && c && d) ≡ ((a && b) && (c && d))
by-twos true true c d = refl
by-twos true false c d = refl
by-twos false b c d = refl

by-three : (a b c : Bool) → (a && b && c) ≡ ((a && b) && c)
by-three true b c = refl
by-three false b c = refl

turned : (a b c : Bool) → (a && (b && c)) ≡ (b && (a && c))
turned true true c = refl
turned true false c = refl
turned false true c = refl
turned false false c = refl

pub last : (o : Option Refused) → option_or o None ≡ o
last None = refl
last (Some k) = refl

option-assoc : (a b c : Option Refused) → option_or (option_or a b) c ≡ option_or a (option_or b c)
option-assoc None b c = refl
option-assoc (Some k) b c = refl

joined : (xs ys : List (Option Refused)) → first_of (xs ++ ys) ≡ option_or (first_of xs) (first_of ys)
joined [] ys = refl
joined (x ∷ xs) ys = ap (option_or x) (joined xs ys) ∙ sym (option-assoc x (first_of xs) (first_of ys))

third : (a b k : Option Refused) → first_of (a ∷ b ∷ k ∷ []) ≡ None → k ≡ None
third None None None e = refl
third None None (Some k) e = absurd (cc)
third None (Some b) k e = absurd (cc)
third (Some a) b k e = absurd (cc)

un-refused : (b : Bool) → refuse (not b) Why.NoBody ≡ None → b ≡ true
un-refused true e = refl
un-refused false e = absurd (cc)

told : (o : Option Stage) (test : Stage → Bool) (e : Bool) → is_some o ≡ true → ((b : Stage) → o ≡ Some b → test b ≡ e) → where_some o false test ≡ e
told None test e there h = absurd (cc)
told (Some b) test e there h = h b refl

-- a kind of refusal applies just where its test holds, which is known
pub tested : {o : Option Refused} {b c : Bool} (k : Refused) → o ≡ refuse b k → b ≡ c → o ≡ refuse c k
tested k is known = is ∙ ap (λ (x : Bool). refuse x k) known

module _ (v : Standing) (start : Resources) (s : RunState) (like : LooksLike v s) where
  abbrev tree : List Row
  tree = tree_of v.plan

  pub stop-is : (b : Bool) → v.stopped ≡ b → Why.stopped scripts (suite_in v start) (workers_in v) s ≡ refuse b Why.Stopped
  stop-is b e = ap (λ (x : Bool). refuse x Why.Stopped) (like.stopped ∙ e)

  pub worker-in : (w : ℕ) → w < workers_in v → Why.no_worker scripts (suite_in v start) (workers_in v) s w ≡ None
  worker-in w h = ap (λ (x : Bool). refuse x Why.NoWorker) (lt-leb (workers_in v) w h)

  pub node-in : (n : ℕ) → n < nodes_in v → Why.no_node scripts (suite_in v start) (workers_in v) s n ≡ None
  node-in n h = let e = nodes-are v.plan in ap (λ (x : Bool). refuse x Why.NoNode) (lt-leb (length tree) n (omega arith))

  body-by : (o : Option ℕ) → ((n : ℕ) → o ≡ Some n → n < nodes_in v) → is_some (where_some o None (λ n. body_in (s.nodes.status n))) ≡ is_some (where_some o None (λ n. body_in (bare (phase_at v n))))
  body-by None h = refl
  body-by (Some n) h = body-is (s.nodes.status n) ∙ ap (λ (p : Phase). is_some (body_in (bare p))) (like.phases n (h n refl))

  pub has-body : IsStanding v → (w : ℕ) → w < workers_in v → is_some (body_under_way v start s w) ≡ is_some (where_some (node_of v w) None (λ n. body_in (bare (phase_at v n))))
  has-body is w h = ap (λ (o : Option ℕ). is_some (where_some o None (λ n. body_in (s.nodes.status n)))) (like.bodies w h) ∙ body-by (node_of v w) (λ n e. (is.bodies w n e).1)

  -- a node that is SAME_THREAD and isn't finished; and one that isn't finished
  abbrev pub is_due_at : ℕ → Bool
  is_due_at m = is_same_thread (mode tree v.plan.settings m) && not (is_finished (bare (phase_at v m)))

  abbrev pub is_left_at : ℕ → Bool
  is_left_at m = not (is_finished (bare (phase_at v m)))

  unfinished : (m : ℕ) → m < nodes_in v → not (is_finished (s.nodes.status m)) ≡ is_left_at m
  unfinished m h = ap not (finished-is (s.nodes.status m) ∙ ap (λ (p : Phase). is_finished (bare p)) (like.phases m h))

  pub siblings-are : (n : ℕ) → n < nodes_in v → at v start s (Why.has_unfinished_sibling scripts) n ≡ list_any (λ i. leb (suc i) n && is_due_at i) (children tree (parent tree n))
  siblings-are n h =
      let p = parent tree n in
      let count = nodes-are v.plan in
      let beside : ℕ → Bool = λ i. not (is_root i) && eqb (parent tree i) p in
      let whole : n + (length tree - n) ≡ length tree = omega arith in
      any-alike n (Why.is_unfinished_sibling scripts (suite_in v start) (workers_in v) s n) (λ i. beside i && is_due_at i) (λ m l.
      by-twos (not (is_root m)) (eqb (parent tree m) p) (is_same_thread (mode tree v.plan.settings m)) (not (is_finished (s.nodes.status m)))
      ∙ ap (λ (b : Bool). beside m && (is_same_thread (mode tree v.plan.settings m) && b)) (unfinished m (omega arith)))
      ∙ sym (any-cut n (length tree - n) (λ i. beside i && is_due_at i))
      ∙ ap (λ j. any_below j (λ i. leb (suc i) n && (beside i && is_due_at i))) whole
      ∙ any-alike (length tree) (λ i. leb (suc i) n && (beside i && is_due_at i)) (λ i. beside i && (leb (suc i) n && is_due_at i)) (λ m l. turned (leb (suc m) n) (beside m) (is_due_at m))
      ∙ sym (children-any tree p (λ i. leb (suc i) n && is_due_at i) (length tree))

  pub children-are : (n : ℕ) → at v start s (Why.has_unfinished_child scripts) n ≡ list_any is_left_at (children tree n)
  children-are n =
      let count = nodes-are v.plan in
      let child : ℕ → Bool = λ i. not (is_root i) && eqb (parent tree i) n in
      any-alike (length tree) (Why.is_unfinished_child scripts (suite_in v start) (workers_in v) s n) (λ i. child i && is_left_at i) (λ m l.
      by-three (not (is_root m)) (eqb (parent tree m) n) (not (is_finished (s.nodes.status m)))
      ∙ ap (λ (b : Bool). child m && b) (unfinished m (omega arith)))
      ∙ sym (children-any tree n is_left_at (length tree))

  pub holders-are : (n : ℕ) → at v start s (Why.lock_held scripts) n ≡ option_map Why.LockHeld (lowest_below (nodes_in v) (λ m. is_held (bare (phase_at v m)) && conflict tree m n))
  holders-are n =
      let count = nodes-are v.plan in
      ap (λ j. option_map Why.LockHeld (lowest_below j (λ m. is_held (s.nodes.status m) && conflict tree m n))) count
      ∙ ap (option_map Why.LockHeld) (lowest-alike (nodes_in v) (λ m. is_held (s.nodes.status m) && conflict tree m n) (λ m. is_held (bare (phase_at v m)) && conflict tree m n)
      (λ m l. ap (λ (b : Bool). b && conflict tree m n) (held-is (s.nodes.status m) ∙ ap (λ (p : Phase). is_held (bare p)) (like.phases m l))))

  -- what waits or rests in the state does so in the standing
  pub waiting-at : (n : ℕ) → n < nodes_in v → is_waiting (s.nodes.status n) ≡ is_waiting (bare (phase_at v n))
  waiting-at n h = waiting-is (s.nodes.status n) ∙ ap (λ (p : Phase). is_waiting (bare p)) (like.phases n h)

  pub rest-at : (n : ℕ) → n < nodes_in v → is_at_rest (s.nodes.status n) ≡ is_at_rest (bare (phase_at v n))
  rest-at n h = rest-is (s.nodes.status n) ∙ ap (λ (p : Phase). is_at_rest (bare p)) (like.phases n h)

  pub not-open-is : (n : ℕ) → n < nodes_in v → {p : Phase} {r b : Bool} → p ≡ phase_at v n → r ≡ is_at_rest (bare p) → r ≡ b → at v start s (Why.not_open scripts) n ≡ refuse (not b) Why.NotOpen
  not-open-is n h there test known = ap (λ (x : Bool). refuse (not x) Why.NotOpen) (rest-at n h ∙ ap (λ (q : Phase). is_at_rest (bare q)) (sym there) ∙ sym test ∙ known)

  -- the kinds of an Enter and a Shut are those that both test first, and others; an Enter's last is of locks
  abbrev common : ℕ → ℕ → List (Option Refused)
  common w n =
      at v start s (Why.stopped scripts) ∷ at v start s (Why.no_worker scripts) w ∷ at v start s (Why.no_node scripts) n ∷ at v start s (Why.worker_busy scripts) w ∷ []

  pub before-is : (w n : ℕ) → {a b c d e : Option Refused} → first_kinds v start s w n ≡ a → at v start s (Why.parent_closed scripts) n ≡ b → at v start s (Why.already_entered scripts) n ≡ c
      → at v start s (Why.not_owner_of_parent scripts) w n ≡ d → at v start s (Why.earlier_sibling scripts) n ≡ e → before_locks v start s w n ≡ option_or a (first_of (b ∷ c ∷ d ∷ e ∷ []))
  before-is w n first closed entered owner sibling =
      joined (common w n) (early_kinds v start s w n) ∙ (λ i. option_or (first i) (first_of (closed i ∷ entered i ∷ owner i ∷ sibling i ∷ [])))

  pub enter-split : (w n : ℕ) → refusal_in v start s (Enter w n) ≡ option_or (before_locks v start s w n) (at v start s (Why.lock_held scripts) n)
  enter-split w n =
      joined (common w n ++ early_kinds v start s w n) (at v start s (Why.lock_held scripts) n ∷ [])
      ∙ ap (option_or (before_locks v start s w n)) (last (at v start s (Why.lock_held scripts) n))

  pub shut-is : (w n : ℕ) → {a b c d e : Option Refused} → first_kinds v start s w n ≡ a → at v start s (Why.not_class scripts) n ≡ b → at v start s (Why.not_open scripts) n ≡ c
      → at v start s (Why.not_owner scripts) w n ≡ d → at v start s (Why.children_left scripts) n ≡ e → refusal_in v start s (Shut w n) ≡ option_or a (first_of (b ∷ c ∷ d ∷ e ∷ []))
  shut-is w n first class rests owner children =
      joined (common w n) (shut_kinds v start s w n) ∙ (λ i. option_or (first i) (first_of (class i ∷ rests i ∷ owner i ∷ children i ∷ [])))

  -- what Enter and Shut test first, where the run goes on and both are there
  pub place-is : v.stopped ≡ false → (w n : ℕ) → w < workers_in v → n < nodes_in v → (b : Bool) → is_some (body_under_way v start s w) ≡ b → first_kinds v start s w n ≡ refuse b Why.WorkerBusy
  place-is going w n hw hn b busy =
      rw (stop-is false going, worker-in w hw, node-in n hn) (last (Why.worker_busy scripts (suite_in v start) (workers_in v) s w) ∙ ap (λ (x : Bool). refuse x Why.WorkerBusy) busy)

  pub booking-is : v.stopped ≡ false → (w : ℕ) → w < workers_in v → (b : Bool) → is_some (body_under_way v start s w) ≡ b → booking_kinds v start s w ≡ refuse (not b) Why.NoBody
  booking-is going w hw b there =
      rw (stop-is false going, worker-in w hw) (last (Why.no_body scripts (suite_in v start) (workers_in v) s w) ∙ ap (λ (x : Bool). refuse (not x) Why.NoBody) there)

  -- the kinds of a Step and a Leave are those that a booking tests, and that of the body's end
  abbrev booked : ℕ → List (Option Refused)
  booked w = at v start s (Why.stopped scripts) ∷ at v start s (Why.no_worker scripts) w ∷ at v start s (Why.no_body scripts) w ∷ []

  pub step-split : (w : ℕ) → refusal_in v start s (Step w) ≡ option_or (booking_kinds v start s w) (at v start s (Why.body_ended scripts) w)
  step-split w =
      joined (booked w) (at v start s (Why.body_ended scripts) w ∷ []) ∙ ap (option_or (booking_kinds v start s w)) (last (at v start s (Why.body_ended scripts) w))

  pub leave-split : (w : ℕ) → refusal_in v start s (Leave w) ≡ option_or (booking_kinds v start s w) (at v start s (Why.body_not_ended scripts) w)
  leave-split w =
      joined (booked w) (at v start s (Why.body_not_ended scripts) w ∷ []) ∙ ap (option_or (booking_kinds v start s w)) (last (at v start s (Why.body_not_ended scripts) w))

  -- a worker whose body may be booked has one
  has-one : (w : ℕ) → booking_kinds v start s w ≡ None → is_some (body_under_way v start s w) ≡ true
  has-one w none = un-refused (is_some (body_under_way v start s w)) (third (at v start s (Why.stopped scripts)) (at v start s (Why.no_worker scripts) w) (at v start s (Why.no_body scripts) w) none)

  pub end-of-step : (w : ℕ) → booking_kinds v start s w ≡ None → (e : Bool) → EndsAs v s w e → at v start s (Why.body_ended scripts) w ≡ refuse e Why.BodyEnded
  end-of-step w none e ends = ap (λ (x : Bool). refuse x Why.BodyEnded) (told (body_under_way v start s w) is_ended e (has-one w none) (ends start))

  pub end-of-leave : (w : ℕ) → booking_kinds v start s w ≡ None → (e : Bool) → EndsAs v s w e → at v start s (Why.body_not_ended scripts) w ≡ refuse (not e) Why.BodyNotEnded
  end-of-leave w none e ends =
      ap (λ (x : Bool). refuse x Why.BodyNotEnded) (told (body_under_way v start s w) (λ b. not (is_ended b)) (not e) (has-one w none) (λ b here. ap not (ends start b here)))

  pub complete-is : is_complete_in v start s ≡ not (any_below (nodes_in v) (λ m. not (is_root m) && is_left_at m))
  complete-is =
      ap (λ j. not (any_below j (λ m. not (is_root m) && not (is_finished (s.nodes.status m))))) (nodes-are v.plan)
      ∙ ap not (any-alike (nodes_in v) (λ m. not (is_root m) && not (is_finished (s.nodes.status m))) (λ m. not (is_root m) && is_left_at m)
      (λ m h. ap (λ (b : Bool). not (is_root m) && b) (unfinished m h)))
