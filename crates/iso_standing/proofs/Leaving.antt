-- A standing after a Leave looks like the state after it.
use Rattle.std.proofs.Common.{◌≡◌, ℕ, ◌<◌, List, length, Option, Some, None, Bool, true, false, ◌||◌, ◌&&◌, cond, eqb, is_some, get_or, set, ap, ap₂, sym, ◌∙◌, subst, arith, inl, inr, refl}
use Rattle.std.proofs.lemmas.Bool.{cases_eq}
use Rattle.std.proofs.lemmas.List.{get_or-set_other, get_or-set_same, length-set}
use Rattle.iso_standing.specs.Phases.{bare, phase_of}
use Rattle.iso_suites.specs.PlanSuites.{head_of}
use Rattle.iso_suites.specs.ScriptLanguage.{is_of_test, scripts}
use Rattle.iso_suites.specs.SuiteStates.{RunState}
use Rattle.iso_standing.specs.Standings.{EndsWellAs, HasBody, IsStanding, LooksLike, Standing, after_in, is_inside, node_of, nodes_in, phase_at, phase_under, suite_in, workers_in}
use Rattle.iso_standing.specs.declared.phase.Phase.{Phase}
use Rattle.iso_standing.specs.declared.phase.Phase.TheVariants as P
use Rattle.iso_standing.proofs.Looks.{waiting-at}
use Rattle.iso_isolation.specs.Events.{Leave, ended_well, leaving, where_some}
use Rattle.iso_isolation.specs.States.{Status, Waiting, Begun, Open, Barred, Closing, Finished, body_in, is_closing, is_waiting, put}
use Rattle.iso_model.specs.Bodies.{Stage}
use Rattle.iso_model.specs.Openings.{Frame}
use Rattle.iso_model.specs.Resources.{Resources}
use Rattle.iso_model.specs.declared.outcome.Outcome.{Outcome}
use Rattle.iso_plan.proofs.PathLemmas.{eq_not, eq_same}
use Rattle.iso_plan.specs.Paths.{is_test, row_at}
use Rattle.iso_plan.specs.RowView.{tree_of}
use Rattle.iso_plan.specs.Tree.{Kind, root, class_node, test_node}

abbrev NodeStatus : Type 0
NodeStatus = Status Stage Frame Outcome

put-here : {A : Type 0} (n : ℕ) (a : A) (f : ℕ → A) (m : ℕ) → m ≡ n → put n a f m ≡ a
put-here n a f m e = ap (λ (b : Bool). cond b a (f m)) (ap (λ i. eqb i n) e ∙ eq_same n)

put-other : {A : Type 0} (n : ℕ) (a : A) (f : ℕ → A) (m : ℕ) → (m ≡ n → ⊥) → put n a f m ≡ f m
put-other n a f m ne = ap (λ (b : Bool). cond b a (f m)) (eq_not m n ne)

-- a function and a list that tell the same, each changed at one place
changed : {A B : Type 0} (g : A → B) (n : ℕ) (a : A) (f : ℕ → A) (bs : List B) (b d : B) (m : ℕ) → n < length bs → g a ≡ b → g (f m) ≡ get_or bs m d → g (put n a f m) ≡ get_or (set bs n b) m d
changed g n a f bs b d m h e old = elim (cases_eq m n) [
  | inl same ↦ ap g (put-here n a f m same) ∙ e ∙ sym (get_or-set_same bs n b d h) ∙ ap (λ i. get_or (set bs n b) i d) (sym same)
  | inr other ↦ ap g (put-other n a f m other) ∙ old ∙ sym (get_or-set_other bs n m b d other)
]

and-false : (a : Bool) → (a && false) ≡ false
and-false true = refl
and-false false = refl

phase-cond : (b : Bool) (st other : NodeStatus) → phase_of (cond b st other) ≡ cond b (phase_of st) (phase_of other)
phase-cond true st other = refl
phase-cond false st other = refl

-- a node is a test where its head is one
pub head-test : (k : Kind) → is_of_test (head_of k) ≡ is_test k
head-test root = refl
head-test (class_node isolated head) = refl
head-test (test_node head) = refl

pub or-left : (a b : Bool) → (a || b) ≡ false → a ≡ false
or-left true b e = absurd (cc)
or-left false b e = refl

pub or-last : (a b : Bool) → (a || b) ≡ false → b ≡ false
or-last true b e = absurd (cc)
or-last false b e = e

-- what every Leave knows of the node of its worker's body
record NodeLeft (v : Standing) (w n : ℕ) : Type 0 where
  pub at : node_of v w ≡ Some n
  pub there : n < nodes_in v
  pub long : n < length v.phases
  pub body : is_some (body_in (bare (phase_at v n))) ≡ true

node-left : (u v : Standing) (w n : ℕ) → u ≡ v → IsStanding u → HasBody v w → (w < length u.busy → get_or u.busy w None ≡ Some n) → NodeLeft v w n
node-left u v w n same is has found =
    let of : IsStanding v = subst IsStanding same is in
    let count : length u.busy ≡ workers_in v = ap workers_in same in
    let at : node_of v w ≡ Some n = ap (λ (x : Standing). node_of x w) (sym same) ∙ found (omega (arith, has.worker)) in
    let there : n < nodes_in v = (of.bodies w n at).1 in
    record {
      at = at;
      there = there;
      long = omega (arith, of.phases);
      body = ap (λ (o : Option ℕ). is_some (where_some o None (λ m. body_in (bare (phase_at v m))))) (sym at) ∙ has.body;
    }

-- whether the body that is under way at a node is its last
abbrev pub is_last_at : ℕ → Standing → Bool
is_last_at n v = is_closing (bare (phase_at v n)) || is_test (row_at (tree_of v.plan) n).kind

-- a node whose body isn't its last isn't closing, and is no test
unclosed : (v : Standing) (n : ℕ) → is_last_at n v ≡ false → is_closing (bare (phase_at v n)) ≡ false
unclosed v n e = or-left (is_closing (bare (phase_at v n))) (is_test (row_at (tree_of v.plan) n).kind) e

no-test : (v : Standing) (start : Resources) (n : ℕ) → is_last_at n v ≡ false → is_of_test ((suite_in v start).head n) ≡ false
no-test v start n e = head-test (row_at (tree_of v.plan) n).kind ∙ or-last (is_closing (bare (phase_at v n))) (is_test (row_at (tree_of v.plan) n).kind) e

module _ (v : Standing) (start : Resources) (s : RunState) (like : LooksLike v s) where
  -- phases that are those after the Leave, with the worker's body gone
  left : (w n : ℕ) → w < workers_in v → node_of v w ≡ Some n → (ps : List Phase)
      → ((m : ℕ) → m < nodes_in v → phase_of ((leaving scripts (suite_in v start) n s.nodes (s.nodes.status n)).status m) ≡ get_or ps m P.Waiting)
      → LooksLike (record v { phases = ps; busy = set v.busy w None }) (after_in v start s (Leave w))
  left w n hw at ps after = record {
    phases = λ m h. ap (λ (o : Option ℕ). phase_of ((where_some o s.nodes (λ j. leaving scripts (suite_in v start) j s.nodes (s.nodes.status j))).status m)) (like.bodies w hw ∙ at) ∙ after m h;
    owners = like.owners;
    bodies = λ k h. changed (λ (o : Option ℕ). o) w None s.busy v.busy None None k hw refl (like.bodies k (let count = length-set v.busy w None in omega arith));
    stopped = like.stopped;
  }

  -- the last body of a node
  finished-by : (n : ℕ) (t : Bool) → scripts.is_test ((suite_in v start).head n) ≡ t → n < length v.phases
      → (st : NodeStatus) → is_some (body_in (bare (phase_of st))) ≡ true → (is_closing (bare (phase_of st)) || t) ≡ true
      → (m : ℕ) → m < nodes_in v → phase_of ((leaving scripts (suite_in v start) n s.nodes st).status m) ≡ get_or (set v.phases n P.Finished) m P.Waiting
  finished-by n t test hn Waiting body last m h = absurd (cc)
  finished-by n t test hn (Begun b) body last m h =
      let is : scripts.is_test ((suite_in v start).head n) ≡ true = test ∙ last in
      rw is (changed phase_of n _ s.nodes.status v.phases P.Finished P.Waiting m hn refl (like.phases m h))
  finished-by n t test hn (Open fs) body last m h = absurd (cc)
  finished-by n t test hn (Barred fs) body last m h = absurd (cc)
  finished-by n t test hn (Closing fs b) body last m h = changed phase_of n _ s.nodes.status v.phases P.Finished P.Waiting m hn refl (like.phases m h)
  finished-by n t test hn (Finished r) body last m h = absurd (cc)

  finished : (n : ℕ) (t : Bool) → scripts.is_test ((suite_in v start).head n) ≡ t → n < nodes_in v
      → n < length v.phases → is_some (body_in (bare (phase_at v n))) ≡ true → (is_closing (bare (phase_at v n)) || t) ≡ true
      → (m : ℕ) → m < nodes_in v → phase_of ((leaving scripts (suite_in v start) n s.nodes (s.nodes.status n)).status m) ≡ get_or (set v.phases n P.Finished) m P.Waiting
  finished n t test h hn body last =
      finished-by n t test hn (s.nodes.status n) (ap (λ (p : Phase). is_some (body_in (bare p))) (like.phases n h) ∙ body) (ap (λ (p : Phase). is_closing (bare p) || t) (like.phases n h) ∙ last)

  -- the opening of a class, which ended well
  open-by : (n : ℕ) → scripts.is_test ((suite_in v start).head n) ≡ false → n < length v.phases
      → (st : NodeStatus) → is_some (body_in (bare (phase_of st))) ≡ true → is_closing (bare (phase_of st)) ≡ false
      → ((b : Stage) → st ≡ Begun b → ended_well scripts (suite_in v start) n b s.nodes ≡ true)
      → (m : ℕ) → m < nodes_in v → phase_of ((leaving scripts (suite_in v start) n s.nodes st).status m) ≡ get_or (set v.phases n P.Open) m P.Waiting
  open-by n test hn Waiting body last well m h = absurd (cc)
  open-by n test hn (Begun b) body last well m h =
      rw (test, well b refl) (changed phase_of n _ s.nodes.status v.phases P.Open P.Waiting m hn refl (like.phases m h))
  open-by n test hn (Open fs) body last well m h = absurd (cc)
  open-by n test hn (Barred fs) body last well m h = absurd (cc)
  open-by n test hn (Closing fs b) body last well m h = absurd (cc)
  open-by n test hn (Finished r) body last well m h = absurd (cc)

  opened : (n : ℕ) → scripts.is_test ((suite_in v start).head n) ≡ false → n < nodes_in v → n < length v.phases
      → is_some (body_in (bare (phase_at v n))) ≡ true → is_closing (bare (phase_at v n)) ≡ false
      → ((b : Stage) → s.nodes.status n ≡ Begun b → ended_well scripts (suite_in v start) n b s.nodes ≡ true)
      → (m : ℕ) → m < nodes_in v → phase_of ((leaving scripts (suite_in v start) n s.nodes (s.nodes.status n)).status m) ≡ get_or (set v.phases n P.Open) m P.Waiting
  opened n test h hn body last =
      open-by n test hn (s.nodes.status n) (ap (λ (p : Phase). is_some (body_in (bare p))) (like.phases n h) ∙ body) (ap (λ (p : Phase). is_closing (bare p)) (like.phases n h) ∙ last)

  -- the opening of a class, which didn't
  under-by : (n m : ℕ) → m < nodes_in v → (fs : List Frame) (r : Outcome)
      → phase_of (cond (is_inside v m n && is_waiting (put n (Barred fs) s.nodes.status m)) (Finished r) (put n (Barred fs) s.nodes.status m)) ≡ cond (eqb m n) P.Barred (phase_under v n m)
  under-by n m h fs r = elim (cases_eq m n) [
    | inl same ↦
        ap (λ (st : NodeStatus). phase_of (cond (is_inside v m n && is_waiting st) (Finished r) st)) (put-here n (Barred fs) s.nodes.status m same)
        ∙ ap (λ (b : Bool). phase_of {B = Stage} {F = Frame} {R = Outcome} (cond b (Finished r) (Barred fs))) (and-false (is_inside v m n))
        ∙ sym (ap (λ (b : Bool). cond b P.Barred (phase_under v n m)) (ap (λ i. eqb i n) same ∙ eq_same n))
    | inr other ↦
        ap (λ (st : NodeStatus). phase_of (cond (is_inside v m n && is_waiting st) (Finished r) st)) (put-other n (Barred fs) s.nodes.status m other)
        ∙ phase-cond (is_inside v m n && is_waiting (s.nodes.status m)) (Finished r) (s.nodes.status m)
        ∙ ap₂ (λ (b : Bool) (p : Phase). cond (is_inside v m n && b) P.Finished p) (waiting-at v start s like m h) (like.phases m h)
        ∙ sym (ap (λ (b : Bool). cond b P.Barred (phase_under v n m)) (eq_not m n other))
  ]

  barred-by : (n : ℕ) → scripts.is_test ((suite_in v start).head n) ≡ false → (st : NodeStatus) → is_some (body_in (bare (phase_of st))) ≡ true → is_closing (bare (phase_of st)) ≡ false
      → ((b : Stage) → st ≡ Begun b → ended_well scripts (suite_in v start) n b s.nodes ≡ false)
      → (m : ℕ) → m < nodes_in v → phase_of ((leaving scripts (suite_in v start) n s.nodes st).status m) ≡ cond (eqb m n) P.Barred (phase_under v n m)
  barred-by n test Waiting body last well m h = absurd (cc)
  barred-by n test (Begun b) body last well m h = rw (test, well b refl) (under-by n m h _ _)
  barred-by n test (Open fs) body last well m h = absurd (cc)
  barred-by n test (Barred fs) body last well m h = absurd (cc)
  barred-by n test (Closing fs b) body last well m h = absurd (cc)
  barred-by n test (Finished r) body last well m h = absurd (cc)

  barred : (n : ℕ) → scripts.is_test ((suite_in v start).head n) ≡ false → n < nodes_in v → is_some (body_in (bare (phase_at v n))) ≡ true → is_closing (bare (phase_at v n)) ≡ false
      → ((b : Stage) → s.nodes.status n ≡ Begun b → ended_well scripts (suite_in v start) n b s.nodes ≡ false)
      → (m : ℕ) → m < nodes_in v → phase_of ((leaving scripts (suite_in v start) n s.nodes (s.nodes.status n)).status m) ≡ cond (eqb m n) P.Barred (phase_under v n m)
  barred n test h body last =
      barred-by n test (s.nodes.status n) (ap (λ (p : Phase). is_some (body_in (bare p))) (like.phases n h) ∙ body) (ap (λ (p : Phase). is_closing (bare p)) (like.phases n h) ∙ last)

-- a Leave, told of the values of a standing that contracts see as v
module _ (u v : Standing) (same : u ≡ v) (is : IsStanding u) (w n : ℕ) (has : HasBody v w) (found : w < length u.busy → get_or u.busy w None ≡ Some n) (start : Resources) (s : RunState)
    (like : LooksLike v s) where
  known : NodeLeft v w n
  known = node-left u v w n same is has found

  -- with these phases, and the worker free
  abbrev next : Standing → List Phase → Standing
  next x ps = record x { phases = ps; busy = set x.busy w None }

  -- the last body of a node
  pub left-last : is_last_at n u ≡ true → LooksLike (next u (set u.phases n P.Finished)) (after_in v start s (Leave w))
  left-last last =
      let kind = (row_at (tree_of v.plan) n).kind in
      subst (λ (x : Standing). LooksLike (next x (set x.phases n P.Finished)) (after_in v start s (Leave w))) (sym same)
      (left v start s like w n has.worker known.at (set v.phases n P.Finished)
      (finished v start s like n (is_test kind) (head-test kind) known.there known.long known.body (ap (is_last_at n) (sym same) ∙ last)))

  -- the opening of a class, which ended well or didn't
  module _ (other : is_last_at n u ≡ false) where
    there : is_last_at n v ≡ false
    there = ap (is_last_at n) (sym same) ∙ other

    well-as : (b : Bool) → EndsWellAs v s w b → (e : Stage) → s.nodes.status n ≡ Begun e → ended_well scripts (suite_in v start) n e s.nodes ≡ b
    well-as b ends e begun = ends start n e (like.bodies w has.worker ∙ known.at) begun (no-test v start n there)

    pub left-open : EndsWellAs v s w true → LooksLike (next u (set u.phases n P.Open)) (after_in v start s (Leave w))
    left-open ends =
        subst (λ (x : Standing). LooksLike (next x (set x.phases n P.Open)) (after_in v start s (Leave w))) (sym same)
        (left v start s like w n has.worker known.at (set v.phases n P.Open)
        (opened v start s like n (no-test v start n there) known.there known.long known.body (unclosed v n there) (well-as true ends)))

    pub left-barred : EndsWellAs v s w false → (x : Standing) → x ≡ next u x.phases → ((m : ℕ) → m < nodes_in u → phase_at x m ≡ cond (eqb m n) P.Barred (phase_under u n m))
        → LooksLike x (after_in v start s (Leave w))
    left-barred ends x rest phases =
        let seen : (m : ℕ) → m < nodes_in v → phase_at x m ≡ cond (eqb m n) P.Barred (phase_under v n m) =
        subst (λ (y : Standing). (m : ℕ) → m < nodes_in y → phase_at x m ≡ cond (eqb m n) P.Barred (phase_under y n m)) same phases in
        subst (λ (y : Standing). LooksLike y (after_in v start s (Leave w))) (sym (rest ∙ ap (λ (y : Standing). next y x.phases) same))
        (left v start s like w n has.worker known.at x.phases
        (λ m h. barred v start s like n (no-test v start n there) known.there known.body (unclosed v n there) (well-as false ends) m h ∙ sym (seen m h)))
