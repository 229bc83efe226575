-- The bodies of workers after each event: that worker's body is as the event leaves it, and those of all others go on as they were.
use Rattle.std.proofs.Common.{◌≡◌, ℕ, ◌<◌, List, length, Option, Some, None, Bool, true, false, cond, ◌&&◌, set, refl, replicate, subst, ap, sym, ◌∙◌, arith, inl, inr}
use Rattle.std.proofs.lemmas.Bool.{cases_eq}
use Rattle.std.proofs.lemmas.List.{get_or-replicate, get_or-set_other, get_or-set_same, length-replicate, length-set}
use Rattle.iso_suites.specs.ScriptLanguage.{Head, scripts}
use Rattle.iso_suites.specs.SuiteStates.{RunNodes, RunState, suite_at}
use Rattle.iso_standing.specs.UnderWay.{AreBodiesOf, HasUnderWay, IsUnderWay, body_at, is_after_all}
use Rattle.iso_isolation.proofs.Changes.{put_elsewhere, put_here}
use Rattle.iso_isolation.proofs.Statuses.{body_unrest, body_unseen, other_body}
use Rattle.iso_isolation.specs.Events as E
use Rattle.iso_isolation.specs.Events.{ended_well, leaving, stands_in, stepping, where_some}
use Rattle.iso_isolation.specs.States.{Status, Waiting, Begun, Open, Barred, Closing, Finished, body_in, first, is_at_rest, is_closing, is_waiting, put, with_body}
use Rattle.iso_isolation.specs.Suites.{Suite, chain}
use Rattle.iso_lifecycle.specs.BodyViews.{kind_of_body, stage_of_body, subject_of}
use Rattle.iso_lifecycle.specs.Subjects.{is_kind_of}
use Rattle.iso_lifecycle.specs.declared.body.Body.{Body}
use Rattle.iso_lifecycle.specs.declared.kind.BodyKind.{BodyKind}
use Rattle.iso_model.specs.Bodies.{Stage}
use Rattle.iso_model.specs.Openings.{Frame}
use Rattle.iso_model.specs.declared.outcome.Outcome.{Outcome}
use Rattle.iso_model.specs.declared.resource.Resource.{Resource}
use Rattle.iso_plan.specs.Paths.{row_at}
use Rattle.iso_plan.specs.Planned.{Planned}
use Rattle.iso_plan.specs.RowView.{tree_of}
use Rattle.iso_settings.specs.Worlds.{Start}

abbrev NodeStatus : Type 0
NodeStatus = Status Stage Frame Outcome

-- a status with a body under way isn't waiting
awake : (st : NodeStatus) (b : Stage) → body_in st ≡ Some b → is_waiting st ≡ true → ⊥
awake Waiting b e w = absurd (cc)
awake (Begun c) b e w = absurd (cc)
awake (Open fs) b e w = absurd (cc)
awake (Barred fs) b e w = absurd (cc)
awake (Closing fs c) b e w = absurd (cc)
awake (Finished r) b e w = absurd (cc)

asleep : (st : NodeStatus) (b : Stage) → body_in st ≡ Some b → is_waiting st ≡ false
asleep Waiting b e = absurd (cc)
asleep (Begun c) b e = refl
asleep (Open fs) b e = refl
asleep (Barred fs) b e = refl
asleep (Closing fs c) b e = refl
asleep (Finished r) b e = refl

restless : (st : NodeStatus) (b : Stage) → body_in st ≡ Some b → is_at_rest st ≡ true → ⊥
restless st b e r = let f : is_at_rest st ≡ false = body_unrest st b e in absurd (cc)

module _ (plan : Planned) (world : Start) where
  abbrev x : Suite Head (List ℕ) Resource
  x = suite_at plan world

  -- what is under way at a node is so while the node's status is the same
  goes-on : (m : ℕ) (o : Option Body) (s t : RunNodes) → t.status m ≡ s.status m → HasUnderWay plan world m o s → HasUnderWay plan world m o t
  goes-on m o s t e h = record {
    body = h.body;
    there = h.there;
    is = record {
      subject = h.is.subject;
      kind = h.is.kind ∙ ap is_closing (sym e);
      fits = h.is.fits;
      stage = ap body_in e ∙ h.is.stage;
    };
  }

  module _ (bodies : List (Option Body)) (s : RunState) (are : AreBodiesOf plan world bodies s) where
    -- no other worker has the node of a worker
    elsewhere : (w u n m : ℕ) → w < length bodies → u < length bodies → (u ≡ w → ⊥) → s.busy w ≡ Some n → s.busy u ≡ Some m → m ≡ n → ⊥
    elsewhere w u n m hw hu ne ew eu same = ne (are.apart u w n hu hw (eu ∙ ap (λ (j : ℕ). Some j) same) ew)

    -- an event of worker w, which has this body after it
    record Turn (t : RunState) (w : ℕ) (o : Option Body) : Type 0 where
      busy : (u : ℕ) → (u ≡ w → ⊥) → t.busy u ≡ s.busy u
      stays : (u m : ℕ) → u < length bodies → (u ≡ w → ⊥) → s.busy u ≡ Some m → t.nodes.status m ≡ s.nodes.status m
      free : t.busy w ≡ None → o ≡ None
      at : (n : ℕ) → t.busy w ≡ Some n → HasUnderWay plan world n o t.nodes
      apart : (u n : ℕ) → u < length bodies → (u ≡ w → ⊥) → s.busy u ≡ Some n → t.busy w ≡ Some n → ⊥

    module _ (t : RunState) (w : ℕ) (o : Option Body) (fits : w < length bodies) (turn : Turn t w o) where
      abbrev after : List (Option Body)
      after = set bodies w o

      within : (u : ℕ) → u < length after → u < length bodies
      within u h = let count = length-set bodies w o in omega arith

      here : (u : ℕ) → u ≡ w → body_at after u ≡ o
      here u same = ap (body_at after) same ∙ get_or-set_same bodies w o None fits

      there : (u : ℕ) → (u ≡ w → ⊥) → body_at after u ≡ body_at bodies u
      there u ne = get_or-set_other bodies w u o None ne

      was : (u : ℕ) (j : Option ℕ) → (u ≡ w → ⊥) → t.busy u ≡ j → s.busy u ≡ j
      was u j ne e = sym (turn.busy u ne) ∙ e

      is : (u : ℕ) (j : Option ℕ) → u ≡ w → t.busy u ≡ j → t.busy w ≡ j
      is u j same e = ap t.busy (sym same) ∙ e

      next-free : (u : ℕ) → u < length after → t.busy u ≡ None → body_at after u ≡ None
      next-free u h e = elim (cases_eq u w) [
        | inl same ↦ here u same ∙ turn.free (is u None same e)
        | inr ne ↦ there u ne ∙ are.free u (within u h) (was u None ne e)
      ]

      next-at : (u n : ℕ) → u < length after → t.busy u ≡ Some n → HasUnderWay plan world n (body_at after u) t.nodes
      next-at u n h e = elim (cases_eq u w) [
        | inl same ↦ subst (λ (q : Option Body). HasUnderWay plan world n q t.nodes) (sym (here u same)) (turn.at n (is u (Some n) same e))
        | inr ne ↦
            let old = was u (Some n) ne e in
            subst (λ (q : Option Body). HasUnderWay plan world n q t.nodes) (sym (there u ne))
            (goes-on n (body_at bodies u) s.nodes t.nodes (turn.stays u n (within u h) ne old) (are.at u n (within u h) old))
      ]

      next-apart : (u v n : ℕ) → u < length after → v < length after → t.busy u ≡ Some n → t.busy v ≡ Some n → u ≡ v
      next-apart u v n hu hv eu ev = elim (cases_eq u w) [
        | inl same ↦ elim (cases_eq v w) [
          | inl too ↦ same ∙ sym too
          | inr ne ↦ absurd (turn.apart v n (within v hv) ne (was v (Some n) ne ev) (is u (Some n) same eu))
        ]
        | inr ne ↦ elim (cases_eq v w) [
          | inl same ↦ absurd (turn.apart u n (within u hu) ne (was u (Some n) ne eu) (is v (Some n) same ev))
          | inr other ↦ are.apart u v n (within u hu) (within v hv) (was u (Some n) ne eu) (was v (Some n) other ev)
        ]
      ]

      next : AreBodiesOf plan world after t
      next = record { free = next-free; at = next-at; apart = next-apart }

    -- a worker takes a node at which nothing is under way
    module _ (t : RunState) (w n : ℕ) (b : Body) (fits : w < length bodies)
        (put_busy : t.busy ≡ put w (Some n) s.busy) (changed : (m : ℕ) → (m ≡ n → ⊥) → t.nodes.status m ≡ s.nodes.status m)
        (still : (c : Stage) → body_in (s.nodes.status n) ≡ Some c → ⊥) (under : IsUnderWay plan world n b t.nodes) where
      busy-here : t.busy w ≡ Some n
      busy-here = ap (λ (f : ℕ → Option ℕ). f w) put_busy ∙ put_here w (Some n) s.busy

      nobody : (u : ℕ) → u < length bodies → s.busy u ≡ Some n → ⊥
      nobody u h e = let there = are.at u n h e in still (stage_of_body there.body) there.is.stage

      taken : AreBodiesOf plan world (set bodies w (Some b)) t
      taken = next t w (Some b) fits (record {
        busy = λ u ne. ap (λ (f : ℕ → Option ℕ). f u) put_busy ∙ put_elsewhere u w (Some n) s.busy ne;
        stays = λ u m h ne e. changed m (λ same. nobody u h (e ∙ ap (λ (j : ℕ). Some j) same));
        free = λ e. let there = busy-here in absurd (cc);
        at = λ m e.
            let there = busy-here in
            let same : n ≡ m = cc in
            subst (λ (j : ℕ). HasUnderWay plan world j (Some b) t.nodes) same (record { body = b; there = refl; is = under });
        apart = λ u m h ne e f.
            let there = busy-here in
            let same : m ≡ n = cc in
            nobody u h (e ∙ ap (λ (j : ℕ). Some j) same);
      })

    pub entered : (w n : ℕ) (b : Body) → w < length bodies → is_waiting (s.nodes.status n) ≡ true → IsUnderWay plan world n b (E.entering scripts x n s.nodes)
        → AreBodiesOf plan world (set bodies w (Some b)) (E.after scripts x s (E.Enter w n))
    entered w n b fits waits under =
        taken (E.after scripts x s (E.Enter w n)) w n b fits refl (λ m ne. put_elsewhere m n _ s.nodes.status ne)
        (λ c e. awake (s.nodes.status n) c e waits) under

    pub shut : (w n : ℕ) (b : Body) → w < length bodies → is_at_rest (s.nodes.status n) ≡ true → IsUnderWay plan world n b (E.shutting scripts x n s.nodes)
        → AreBodiesOf plan world (set bodies w (Some b)) (E.after scripts x s (E.Shut w n))
    shut w n b fits rests under =
        taken (E.after scripts x s (E.Shut w n)) w n b fits refl (λ m ne. put_elsewhere m n _ s.nodes.status ne)
        (λ c e. restless (s.nodes.status n) c e rests) under

    -- the body of a worker makes a step
    module _ (w n : ℕ) (b c : Body) (fits : w < length bodies) (busy : s.busy w ≡ Some n) (has : body_at bodies w ≡ Some b)
        (subject_is : subject_of c ≡ subject_of b) (kind_is : kind_of_body c ≡ kind_of_body b)
        (stage_is : stage_of_body c ≡ (scripts.step (chain x n) (stage_of_body b) s.nodes.flat).body) where
      abbrev stepped : RunState
      stepped = E.after scripts x s (E.Step w)

      old : IsUnderWay plan world n b s.nodes
      old =
          let h = are.at w n fits busy in
          let there = h.there in
          let same : h.body ≡ b = cc in
          subst (λ (q : Body). IsUnderWay plan world n q s.nodes) same h.is

      nodes-are : stepped.nodes ≡ stepping scripts x n s.nodes (stage_of_body b)
      nodes-are =
          ap (λ (o : Option ℕ). where_some o s.nodes (λ j. where_some (body_in (s.nodes.status j)) s.nodes (stepping scripts x j s.nodes))) busy
          ∙ ap (λ (o : Option Stage). where_some o s.nodes (stepping scripts x n s.nodes)) old.stage

      abbrev came : Stage
      came = (scripts.step (chain x n) (stage_of_body b) s.nodes.flat).body

      status-here : stepped.nodes.status n ≡ with_body (s.nodes.status n) came
      status-here = ap (λ (q : RunNodes). q.status n) nodes-are ∙ put_here n (with_body (s.nodes.status n) came) s.nodes.status

      status-there : (m : ℕ) → (m ≡ n → ⊥) → stepped.nodes.status m ≡ s.nodes.status m
      status-there m ne = ap (λ (q : RunNodes). q.status m) nodes-are ∙ put_elsewhere m n (with_body (s.nodes.status n) came) s.nodes.status ne

      new : IsUnderWay plan world n c stepped.nodes
      new = record {
        subject = subject_is ∙ old.subject;
        kind =
            ap is_after_all kind_is ∙ old.kind
            ∙ sym (ap is_closing status-here ∙ body_unseen is_closing (λ d e. refl) (λ fs d e. refl) (s.nodes.status n) came);
        fits = ap (λ (k : BodyKind). is_kind_of k (row_at (tree_of plan) n).kind) kind_is ∙ old.fits;
        stage =
            ap body_in status-here ∙ other_body (s.nodes.status n) (stage_of_body b) came old.stage
            ∙ ap (λ (d : Stage). Some d) (sym stage_is);
      }

      pub went : AreBodiesOf plan world (set bodies w (Some c)) stepped
      went = next stepped w (Some c) fits (record {
        busy = λ u ne. refl;
        stays = λ u m h ne e. status-there m (elsewhere w u n m fits h ne busy e);
        free = λ e. absurd (cc);
        at = λ m e.
            let same : n ≡ m = cc in
            subst (λ (j : ℕ). HasUnderWay plan world j (Some c) stepped.nodes) same (record { body = c; there = refl; is = new });
        apart = λ u m h ne e f. ne (are.apart u w m h fits e f);
      })

    -- a Leave changes the status of no other node with a body under way
    module _ (n m : ℕ) (ne : m ≡ n → ⊥) (c : Stage) (under : body_in (s.nodes.status m) ≡ Some c) where
      either : (b : Bool) (p q : RunNodes) → p.status m ≡ s.nodes.status m → q.status m ≡ s.nodes.status m → (cond b p q).status m ≡ s.nodes.status m
      either true p q e f = e
      either false p q e f = f

      unbarred : (a : Bool) (st before : NodeStatus) (r : Outcome) → st ≡ before → is_waiting before ≡ false → cond (a && is_waiting st) (Finished r) st ≡ before
      unbarred true st before r e f = ap (λ (b : Bool). cond b (Finished r) st) (ap is_waiting e ∙ f) ∙ e
      unbarred false st before r e f = e

      leaving-stays : (st : NodeStatus) → (leaving scripts x n s.nodes st).status m ≡ s.nodes.status m
      leaving-stays Waiting = refl
      leaving-stays (Open fs) = refl
      leaving-stays (Barred fs) = refl
      leaving-stays (Finished r) = refl
      leaving-stays (Closing fs b) = put_elsewhere m n _ s.nodes.status ne
      leaving-stays (Begun b) =
          either (scripts.is_test (x.head n)) _ _ (put_elsewhere m n _ s.nodes.status ne)
          (either (ended_well scripts x n b s.nodes) _ _ (put_elsewhere m n _ s.nodes.status ne)
          (unbarred (stands_in scripts x m n) _ (s.nodes.status m) _ (put_elsewhere m n _ s.nodes.status ne) (asleep (s.nodes.status m) c under)))

    module _ (w n : ℕ) (fits : w < length bodies) (busy : s.busy w ≡ Some n) where
      abbrev gone : RunState
      gone = E.after scripts x s (E.Leave w)

      gone-nodes : gone.nodes ≡ leaving scripts x n s.nodes (s.nodes.status n)
      gone-nodes = ap (λ (o : Option ℕ). where_some o s.nodes (λ j. leaving scripts x j s.nodes (s.nodes.status j))) busy

      free-here : gone.busy w ≡ None
      free-here = put_here w None s.busy

      pub left : AreBodiesOf plan world (set bodies w None) gone
      left = next gone w None fits (record {
        busy = λ u ne. put_elsewhere u w None s.busy ne;
        stays = λ u m h ne e.
            let there = are.at u m h e in
            ap (λ (q : RunNodes). q.status m) gone-nodes
            ∙ leaving-stays n m (elsewhere w u n m fits h ne busy e) (stage_of_body there.body) there.is.stage (s.nodes.status n);
        free = λ e. refl;
        at = λ m e. let none = free-here in absurd (cc);
        apart = λ u m h ne e f. let none = free-here in absurd (cc);
      })

  -- at first no worker has a body
  pub nobody-first : (workers : ℕ) → AreBodiesOf plan world (replicate workers None) (first scripts x)
  nobody-first workers = record {
    free = λ w h e. get_or-replicate workers w None None (let count = length-replicate {A = Option Body} workers None in omega arith);
    at = λ w n h e. absurd (cc);
    apart = λ w u n hw hu e f. absurd (cc);
  }
