-- Two runs with the same Enters, Leaves and Shuts in the same order give the same results, wherever their Steps stand.
use Rattle.std.proofs.Common.{◌≡◌, ℕ, List, [], ◌∷◌, Option, Some, None, Bool, true, false, cond, ◌&&◌, ◌⊎◌, inl, inr, refl, sym, ap, subst, ◌∙◌}
use Rattle.std.proofs.Math.Dec.{eqb}
use Rattle.iso_isolation.specs.Languages.{Language, BodyLaws}
use Rattle.iso_isolation.specs.Suites.{Suite, chain, SuiteLaws}
use Rattle.iso_isolation.specs.States as S
use Rattle.iso_isolation.specs.States.{Status, Nodes, State, put, is_waiting, body_in, with_body, result_in, first}
use Rattle.iso_isolation.specs.Events.{Event, Enter, Step, Leave, Shut, where_some, open_or_barred, stands_in, frames_left, ended_well, stepping, opening_left, barring, leaving, after}
use Rattle.iso_isolation.specs.Restoring.{finishing}
use Rattle.iso_isolation.specs.Runs.{is_accepted, is_run, after_all_of, history_of, result_of}
use Rattle.iso_isolation.specs.Histories.{SameHistory}
use Rattle.iso_isolation.proofs.Changes.{equal_or_not, unmoved}
use Rattle.iso_isolation.proofs.Statuses.{body_unseen}
use Rattle.iso_isolation.proofs.Openings.{opening_at, defined}
use Rattle.iso_isolation.proofs.Invariant.{Kept}
use Rattle.iso_isolation.proofs.OpeningLeaves.{well_now}
use Rattle.iso_isolation.proofs.Accepted.{step_told, leave_told}
use Rattle.iso_isolation.proofs.Runs.{keeps_event, keeps_run, run_parts}
use Rattle.iso_isolation.proofs.Barred.{keeps_first}

-- a status without its bodies, frames and results
data Stage : Type 0 where
  waits : Stage
  begun : Stage
  opened : Stage
  barred : Stage
  closes : Stage
  done : Stage

abbrev is_waits : Stage → Bool
is_waits waits = true
is_waits begun = false
is_waits opened = false
is_waits barred = false
is_waits closes = false
is_waits done = false

abbrev is_done : Stage → Bool
is_done waits = false
is_done begun = false
is_done opened = false
is_done barred = false
is_done closes = false
is_done done = true

module _ {B F R : Type 0} where
  abbrev stage_of : Status B F R → Stage
  stage_of S.Waiting = waits
  stage_of (S.Begun b) = begun
  stage_of (S.Open fs) = opened
  stage_of (S.Barred fs) = barred
  stage_of (S.Closing fs b) = closes
  stage_of (S.Finished r) = done

  stage_waits : (s : Status B F R) → is_waiting s ≡ is_waits (stage_of s)
  stage_waits S.Waiting = refl
  stage_waits (S.Begun b) = refl
  stage_waits (S.Open fs) = refl
  stage_waits (S.Barred fs) = refl
  stage_waits (S.Closing fs b) = refl
  stage_waits (S.Finished r) = refl

  result_or_none : (s : Status B F R) → ((is_done (stage_of s) ≡ true) × ((r : R) × (result_in s ≡ Some r))) ⊎ ((is_done (stage_of s) ≡ false) × (result_in s ≡ None))
  result_or_none S.Waiting = inr (refl, refl)
  result_or_none (S.Begun b) = inr (refl, refl)
  result_or_none (S.Open fs) = inr (refl, refl)
  result_or_none (S.Barred fs) = inr (refl, refl)
  result_or_none (S.Closing fs b) = inr (refl, refl)
  result_or_none (S.Finished r) = inl (refl, (r, refl))

  -- results of one stage that are both this one
  results_equal : (s t : Status B F R) (d : R) → stage_of s ≡ stage_of t → ((r : R) → result_in s ≡ Some r → r ≡ d) → ((r : R) → result_in t ≡ Some r → r ≡ d)
      → result_in s ≡ result_in t
  results_equal s t d e f g = elim (result_or_none s) [
    | inl a ↦ elim (result_or_none t) [
      | inl b ↦ a.1.1 ∙ ap (λ (r : R). Some r) (f a.1.0 a.1.1 ∙ sym (g b.1.0 b.1.1)) ∙ sym b.1.1
      | inr b ↦ let c = ap is_done e in absurd cc
    ]
    | inr a ↦ elim (result_or_none t) [
      | inl b ↦ let c = ap is_done e in absurd cc
      | inr b ↦ a.1 ∙ sym b.1
    ]
  ]

  stage_cond : (b : Bool) (s t : Status B F R) → stage_of (cond b s t) ≡ cond b (stage_of s) (stage_of t)
  stage_cond true s t = refl
  stage_cond false s t = refl

  stage_put : (n : ℕ) (a : Status B F R) (f : ℕ → Status B F R) (m : ℕ) → stage_of (put n a f m) ≡ cond (eqb m n) (stage_of a) (stage_of (f m))
  stage_put n a f m = stage_cond (eqb m n) a (f m)

stage_opened : (B F R : Type 0) (w : Bool) (fs : List F) → stage_of {B = B} {F = F} {R = R} (open_or_barred w fs) ≡ cond w opened barred
stage_opened B F R true fs = refl
stage_opened B F R false fs = refl

module _ {H K V B F R : Type 0} (l : Language H K V B F R) (x : Suite H K V) where
  -- the stage of node m after the Leave of node n, by its stage before
  abbrev opened_stage : Bool → ℕ → ℕ → Stage → Stage
  opened_stage w n m old = cond (eqb m n) (cond w opened barred) old

  abbrev barred_stage : ℕ → ℕ → Stage → Stage
  barred_stage n m now = cond (stands_in l x m n && is_waits now) done now

  abbrev left_stage : Bool → Bool → Stage → ℕ → ℕ → Stage → Stage
  left_stage test w begun n m old = cond test (cond (eqb m n) done old) (cond w (opened_stage w n m old) (barred_stage n m (opened_stage w n m old)))
  left_stage test w closes n m old = cond (eqb m n) done old
  left_stage test w waits n m old = old
  left_stage test w opened n m old = old
  left_stage test w barred n m old = old
  left_stage test w done n m old = old

  stage_nodes : (b : Bool) (s t : Nodes K V B F R) (m : ℕ) → stage_of ((cond b s t).status m) ≡ cond b (stage_of (s.status m)) (stage_of (t.status m))
  stage_nodes true s t m = refl
  stage_nodes false s t m = refl

  module _ (plan : SuiteLaws l x) (laws : BodyLaws l) (s : Nodes K V B F R) (kept : Kept l x s) (n m : ℕ) where
    stage_opening_left : (b : B) → stage_of ((opening_left l x n b s).status m) ≡ opened_stage (ended_well l x n b s) n m (stage_of (s.status m))
    stage_opening_left b =
        stage_put n (open_or_barred (ended_well l x n b s) (frames_left l x n b s)) s.status m
        ∙ ap (λ (j : Stage). cond (eqb m n) j (stage_of (s.status m))) (stage_opened B F R (ended_well l x n b s) (frames_left l x n b s))

    stage_barring : (fs : List F) (t : Nodes K V B F R) → stage_of ((barring l x n fs t).status m) ≡ barred_stage n m (stage_of (t.status m))
    stage_barring fs t =
        stage_cond (stands_in l x m n && is_waiting (t.status m)) (S.Finished (l.blocked fs)) (t.status m)
        ∙ ap (λ (j : Bool). cond (stands_in l x m n && j) done (stage_of (t.status m))) (stage_waits (t.status m))

    stage_begun : (b : B) → stage_of ((leaving l x n s (S.Begun b)).status m) ≡ left_stage (l.is_test (x.head n)) (ended_well l x n b s) begun n m (stage_of (s.status m))
    stage_begun b =
        let test = l.is_test (x.head n) in
        let w = ended_well l x n b s in
        let old = stage_of (s.status m) in
        let u = opening_left l x n b s in
        let v = barring l x n (frames_left l x n b s) u in
        stage_nodes test (finishing l x n (l.test_result b) s) (cond w u v) m
        ∙ ap (λ (j : Stage). cond test j (stage_of ((cond w u v).status m))) (stage_put n (S.Finished (l.test_result b)) s.status m)
        ∙ ap (λ (j : Stage). cond test (cond (eqb m n) done old) j)
        (stage_nodes w u v m
        ∙ ap (λ (j : Stage). cond w j (stage_of (v.status m))) (stage_opening_left b)
        ∙ ap (λ (j : Stage). cond w (opened_stage w n m old) j) (stage_barring (frames_left l x n b s) u ∙ ap (barred_stage n m) (stage_opening_left b)))

    stage_left : (st : Status B F R) (b : B) → s.status n ≡ st → body_in st ≡ Some b → l.ended b ≡ true
        → stage_of ((leaving l x n s st).status m) ≡ left_stage (l.is_test (x.head n)) (opening_at l x n).well (stage_of st) n m (stage_of (s.status m))
    stage_left S.Waiting b here e over = absurd cc
    stage_left (S.Open fs) b here e over = absurd cc
    stage_left (S.Barred fs) b here e over = absurd cc
    stage_left (S.Finished r) b here e over = absurd cc
    stage_left (S.Begun c) b here e over =
        let eq : b ≡ c = cc in
        stage_begun c
        ∙ ap (λ (w : Bool). left_stage (l.is_test (x.head n)) w begun n m (stage_of (s.status m))) (sym (well_now l x plan laws s kept n c here (ap l.ended (sym eq) ∙ over)))
    stage_left (S.Closing fs c) b here e over = stage_put n (S.Finished (l.class_result fs c)) s.status m

  -- two states with equal stages and equal nodes of workers
  record SameStages (s t : State K V B F R) : Type 0 where
    stages : (n : ℕ) → stage_of (s.nodes.status n) ≡ stage_of (t.nodes.status n)
    busy : (w : ℕ) → s.busy w ≡ t.busy w

  same_put : {A : Type 0} (w : ℕ) (a : A) (f g : ℕ → A) → ((v : ℕ) → f v ≡ g v) → (v : ℕ) → put w a f v ≡ put w a g v
  same_put {A} w a f g h v = ap (λ (j : A). cond (eqb v w) a j) (h v)

  put_same : (n : ℕ) (a b : Status B F R) (f g : ℕ → Status B F R) → stage_of a ≡ stage_of b → ((m : ℕ) → stage_of (f m) ≡ stage_of (g m))
      → (m : ℕ) → stage_of (put n a f m) ≡ stage_of (put n b g m)
  put_same n a b f g e h m =
      stage_put n a f m ∙ ap (λ (j : Stage). cond (eqb m n) j (stage_of (f m))) e ∙ ap (λ (j : Stage). cond (eqb m n) (stage_of b) j) (h m) ∙ sym (stage_put n b g m)

  module _ (plan : SuiteLaws l x) (laws : BodyLaws l) (workers : ℕ) where
    -- a Step changes no stage
    step_stage : (s : State K V B F R) (w : ℕ) → is_accepted l x workers s (Step w) ≡ true → (m : ℕ) → stage_of ((after l x s (Step w)).nodes.status m) ≡ stage_of (s.nodes.status m)
    step_stage s w ok m =
        let h = step_told l x workers s w ok in
        subst (λ (o : Option ℕ). stage_of ((where_some o s.nodes (λ n. where_some (body_in (s.nodes.status n)) s.nodes (stepping l x n s.nodes))).status m) ≡ stage_of (s.nodes.status m)) (sym h.busy)
        (subst (λ (o : Option B). stage_of ((where_some o s.nodes (stepping l x h.node s.nodes)).status m) ≡ stage_of (s.nodes.status m)) (sym h.here)
        (unmoved stage_of h.node (with_body (s.nodes.status h.node) (l.step (chain x h.node) h.body s.nodes.flat).body) s.nodes.status
        (body_unseen stage_of (λ b c. refl) (λ fs b c. refl) (s.nodes.status h.node) (l.step (chain x h.node) h.body s.nodes.flat).body) m))

    leave_stage : (s : State K V B F R) → Kept l x s.nodes → (w n : ℕ) → s.busy w ≡ Some n → is_accepted l x workers s (Leave w) ≡ true → (m : ℕ)
        → stage_of ((after l x s (Leave w)).nodes.status m) ≡ left_stage (l.is_test (x.head n)) (opening_at l x n).well (stage_of (s.nodes.status n)) n m (stage_of (s.nodes.status m))
    leave_stage s kept w n at ok m =
        let h = leave_told l x workers s w ok in
        let same_node : h.has.node ≡ n = let e = h.has.busy in cc in
        subst (λ (o : Option ℕ). stage_of ((where_some o s.nodes (λ n. leaving l x n s.nodes (s.nodes.status n))).status m)
        ≡ left_stage (l.is_test (x.head n)) (opening_at l x n).well (stage_of (s.nodes.status n)) n m (stage_of (s.nodes.status m))) (sym at)
        (stage_left plan laws s.nodes kept n m (s.nodes.status n) h.has.body refl (ap (λ (j : ℕ). body_in (s.nodes.status j)) (sym same_node) ∙ h.has.here) h.over)

    -- the same event, on both sides
    same_event : (s t : State K V B F R) → Kept l x s.nodes → Kept l x t.nodes → SameStages s t → (e : Event)
        → is_accepted l x workers s e ≡ true → is_accepted l x workers t e ≡ true → SameStages (after l x s e) (after l x t e)
    same_event s t ks kt a (Enter w n) ok ok2 = record {
      stages = put_same n _ _ s.nodes.status t.nodes.status refl a.stages;
      busy = same_put w (Some n) s.busy t.busy a.busy;
    }
    same_event s t ks kt a (Shut w n) ok ok2 = record {
      stages = put_same n _ _ s.nodes.status t.nodes.status refl a.stages;
      busy = same_put w (Some n) s.busy t.busy a.busy;
    }
    same_event s t ks kt a (Step w) ok ok2 = record {
      stages = λ m. step_stage s w ok m ∙ a.stages m ∙ sym (step_stage t w ok2 m);
      busy = a.busy;
    }
    same_event s t ks kt a (Leave w) ok ok2 =
        let h = leave_told l x workers s w ok in
        let n = h.has.node in
        let test = l.is_test (x.head n) in
        let well = (opening_at l x n).well in
        record {
          stages = λ m.
              leave_stage s ks w n h.has.busy ok m
              ∙ ap (λ (j : Stage). left_stage test well j n m (stage_of (s.nodes.status m))) (a.stages n)
              ∙ ap (λ (j : Stage). left_stage test well (stage_of (t.nodes.status n)) n m j) (a.stages m)
              ∙ sym (leave_stage t kt w n (sym (a.busy w) ∙ h.has.busy) ok2 m);
          busy = same_put w None s.busy t.busy a.busy;
        }

    -- Steps on the left, and on the right
    step_left : (s t : State K V B F R) → SameStages s t → (w : ℕ) → is_accepted l x workers s (Step w) ≡ true → SameStages (after l x s (Step w)) t
    step_left s t a w ok = record { stages = λ m. step_stage s w ok m ∙ a.stages m; busy = a.busy }

    step_right : (s t : State K V B F R) → SameStages s t → (w : ℕ) → is_accepted l x workers t (Step w) ≡ true → SameStages s (after l x t (Step w))
    step_right s t a w ok = record { stages = λ m. a.stages m ∙ sym (step_stage t w ok m); busy = a.busy }

    parts : (t : State K V B F R) (f : Event) (fs : List Event) → is_run l x workers t (f ∷ fs) ≡ true → (is_accepted l x workers t f ≡ true) × (is_run l x workers (after l x t f) fs ≡ true)
    parts t f fs run = run_parts l x plan laws (is_accepted l x workers t f) (is_run l x workers (after l x t f) fs) run

    -- nothing but Steps on the right
    only_steps : (fs : List Event) (s t : State K V B F R) → SameStages s t → [] ≡ history_of fs → is_run l x workers t fs ≡ true → SameStages s (after_all_of l x t fs)
    only_steps [] s t a e run = a
    only_steps (Step w ∷ fs) s t a e run = let p = parts t (Step w) fs run in only_steps fs s (after l x t (Step w)) (step_right s t a w p.0) e p.1
    only_steps (Enter w n ∷ fs) s t a e run = absurd cc
    only_steps (Leave w ∷ fs) s t a e run = absurd cc
    only_steps (Shut w n ∷ fs) s t a e run = absurd cc

    -- the right side has come to the same event, and goes on from there
    record Met (s : State K V B F R) (e : Event) (rest fs : List Event) (t : State K V B F R) : Type 0 where
      state : State K V B F R
      events : List Event
      kept : Kept l x state.nodes
      stages : SameStages (after l x s e) state
      left : rest ≡ history_of events
      run : is_run l x workers state events ≡ true
      end : after_all_of l x t fs ≡ after_all_of l x state events

    met : (s t : State K V B F R) → Kept l x s.nodes → Kept l x t.nodes → SameStages s t → (e f : Event) (rest fs : List Event) → is_accepted l x workers s e ≡ true
        → (e ∷ rest) ≡ (f ∷ history_of fs) → is_run l x workers t (f ∷ fs) ≡ true → Met s e rest (f ∷ fs) t
    met s t ks kt a e f rest fs ok eq run =
        let p = parts t f fs run in
        let one : e ≡ f = cc in
        let more : rest ≡ history_of fs = cc in
        record {
          state = after l x t f;
          events = fs;
          kept = keeps_event l x plan laws workers t kt f p.0;
          stages = subst (λ (j : Event). SameStages (after l x s j) (after l x t f)) (sym one)
              (same_event s t ks kt a f (subst (λ (j : Event). is_accepted l x workers s j ≡ true) one ok) p.0);
          left = more;
          run = p.1;
          end = refl;
        }

    meets : (fs : List Event) (s t : State K V B F R) → Kept l x s.nodes → Kept l x t.nodes → SameStages s t → (e : Event) (rest : List Event) → is_accepted l x workers s e ≡ true
        → (e ∷ rest) ≡ history_of fs → is_run l x workers t fs ≡ true → Met s e rest fs t
    meets [] s t ks kt a e rest ok eq run = absurd cc
    meets (Step w ∷ fs) s t ks kt a e rest ok eq run =
        let p = parts t (Step w) fs run in
        let m = meets fs s (after l x t (Step w)) ks (keeps_event l x plan laws workers t kt (Step w) p.0) (step_right s t a w p.0) e rest ok eq p.1 in
        record { state = m.state; events = m.events; kept = m.kept; stages = m.stages; left = m.left; run = m.run; end = m.end }
    meets (Enter w n ∷ fs) s t ks kt a e rest ok eq run = met s t ks kt a e (Enter w n) rest fs ok eq run
    meets (Leave w ∷ fs) s t ks kt a e rest ok eq run = met s t ks kt a e (Leave w) rest fs ok eq run
    meets (Shut w n ∷ fs) s t ks kt a e rest ok eq run = met s t ks kt a e (Shut w n) rest fs ok eq run

    same_stages : (es fs : List Event) (s t : State K V B F R) → Kept l x s.nodes → Kept l x t.nodes → SameStages s t → history_of es ≡ history_of fs
        → is_run l x workers s es ≡ true → is_run l x workers t fs ≡ true → SameStages (after_all_of l x s es) (after_all_of l x t fs)
    same_stages [] fs s t ks kt a eq run run2 = only_steps fs s t a eq run2
    same_stages (Step w ∷ es) fs s t ks kt a eq run run2 =
        let p = parts s (Step w) es run in
        same_stages es fs (after l x s (Step w)) t (keeps_event l x plan laws workers s ks (Step w) p.0) kt (step_left s t a w p.0) eq p.1 run2
    same_stages (Enter w n ∷ es) fs s t ks kt a eq run run2 =
        let p = parts s (Enter w n) es run in
        let m = meets fs s t ks kt a (Enter w n) (history_of es) p.0 eq run2 in
        subst (λ (j : State K V B F R). SameStages (after_all_of l x (after l x s (Enter w n)) es) j) (sym m.end)
        (same_stages es m.events (after l x s (Enter w n)) m.state (keeps_event l x plan laws workers s ks (Enter w n) p.0) m.kept m.stages m.left p.1 m.run)
    same_stages (Leave w ∷ es) fs s t ks kt a eq run run2 =
        let p = parts s (Leave w) es run in
        let m = meets fs s t ks kt a (Leave w) (history_of es) p.0 eq run2 in
        subst (λ (j : State K V B F R). SameStages (after_all_of l x (after l x s (Leave w)) es) j) (sym m.end)
        (same_stages es m.events (after l x s (Leave w)) m.state (keeps_event l x plan laws workers s ks (Leave w) p.0) m.kept m.stages m.left p.1 m.run)
    same_stages (Shut w n ∷ es) fs s t ks kt a eq run run2 =
        let p = parts s (Shut w n) es run in
        let m = meets fs s t ks kt a (Shut w n) (history_of es) p.0 eq run2 in
        subst (λ (j : State K V B F R). SameStages (after_all_of l x (after l x s (Shut w n)) es) j) (sym m.end)
        (same_stages es m.events (after l x s (Shut w n)) m.state (keeps_event l x plan laws workers s ks (Shut w n) p.0) m.kept m.stages m.left p.1 m.run)

    pub same_results : (es fs : List Event) → SameHistory l x workers es fs → (n : ℕ)
        → result_of (after_all_of l x (first l x) es) n ≡ result_of (after_all_of l x (first l x) fs) n
    same_results es fs h n =
        let begun = keeps_first l x plan laws in
        let s = after_all_of l x (first l x) es in
        let t = after_all_of l x (first l x) fs in
        let ks = keeps_run l x plan laws workers es (first l x) begun h.left in
        let kt = keeps_run l x plan laws workers fs (first l x) begun h.right in
        let a = same_stages es fs (first l x) (first l x) begun begun (record { stages = λ m. refl; busy = λ w. refl }) h.same h.left h.right in
        elim (equal_or_not n 0) [
          | inl z ↦
              ap (λ (j : ℕ). result_of s j) z ∙ ap result_in ks.locked.root ∙ sym (ap result_in kt.locked.root) ∙ ap (λ (j : ℕ). result_of t j) (sym z)
          | inr nz ↦ results_equal (s.nodes.status n) (t.nodes.status n) (defined l x n) (a.stages n) (λ r e. ks.done n r nz e) (λ r e. kt.done n r nz e)
        ]
