-- A book after a Leave: it is a book with that event more.
use Rattle.std.proofs.Common.{◌≡◌, ◌≢◌, ◌⊎◌, ℕ, ◌<◌, ◌≤◌, ◌+◌, List, [], ◌∷◌, ◌++◌, Option, Some, None, Bool, true, false, length, not, inl, inr, refl, sym, ap, ap₂, ◌∙◌, subst, arith}
use Rattle.std.proofs.lemmas.List.{get_or-set_same, get_or-set_other, length-append, length-set}
use Rattle.iso_book.proofs.LeaveRuns.{GoOnByLeaves, LookOn, ResultsStay, at-leave, goes, has-body, looks-before, results-before, unrefused, busy-before, next, node-done, own, same-held, same-owner, same-phase, same-weight}
use Rattle.iso_book.proofs.LeaveStates.{EndsIn, IsFinishedBy, IsOpenedBy, begun-phase, begun-weight, body-going, body-weight, first-kind, first-left, last-left}
use Rattle.iso_book.proofs.Runs.{book_of}
use Rattle.iso_book.proofs.Weights.{among, one-less, weight-at}
use Rattle.iso_book.specs.Books.{BookView, IsBook, left_below, left_in, state_in, suite_in, weight, with_event}
use Rattle.iso_book.specs.Leaves.{MayBring, booking_in, home_after, is_last, is_of_worker, leave_refusal_in}
use Rattle.iso_book.specs.Progress.{HasGoneOn, has_come, is_under_way}
use Rattle.iso_isolation.proofs.Changes.{equal_or_not}
use Rattle.iso_isolation.proofs.Statuses.{body_held}
use Rattle.iso_isolation.specs.Events as E
use Rattle.iso_isolation.specs.Events.{after, ended_well, leaving, where_some}
use Rattle.iso_isolation.specs.Histories.{IsHistory}
use Rattle.iso_isolation.specs.States as S
use Rattle.iso_isolation.specs.States.{body_in, is_closing, is_finished, is_held}
use Rattle.iso_isolation.specs.Suites.{Suite}
use Rattle.iso_lifecycle.specs.DoneViews.{DoneView}
use Rattle.iso_lifecycle.specs.ResultViews.{CanPut, ResultsView, is_barring, with_done, with_done_of}
use Rattle.iso_lifecycle.specs.Subjects.{is_kind_of, started, subject}
use Rattle.iso_lifecycle.specs.declared.kind.BodyKind.{BodyKind}
use Rattle.iso_lifecycle.specs.declared.kind.BodyKind.TheVariants as K
use Rattle.iso_locks.proofs.KeyLemmas.{number-of-key, written-is}
use Rattle.iso_locks.specs.Moves.{is_written}
use Rattle.iso_locks.specs.Trays.{TrayView, has_at, has_value, is_lent, key_at}
use Rattle.iso_locks.specs.Vaults.{CanTakeBack, VaultView}
use Rattle.iso_model.specs.Bodies.{Stage, is_ended}
use Rattle.iso_model.specs.Rights.{is_writable}
use Rattle.iso_model.specs.declared.resource.Resource.{Resource}
use Rattle.iso_plan.specs.KeyTable.{keys}
use Rattle.iso_plan.specs.Locks.{locks, taken}
use Rattle.iso_plan.specs.Paths.{IsTree, row_at}
use Rattle.iso_plan.specs.Planned.{Planned}
use Rattle.iso_plan.specs.RowView.{tree_of}
use Rattle.iso_settings.specs.Worlds.{Start}
use Rattle.iso_standing.proofs.EventLists.{map-append}
use Rattle.iso_standing.proofs.Looks.{finished-is, rest-is}
use Rattle.iso_standing.specs.CodeEvents.{events_of}
use Rattle.iso_standing.specs.Phases.{phase_of}
use Rattle.iso_standing.specs.ResultStates.{AreResultsOf, AtLeave}
use Rattle.iso_standing.specs.Standings.{EndsWellAs, HasBody, LooksLike, OfSame, Standing, after_in}
use Rattle.iso_standing.specs.UnderWay.{is_after_all}
use Rattle.iso_standing.specs.declared.phase.Phase.TheVariants as P
use Rattle.iso_standing.specs.declared.event.Event.{Event}
use Rattle.iso_standing.specs.declared.event.Event.TheVariants as Code
use Rattle.iso_suites.specs.PlanSuites.{head_of, suite_of}
use Rattle.iso_suites.specs.ScriptLanguage.{Head, is_of_test, scripts}
use Rattle.iso_suites.specs.SuiteStates.{GoesOnByLeave, RunNodes, RunState, suite_at}

-- what is put changes neither plan nor start
pub put-plan : (k : BodyKind) (n : ℕ) (r : ResultsView) → (with_done_of k n r).plan ≡ r.plan
put-plan K.BeforeAll n r = refl
put-plan K.Test n r = refl
put-plan K.AfterAll n r = refl

put-start : (k : BodyKind) (n : ℕ) (r : ResultsView) → (with_done_of k n r).start ≡ r.start
put-start K.BeforeAll n r = refl
put-start K.Test n r = refl
put-start K.AfterAll n r = refl

home-plan : (k : BodyKind) (n : ℕ) (a : VaultView) → (home_after k n a).plan ≡ a.plan
home-plan K.BeforeAll n a = refl
home-plan K.Test n a = refl
home-plan K.AfterAll n a = refl

home-world : (k : BodyKind) (n : ℕ) (a : VaultView) → (home_after k n a).world ≡ a.world
home-world K.BeforeAll n a = refl
home-world K.Test n a = refl
home-world K.AfterAll n a = refl

home-fits : (k : BodyKind) (n : ℕ) (a : VaultView) → length (home_after k n a).lent ≡ length a.lent
home-fits K.BeforeAll n a = refl
home-fits K.Test n a = length-set a.lent n false
home-fits K.AfterAll n a = length-set a.lent n false

home-other : (k : BodyKind) (n : ℕ) (a : VaultView) (m : ℕ) → (m ≡ n → ⊥) → is_lent (home_after k n a).lent m ≡ is_lent a.lent m
home-other K.BeforeAll n a m ne = refl
home-other K.Test n a m ne = get_or-set_other a.lent n m false false ne
home-other K.AfterAll n a m ne = get_or-set_other a.lent n m false false ne

home-here : (k : BodyKind) (n : ℕ) (a : VaultView) → (k ≡ K.BeforeAll → ⊥) → n < length a.lent → is_lent (home_after k n a).lent n ≡ false
home-here K.BeforeAll n a last less = absurd (last refl)
home-here K.Test n a last less = get_or-set_same a.lent n false false less
home-here K.AfterAll n a last less = get_or-set_same a.lent n false false less

-- a `before_all`, or a last body
data First (k : BodyKind) : Type 0 where
  first : k ≡ K.BeforeAll → First k
  last : (k ≡ K.BeforeAll → ⊥) → is_last k ≡ true → First k

which : (k : BodyKind) → First k
which K.BeforeAll = first refl
which K.Test = last (λ e. cc) refl
which K.AfterAll = last (λ e. cc) refl

-- the law of `results_follow_leaves` on how a `before_all` ended
abbrev pub TellsIfWell : Planned → Type 0
TellsIfWell plan =
    (world : Start) (r : ResultsView) (s : RunState) (n : ℕ) (b : Stage) → AtLeave plan world r s n b K.BeforeAll → is_ended b ≡ true
    → ended_well scripts (suite_at plan world) n b s.nodes ≡ not (is_barring (with_done_of K.BeforeAll n r) n)

-- and those on what may be put and what then are the results
abbrev pub PutsAtLeave : Planned → Type 0
PutsAtLeave plan =
    (world : Start) (r : ResultsView) (s : RunState) (n : ℕ) (b : Stage) (kind : BodyKind) → AtLeave plan world r s n b kind
    → CanPut (record { subject = subject plan world n; kind = kind }) r

abbrev pub ResultsAtLeave : Planned → Type 0
ResultsAtLeave plan =
    (world : Start) (r : ResultsView) (s : RunState) (n : ℕ) (b : Stage) (kind : BodyKind) → AtLeave plan world r s n b kind → is_ended b ≡ true
    → AreResultsOf (with_done_of kind n r) (leaving scripts (suite_at plan world) n s.nodes (s.nodes.status n))

-- A book at a Leave that nothing refuses but its tray: the state once the body's steps are made, which its standing and its results are of
-- as well.
pub record AtBook (b : BookView) (v : Standing) (vault : VaultView) (r : ResultsView) (room w : ℕ) (d : DoneView) : Type 0 where
  pub is : IsBook b v vault r room
  pub allowed : booking_in b w ≡ None
  pub mine : is_of_worker b w d ≡ true
  pub tree : IsTree (tree_of b.plan)
  pub goes : GoesOnByLeave b.plan b.world b.workers (events_of b.history) w
  pub like : LooksLike v goes.before
  pub are : AreResultsOf r goes.before.nodes

pub at-book : (b : BookView) (v : Standing) (vault : VaultView) (r : ResultsView) (room w : ℕ) (d : DoneView) → IsBook b v vault r room
    → leave_refusal_in b w d ≡ None → IsTree (tree_of b.plan) → GoOnByLeaves b.plan → LookOn → ResultsStay b.plan → AtBook b v vault r room w d
at-book b v vault r room w d is none tree on look stay =
    let allowed = (unrefused b w d none).0 in
    let g = goes b v vault r room is w allowed on in
    record {
      is = is;
      allowed = allowed;
      mine = (unrefused b w d none).1;
      tree = tree;
      goes = g;
      like = looks-before b v vault r room is w allowed g look;
      are = results-before b v vault r room is w allowed g stay;
    }

module _ (b : BookView) (v : Standing) (vault : VaultView) (r : ResultsView) (room w : ℕ) (d : DoneView) (a : AtBook b v vault r room w d) where
  abbrev is : IsBook b v vault r room
  is = a.is

  abbrev allowed : booking_in b w ≡ None
  allowed = a.allowed

  abbrev tree : IsTree (tree_of b.plan)
  tree = a.tree

  abbrev pub g : GoesOnByLeave b.plan b.world b.workers (events_of b.history) w
  g = a.goes

  abbrev like : LooksLike v g.before
  like = a.like

  abbrev mine : is_of_worker b w d ≡ true
  mine = a.mine

  abbrev x : Suite Head (List ℕ) Resource
  x = suite_in b

  abbrev s : RunState
  s = state_in b

  abbrev p : RunState
  p = g.before

  abbrev t : RunState
  t = after scripts x g.before (E.Leave w)

  abbrev n : ℕ
  n = (own b v vault r room is w allowed).node

  abbrev count : ℕ
  count = length b.plan.rows

  pub there : AtLeave b.plan b.world r p n g.body d.kind
  there = at-leave b v vault r room is w allowed g like tree d mine a.are

  -- its standing has the body
  pub has-its-body : HasBody v w
  has-its-body = has-body b v vault r room is w allowed tree

  nodes-left : t.nodes ≡ leaving scripts x n p.nodes (p.nodes.status n)
  nodes-left =
      ap (λ (o : Option ℕ). where_some o p.nodes (λ m. leaving scripts x m p.nodes (p.nodes.status m))) (busy-before b v vault r room is w allowed g like)

  finished : (d.kind ≡ K.BeforeAll → ⊥) → IsFinishedBy b.plan b.world n p.nodes t.nodes
  finished ends =
      subst (λ (q : RunNodes). IsFinishedBy b.plan b.world n p.nodes q) (sym nodes-left)
      (last-left b.plan b.world n p.nodes d.kind g.body ends there.fits (p.nodes.status n) there.body there.closing)

  opened : d.kind ≡ K.BeforeAll → IsOpenedBy b.plan b.world n p.nodes t.nodes
  opened begins =
      subst (λ (q : RunNodes). IsOpenedBy b.plan b.world n p.nodes q) (sym nodes-left)
      (first-left b.plan b.world n p.nodes g.body
      (subst (λ (k : BodyKind). is_kind_of k (row_at (tree_of b.plan) n).kind ≡ true) begins there.fits)
      (body_held (p.nodes.status n) g.body there.body) (p.nodes.status n) there.body (ap is_after_all (sym begins) ∙ there.closing))

  held : (m : ℕ) → m < count → is_held (p.nodes.status m) ≡ is_held (s.nodes.status m)
  held = same-held b v vault r room is w allowed g like

  weights : (m : ℕ) → m < count → weight-at p m ≡ weight-at s m
  weights = same-weight b v vault r room is w allowed g like

  -- the vault has lent what is held in the state after it
  lent-by : First d.kind → (m : ℕ) → 0 < m → m < count → is_lent (home_after d.kind n vault).lent m ≡ is_held (t.nodes.status m)
  lent-by (first begins) m pos h =
      ap (λ (k : BodyKind). is_lent (home_after k n vault).lent m) begins ∙ is.lent m pos h ∙ sym (held m h) ∙ sym ((opened begins).held m)
  lent-by (last ends own_last) m pos h = elim (equal_or_not m n) [
    | inl same ↦
        let fit = is.lent_fits in
        let inside = there.within in
        subst (λ (j : ℕ). is_lent (home_after d.kind n vault).lent j ≡ is_held (t.nodes.status j)) (sym same)
        (home-here d.kind n vault ends (omega arith) ∙ sym (finished ends).here)
    | inr ne ↦
        home-other d.kind n vault m ne ∙ is.lent m pos h ∙ sym (held m h) ∙ sym (ap is_held ((finished ends).there m ne))
  ]

  -- fewer events may still come
  fewer-by : First d.kind → left_below t count < left_below s count
  fewer-by (first begins) =
      let o = opened begins in
      let was : weight-at p n ≡ 3 = begun-weight (p.nodes.status n) g.body there.body (sym there.closing ∙ ap is_after_all begins) in
      let here : weight-at t n < weight-at s n = let most = o.weight_here in let same = weights n there.within in omega arith in
      one-less s t count n there.within here (λ m h. elim (equal_or_not m n) [
        | inl same ↦ subst (λ (j : ℕ). weight-at t j ≤ weight-at s j) (sym same) (omega (arith, here))
        | inr ne ↦ let less = o.no_more m ne in let same = weights m h in omega arith
      ])
  fewer-by (last ends own_last) =
      let f = finished ends in
      let was : 0 < weight-at p n = body-weight (p.nodes.status n) g.body there.body in
      let here : weight-at t n < weight-at s n = let none = f.weight_here in let same = weights n there.within in omega arith in
      one-less s t count n there.within here (λ m h. elim (equal_or_not m n) [
        | inl same ↦ subst (λ (j : ℕ). weight-at t j ≤ weight-at s j) (sym same) (omega (arith, here))
        | inr ne ↦
            let stays : weight-at t m ≡ weight-at p m = ap (λ (q : _). weight (phase_of q)) (f.there m ne) in
            let same = weights m h in
            omega arith
      ])

  -- who was entered but the node has come as far as before
  phase : (m : ℕ) → m < count → phase_of (p.nodes.status m) ≡ phase_of (s.nodes.status m)
  phase = same-phase b v vault r room is w allowed g like

  there-by : First d.kind → (m : ℕ) → (m ≡ n → ⊥) → phase_of (p.nodes.status m) ≢ P.Waiting → t.nodes.status m ≡ p.nodes.status m
  there-by (first begins) m ne entered = (opened begins).there m ne entered
  there-by (last ends own_last) m ne entered = (finished ends).there m ne

  -- what waited waits, or is finished since the node around it was barred
  abbrev WaitsOrEnds : ℕ → Type 0
  WaitsOrEnds m = (phase_of (t.nodes.status m) ≡ P.Waiting) ⊎ EndsIn b.plan b.world n p.nodes t.nodes m

  waits-by : First d.kind → (m : ℕ) → (m ≡ n → ⊥) → phase_of (p.nodes.status m) ≡ P.Waiting → WaitsOrEnds m
  waits-by (first begins) m ne waited = (opened begins).waits m ne waited
  waits-by (last ends own_last) m ne waited = inl (ap phase_of ((finished ends).there m ne) ∙ waited)

  come-first : d.kind ≡ K.BeforeAll → has_come d.kind (phase_of (t.nodes.status n)) ≡ true
  come-first begins =
      subst (λ (k : BodyKind). has_come k (phase_of (t.nodes.status n)) ≡ true) (sym begins) (sym (rest-is (t.nodes.status n)) ∙ (opened begins).rests)

  come-last : (k : BodyKind) → is_last k ≡ true → is_finished (t.nodes.status n) ≡ true → has_come k (phase_of (t.nodes.status n)) ≡ true
  come-last K.BeforeAll l e = absurd cc
  come-last K.Test l e = sym (finished-is (t.nodes.status n)) ∙ e
  come-last K.AfterAll l e = sym (finished-is (t.nodes.status n)) ∙ e

  come-by : First d.kind → has_come d.kind (phase_of (t.nodes.status n)) ≡ true
  come-by (first begins) = come-first begins
  come-by (last ends own_last) = come-last d.kind own_last (finished ends).ended

  goes-here : HasGoneOn d.kind n b (with_event b (Code.Leave w))
  goes-here =
      let state : state_in (with_event b (Code.Leave w)) ≡ t = next b v vault r room is w allowed g like in
      let inside = there.within in
      record {
        within = inside;
        going = ap is_under_way (sym (phase n inside)) ∙ body-going (p.nodes.status n) g.body there.body;
        before = λ begins.
            sym (phase n inside) ∙ begun-phase (p.nodes.status n) g.body there.body (sym there.closing ∙ ap is_after_all begins);
        phase = ap (λ (q : RunState). has_come d.kind (phase_of (q.nodes.status n))) state ∙ come-by (which d.kind);
        owner = ap (λ (q : RunState). q.owner n) state ∙ same-owner b v vault r room is w allowed g like n inside;
        others = record {
          phases = λ m h ne entered.
              ap (λ (q : RunState). phase_of (q.nodes.status m)) state
              ∙ ap (λ (q : _). phase_of q) (there-by (which d.kind) m ne (λ waits. entered (sym (phase m h) ∙ waits)))
              ∙ phase m h;
          owners = λ m h ne entered. ap (λ (q : RunState). q.owner m) state ∙ same-owner b v vault r room is w allowed g like m h;
        };
        waiting = λ m h ne waited.
            elim (waits-by (which d.kind) m ne (phase m h ∙ waited)) [
              | inl waits ↦ inl (ap (λ (q : RunState). phase_of (q.nodes.status m)) state ∙ waits)
              | inr ends ↦
                  inr (record {
                    finished = ap (λ (q : RunState). phase_of (q.nodes.status m)) state ∙ ends.ended;
                    inside = ends.inside;
                    barred = ap (λ (q : RunState). phase_of (q.nodes.status n)) state ∙ ends.barred;
                  })
            ];
      }

  pub goes-on : HasGoneOn d.kind d.subject.node b (with_event b (Code.Leave w))
  goes-on = subst (λ (m : ℕ). HasGoneOn d.kind m b (with_event b (Code.Leave w))) (node-done b v vault r room is w allowed tree d mine) goes-here

  -- there is room for it
  pub has-room : length b.history < room
  has-room =
      let was : 0 < weight-at p n = body-weight (p.nodes.status n) g.body there.body in
      let same = weights n there.within in
      let some = among s count n there.within in
      let all = is.bounded in
      let most = is.room in
      omega arith

  root-lent : is_lent (home_after d.kind n vault).lent 0 ≡ false
  root-lent = let pos = there.inner in home-other d.kind n vault 0 (λ e. absurd (omega arith)) ∙ is.root

  -- how its standing and its results have taken the Leave
  module _ (law : ResultsAtLeave b.plan) (u : Standing) (same : OfSame v u) (looks : LooksLike u (after_in v (started b.world) p (E.Leave w))) where
    results : AreResultsOf (with_done_of d.kind n r) (leaving scripts x n p.nodes (p.nodes.status n))
    results = law b.world r p n g.body d.kind there g.over

    after-looks : LooksLike u t
    after-looks = subst (λ (j : Planned). LooksLike u (after scripts (suite_of (tree_of j) j.settings (started b.world)) p (E.Leave w))) is.standing_plan looks

    state : state_in (with_event b (Code.Leave w)) ≡ t
    state = next b v vault r room is w allowed g like

    left-here : IsBook (with_event b (Code.Leave w)) u (home_after d.kind n vault) (with_done_of d.kind n r) room
    left-here = record {
      history = subst (λ (es : List E.Event). IsHistory scripts x b.workers es) (sym (map-append b.history (Code.Leave w ∷ []))) g.history;
      standing_plan = same.plan ∙ is.standing_plan;
      workers = same.workers ∙ is.workers;
      stands = subst (λ (q : RunState). LooksLike u q) (sym state) after-looks;
      vault_plan = home-plan d.kind n vault ∙ is.vault_plan;
      vault_world = home-world d.kind n vault ∙ is.vault_world;
      lent_fits = home-fits d.kind n vault ∙ is.lent_fits;
      root = root-lent;
      lent = λ m pos h. lent-by (which d.kind) m pos h ∙ ap (λ (q : RunState). is_held (q.nodes.status m)) (sym state);
      results_plan = put-plan d.kind n r ∙ is.results_plan;
      results_world = put-start d.kind n r ∙ is.results_world;
      results_are =
          subst (λ (q : RunState). AreResultsOf (with_done_of d.kind n r) q.nodes) (sym state)
          (subst (λ (q : RunNodes). AreResultsOf (with_done_of d.kind n r) q) (sym nodes-left) results);
      bounded =
          let left : left_in (with_event b (Code.Leave w)) ≡ left_below t count = ap (λ (q : RunState). left_below q count) state in
          let more : length (b.history ++ Code.Leave w ∷ []) ≡ length b.history + 1 = length-append b.history (Code.Leave w ∷ []) in
          let all = is.bounded in
          let less = fewer-by (which d.kind) in
          omega arith;
      room = is.room;
    }

    -- as of the node that the body was brought for
    left : IsBook (with_event b (Code.Leave w)) u (home_after d.kind d.subject.node vault) (with_done d r) room
    left =
        subst (λ (m : ℕ). IsBook (with_event b (Code.Leave w)) u (home_after d.kind m vault) (with_done_of d.kind m r) room)
        (node-done b v vault r room is w allowed tree d mine) left-here

    pub view-left : (items : List Event) → items ≡ b.history ++ Code.Leave w ∷ [] → book_of b.plan b.world b.workers u.stopped items ≡ with_event b (Code.Leave w)
    view-left items all =
        ap (λ (es : List Event). book_of b.plan b.world b.workers u.stopped es) all
        ∙ ap (λ (j : Bool). book_of b.plan b.world b.workers j (b.history ++ Code.Leave w ∷ [])) (sym after-looks.stopped ∙ like.stopped ∙ sym is.stands.stopped)

    pub left-as : (items : List Event) → items ≡ b.history ++ Code.Leave w ∷ []
        → IsBook (book_of b.plan b.world b.workers u.stopped items) u (home_after d.kind d.subject.node vault) (with_done d r) room
    left-as items all =
        subst (λ (c : BookView). IsBook c u (home_after d.kind d.subject.node vault) (with_done d r) room) (sym (view-left items all)) left

  -- whether its `before_all` ended well, as the results tell
  pub ends-as : TellsIfWell b.plan → (well : Bool) → well ≡ not (is_barring (with_done d r) d.subject.node) → EndsWellAs v p w well
  ends-as law well tells start m e busy begun class =
      let busy_here = busy-before b v vault r room is w allowed g like in
      let same : m ≡ n = cc in
      let node : n ≡ d.subject.node = node-done b v vault r room is w allowed tree d mine in
      let begun_here : p.nodes.status n ≡ S.Begun e = ap p.nodes.status (sym same) ∙ begun in
      let shown : body_in (p.nodes.status n) ≡ Some e = ap body_in begun_here in
      let stage : g.body ≡ e = let under = there.body in cc in
      let unclosed : is_closing (p.nodes.status n) ≡ false = ap is_closing begun_here in
      let no_test : is_of_test (head_of (row_at (tree_of b.plan) n).kind) ≡ false =
      sym (ap₂ (λ (j : Planned) (i : ℕ). is_of_test (head_of (row_at (tree_of j) i).kind)) is.standing_plan same) ∙ class in
      let begins : d.kind ≡ K.BeforeAll = first-kind d.kind (row_at (tree_of b.plan) n).kind there.fits (there.closing ∙ unclosed) no_test in
      ap (λ (j : Planned). ended_well scripts (suite_of (tree_of j) j.settings start) m e p.nodes) is.standing_plan
      ∙ ap₂ (λ (i : ℕ) (j : Stage). ended_well scripts x i j p.nodes) same (sym stage)
      ∙ law b.world r p n g.body (subst (λ (k : BodyKind). AtLeave b.plan b.world r p n g.body k) begins there) g.over
      ∙ ap₂ (λ (k : BodyKind) (i : ℕ). not (is_barring (with_done_of k i r) i)) (sym begins) node
      ∙ sym tells

  -- what it came to may be put
  pub can-put : PutsAtLeave b.plan → d.subject.plan ≡ b.plan → d.subject.start ≡ b.world → CanPut d r
  can-put law plan start =
      let node = node-done b v vault r room is w allowed tree d mine in
      let P : Planned → Type 0 = λ j. CanPut (record { subject = subject j d.subject.start d.subject.node; kind = d.kind }) r in
      let Q : Start → Type 0 = λ j. CanPut (record { subject = subject b.plan j d.subject.node; kind = d.kind }) r in
      let R : ℕ → Type 0 = λ j. CanPut (record { subject = subject b.plan b.world j; kind = d.kind }) r in
      subst P (sym plan) (subst Q (sym start) (subst R node (law b.world r p n g.body d.kind there)))

  -- and the node may be taken back where it is the last of it
  pub can-take-back : (q : TrayView) → q.plan ≡ b.plan → q.world ≡ b.world → is_lent q.lent d.subject.node ≡ true → MayBring d q
      → ((m : ℕ) (k : List ℕ) → is_lent q.lent m ≡ true → is_writable (taken (tree_of q.plan) m k) ≡ true → has_value q k ≡ true)
      → is_last d.kind ≡ true → CanTakeBack d.subject.node vault q
  can-take-back q plan world holds may finds own_last =
      let node : n ≡ d.subject.node = node-done b v vault r room is w allowed tree d mine in
      let of_vault : q.plan ≡ vault.plan = plan ∙ sym is.vault_plan in
      let rows = ap (λ (j : Planned). length j.rows) is.vault_plan in
      let inside = there.within in
      record {
        node = omega arith;
        plan = of_vault;
        world = world ∙ sym is.vault_world;
        lent =
            ap (is_lent vault.lent) (sym node) ∙ is.lent n there.inner there.within ∙ sym (held n there.within)
            ∙ body_held (p.nodes.status n) g.body there.body;
        holds = holds;
        at_start = λ i less written.
            let less_here : i < length (keys (tree_of q.plan)) = subst (λ (j : Planned). i < length (keys (tree_of j))) (sym of_vault) less in
            let writes : is_written (locks (tree_of q.plan) d.subject.node) i ≡ true =
            subst (λ (j : Planned). is_written (locks (tree_of j) d.subject.node) i ≡ true) (sym of_vault) written in
            let key = key_at (tree_of q.plan) i in
            let found : has_value q key ≡ true = finds d.subject.node key holds (sym (written-is (tree_of q.plan) d.subject.node i less_here) ∙ writes) in
            may.at_start own_last i less_here writes (sym (ap (has_at q.values) (number-of-key (tree_of q.plan) i less_here)) ∙ found);
      }
