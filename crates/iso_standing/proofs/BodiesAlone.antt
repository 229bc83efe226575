-- Bodies of a run begin and stand where the definitions of scripts say, as those of their chains alone.
use Rattle.std.proofs.Common.{◌≡◌, ℕ, zero, suc, ◌<◌, List, ◌∷◌, ◌++◌, length, map, Option, Some, None, Bool, true, false, is_some, refl, subst, ap, sym, ◌∙◌, arith}
use Rattle.iso_suites.proofs.AloneRuns.{OpeningOf, classes-heads, openings, told}
use Rattle.iso_standing.proofs.Looks.{nodes-are}
use Rattle.iso_suites.proofs.PlanChains.{heads-at}
use Rattle.iso_suites.proofs.PlanOpenings.{enclosing-is, kept}
use Rattle.iso_suites.proofs.SuiteLaws.{chain-rights, positive}
use Rattle.iso_suites.specs.PlanSuites.{head_of}
use Rattle.iso_standing.specs.ResultStates.{AreResultsOf}
use Rattle.iso_suites.specs.ScriptLanguage.{Head, chain_rights, closing, entering, gone_on, of_class, of_test, scripts}
use Rattle.iso_suites.specs.SuiteStates.{RunState, IsReached, suite_at}
use Rattle.iso_standing.specs.UnderWay.{AreBodiesOf, IsUnderWay, body_at, is_after_all}
use Rattle.iso_isolation.proofs.Bodies.{reach}
use Rattle.iso_isolation.proofs.Changes.{put_here}
use Rattle.iso_isolation.proofs.Invariant.{Kept, source}
use Rattle.iso_isolation.proofs.Openings.{opening_at}
use Rattle.iso_isolation.proofs.Statuses.{body_held, open_rests, rest_frames, rest_held}
use Rattle.iso_isolation.specs.Alone as L
use Rattle.iso_isolation.specs.Events as E
use Rattle.iso_isolation.specs.Languages.{Progress}
use Rattle.iso_isolation.specs.States.{Begun, Closing, body_in, is_at_rest, is_closing, is_open}
use Rattle.iso_isolation.specs.Suites.{Suite, chain}
use Rattle.iso_lifecycle.specs.BodyViews.{Stands, kind_of_body, stage_of_body, subject_of}
use Rattle.iso_lifecycle.specs.ResultViews.{AreOpened, ResultsView}
use Rattle.iso_lifecycle.specs.Subjects.{Subject, begun, begun_closing, begun_opening, begun_testing, enclosing, is_kind_of, opening_of, reached, rights_of_subject, started, subject}
use Rattle.iso_lifecycle.specs.declared.body.Body.{Body}
use Rattle.iso_lifecycle.specs.declared.kind.BodyKind.{BodyKind}
use Rattle.iso_lifecycle.specs.declared.kind.BodyKind.TheVariants.{BeforeAll, Test, AfterAll}
use Rattle.iso_model.specs.Bodies.{Going, Stage, body_steps}
use Rattle.iso_model.specs.Chains.{ClassHead, TestHead}
use Rattle.iso_model.specs.Openings as M
use Rattle.iso_model.specs.Openings.{Frame}
use Rattle.iso_model.specs.Resources.{Resources}
use Rattle.iso_model.specs.Rights.{Rights, is_readable}
use Rattle.iso_model.specs.declared.resource.Resource.{Resource}
use Rattle.iso_plan.proofs.PathLemmas.{along, chain-step, path-root, path-step}
use Rattle.iso_plan.specs.NodeChains.{chain_classes, chain_test, class_heads, node_rights, own_test}
use Rattle.iso_plan.specs.Paths.{IsTree, parent, path, row_at}
use Rattle.iso_plan.specs.Planned.{Planned}
use Rattle.iso_plan.specs.RowView.{tree_of}
use Rattle.iso_plan.specs.Tree.{Kind, root, class_node, test_node, Row}
use Rattle.iso_settings.specs.Worlds.{Start}

abbrev heads : List ClassHead → List Head
heads cs = map of_class cs

-- so many steps of a chain's body are those of its rights
steps-alone : (hs : List Head) (i : ℕ) (g : Going) → reach scripts hs i (gone_on g) ≡ gone_on (body_steps (chain_rights hs) i g)
steps-alone hs zero g = refl
steps-alone hs (suc i) g = ap (λ (p : Progress Stage Resources). scripts.step hs p.body p.content) (steps-alone hs i g)

-- the body with which the innermost of a chain is entered, and that with which it is closed, on what an opening left
abbrev entered_on : List Head → OpeningOf → Progress Stage Resources
entered_on hs o = record { body = entering hs o.frames; content = o.content }

abbrev closed_on : List Head → OpeningOf → Progress Stage Resources
closed_on hs o = record { body = closing hs o.frames; content = o.content }

-- they are those of the definitions of scripts
class-entered : (c : ClassHead) (cs : List ClassHead) (o : M.Opening) → entered_on (of_class c ∷ heads cs) (told o) ≡ gone_on (begun_opening (c ∷ cs) o)
class-entered c cs o = ap (λ (ds : List ClassHead). gone_on (begun_opening (c ∷ ds) o)) (classes-heads cs)

class-closed : (c : ClassHead) (cs : List ClassHead) (o : M.Opening) → closed_on (of_class c ∷ heads cs) (told o) ≡ gone_on (begun_closing (c ∷ cs) o)
class-closed c cs o = ap (λ (ds : List ClassHead). gone_on (begun_closing (c ∷ ds) o)) (classes-heads cs)

test-entered : (t : TestHead) (cs : List ClassHead) (o : M.Opening) → entered_on (of_test t ∷ heads cs) (told o) ≡ gone_on (begun_testing (Some t) cs o)
test-entered t cs o = ap (λ (ds : List ClassHead). gone_on (begun_testing (Some t) ds o)) (classes-heads cs)

-- where a body begins: an `after_all` on its class's own opening, any other on the outer one, that of the node which its node stands in
abbrev starts_on : Bool → List Head → OpeningOf → OpeningOf → Progress Stage Resources
starts_on true hs own outer = closed_on hs own
starts_on false hs own outer = entered_on hs outer

abbrev begins : BodyKind → Option TestHead → List ClassHead → Resources → M.Opening → Going
begins BeforeAll t cs m outer = begun_opening cs outer
begins Test t cs m outer = begun_testing t cs (M.opening cs m)
begins AfterAll t cs m outer = begun_closing cs (M.opening cs m)

begins-is : (plan : Planned) (world : Start) (kind : BodyKind) (n : ℕ)
    → begun kind (subject plan world n) ≡ begins kind (chain_test (tree_of plan) n) (chain_classes (tree_of plan) n) (started world) (opening_of (enclosing (subject plan world n)))
begins-is plan world BeforeAll n = refl
begins-is plan world Test n = refl
begins-is plan world AfterAll n = refl

by-kind : (kind : BodyKind) (k : Kind) (cs : List ClassHead) (m : Resources) → is_kind_of kind k ≡ true
    → starts_on (is_after_all kind) (head_of k ∷ heads cs) (L.opening scripts (head_of k ∷ heads cs) m) (L.opening scripts (heads cs) m)
    ≡ gone_on (begins kind (own_test k) (class_heads k ++ cs) m (M.opening cs m))
by-kind BeforeAll root cs m e = absurd (cc)
by-kind Test root cs m e = absurd (cc)
by-kind AfterAll root cs m e = absurd (cc)
by-kind BeforeAll (class_node isolated c) cs m e = ap (entered_on (of_class c ∷ heads cs)) (openings cs m) ∙ class-entered c cs (M.opening cs m)
by-kind Test (class_node isolated c) cs m e = absurd (cc)
by-kind AfterAll (class_node isolated c) cs m e = ap (closed_on (of_class c ∷ heads cs)) (openings (c ∷ cs) m) ∙ class-closed c cs (M.opening (c ∷ cs) m)
by-kind BeforeAll (test_node t) cs m e = absurd (cc)
by-kind Test (test_node t) cs m e = ap (entered_on (of_test t ∷ heads cs)) (openings cs m) ∙ test-entered t cs (M.opening cs m)
by-kind AfterAll (test_node t) cs m e = absurd (cc)

module _ (plan : Planned) (world : Start) (t : IsTree (tree_of plan)) where
  abbrev tree : List Row
  tree = tree_of plan

  abbrev start : Resources
  start = started world

  abbrev x : Suite Head (List ℕ) Resource
  x = suite_at plan world

  nonzero : (n : ℕ) → 0 < n → n ≡ 0 → ⊥
  nonzero n pos e = absurd (omega arith)

  in-tree : (n : ℕ) → n < length plan.rows → n < length tree
  in-tree n h = let e = nodes-are plan in omega arith

  -- the chain of the node that a node stands in, and its own
  outer-chain : (n : ℕ) → 0 < n → n < length tree → chain x (parent tree n) ≡ heads (chain_classes tree (parent tree n))
  outer-chain n pos inside =
      let below : parent tree n < n = t.below n pos in
      heads-at tree t plan.settings start (parent tree n) (omega arith) (t.inner n pos)

  own-chain : (n : ℕ) → 0 < n → n < length tree → chain x n ≡ head_of (row_at tree n).kind ∷ heads (chain_classes tree (parent tree n))
  own-chain n pos inside =
      ap (map x.head) (path-step tree t.below n pos) ∙ ap (λ (hs : List Head). head_of (row_at tree n).kind ∷ hs) (outer-chain n pos inside)

  source-is : (j : Bool) (n : ℕ) → source scripts x n j ≡ starts_on j (chain x n) (L.opening scripts (chain x n) start) (L.opening scripts (chain x (parent tree n)) start)
  source-is true n = refl
  source-is false n = refl

  -- where a body of a run begins, a body of its chain alone begins
  starts : (kind : BodyKind) (n : ℕ) → 0 < n → n < length tree → is_kind_of kind (row_at tree n).kind ≡ true
      → source scripts x n (is_after_all kind) ≡ gone_on (begun kind (subject plan world n))
  starts kind n pos inside fits =
      let j = is_after_all kind in
      let k = (row_at tree n).kind in
      let cs = chain_classes tree (parent tree n) in
      source-is j n
      ∙ ap (λ (hs : List Head). starts_on j hs (L.opening scripts hs start) (L.opening scripts (chain x (parent tree n)) start)) (own-chain n pos inside)
      ∙ ap (λ (hs : List Head). starts_on j (head_of k ∷ heads cs) (L.opening scripts (head_of k ∷ heads cs) start) (L.opening scripts hs start)) (outer-chain n pos inside)
      ∙ by-kind kind k cs start fits
      ∙ sym (ap (λ (ds : List ClassHead). gone_on (begins kind (own_test k) ds start (M.opening cs start))) (chain-step tree t.below n pos))
      ∙ sym (ap gone_on (begins-is plan world kind n))

  rights-are : (n : ℕ) → chain_rights (chain x n) ≡ node_rights tree n
  rights-are n = λ i k. chain-rights tree t plan.settings start k n i

  module _ (s : RunState) (reached_by : IsReached plan world s) where
    holds : Kept scripts x s.nodes
    holds = kept plan world t s reached_by

    -- where a body is under way there is a node, and it isn't the root
    body-inner : (n : ℕ) (b : Stage) → body_in (s.nodes.status n) ≡ Some b → n ≡ 0 → ⊥
    body-inner n b e z =
        let at_root : body_in (s.nodes.status 0) ≡ Some b = ap (λ (j : ℕ). body_in (s.nodes.status j)) (sym z) ∙ e in
        let none : body_in (s.nodes.status 0) ≡ None = ap body_in holds.locked.root in
        absurd (cc)

    body-inside : (n : ℕ) (b : Stage) → body_in (s.nodes.status n) ≡ Some b → n < length tree
    body-inside n b e = holds.locked.inside n (body-inner n b e) (body_held (s.nodes.status n) b e)

    pub inside : (bodies : List (Option Body)) (w n : ℕ) → AreBodiesOf plan world bodies s → w < length bodies → s.busy w ≡ Some n → (0 < n) × (n < length plan.rows)
    inside bodies w n are fits busy =
        let there = are.at w n fits busy in
        let within = body-inside n (stage_of_body there.body) there.is.stage in
        let count = nodes-are plan in
        (positive n (body-inner n (stage_of_body there.body) there.is.stage), omega arith)

    stands-at : (n : ℕ) (b : Body) → IsUnderWay plan world n b s.nodes → Stands b s.nodes.flat
    stands-at n b under =
        let pos = positive n (body-inner n (stage_of_body b) under.stage) in
        let within = body-inside n (stage_of_body b) under.stage in
        let going = holds.going n (stage_of_body b) under.stage in
        let kind = kind_of_body b in
        let same : reach scripts (chain x n) going.steps (source scripts x n (is_closing (s.nodes.status n))) ≡ gone_on (reached kind (subject_of b) going.steps) =
        ap (λ (j : Bool). reach scripts (chain x n) going.steps (source scripts x n j)) (sym under.kind)
        ∙ ap (reach scripts (chain x n) going.steps) (starts kind n pos within under.fits)
        ∙ steps-alone (chain x n) going.steps (begun kind (subject plan world n))
        ∙ ap (λ (r : Rights). gone_on (body_steps r going.steps (begun kind (subject plan world n)))) (rights-are n)
        ∙ ap (λ (q : Subject). gone_on (reached kind q going.steps)) (sym under.subject) in
        record {
          steps = going.steps;
          stage = going.alone.body ∙ ap (λ (p : Progress Stage Resources). p.body) same;
          resources = record {
            same = λ k r.
                going.alone.at k (ap is_readable (chain-rights tree t plan.settings start k n) ∙ ap (λ (q : Subject). is_readable (rights_of_subject q k)) (sym under.subject) ∙ r)
                ∙ ap (λ (p : Progress Stage Resources). p.content k) same;
          };
        }

    pub stands : (bodies : List (Option Body)) (w n : ℕ) (b : Body) → AreBodiesOf plan world bodies s → w < length bodies → s.busy w ≡ Some n → body_at bodies w ≡ Some b
        → Stands b s.nodes.flat
    stands bodies w n b are fits busy has =
        let h = are.at w n fits busy in
        let there = h.there in
        let same : h.body ≡ b = cc in
        subst (λ (q : Body). Stands q s.nodes.flat) same (stands-at n h.body h.is)

    -- the frames in a status at rest are those of the definition
    frames-told : (n : ℕ) → is_at_rest (s.nodes.status n) ≡ true → (opening_at scripts x n).frames ≡ E.frames_of (s.nodes.status n)
    frames-told n rests = holds.told n (E.frames_of (s.nodes.status n)) (rest_frames (s.nodes.status n) rests)

    pub enters : (n : ℕ) (kind : BodyKind) → 0 < n → n < length plan.rows → is_open (s.nodes.status (parent tree n)) ≡ true → is_after_all kind ≡ false
        → is_kind_of kind (row_at tree n).kind ≡ true → body_in ((E.entering scripts x n s.nodes).status n) ≡ Some (begun kind (subject plan world n)).stage
    enters n kind pos within opened first_body fits =
        ap body_in (put_here n (Begun (entering (chain x n) (E.frames_of (s.nodes.status (parent tree n))))) s.nodes.status)
        ∙ ap (λ (fs : List Frame). Some (entering (chain x n) fs)) (sym (frames-told (parent tree n) (open_rests (s.nodes.status (parent tree n)) opened)))
        ∙ ap (λ (j : Bool). Some (source scripts x n j).body) (sym first_body)
        ∙ ap (λ (p : Progress Stage Resources). Some p.body) (starts kind n pos (in-tree n within) fits)

    pub shuts : (n : ℕ) → 0 < n → n < length plan.rows → is_at_rest (s.nodes.status n) ≡ true → is_kind_of AfterAll (row_at tree n).kind ≡ true
        → body_in ((E.shutting scripts x n s.nodes).status n) ≡ Some (begun AfterAll (subject plan world n)).stage
    shuts n pos within rests fits =
        let fs = E.frames_of (s.nodes.status n) in
        ap body_in (put_here n (Closing fs (closing (chain x n) fs)) s.nodes.status)
        ∙ ap (λ (gs : List Frame). Some (closing (chain x n) gs)) (sym (frames-told n rests))
        ∙ ap (λ (p : Progress Stage Resources). Some p.body) (starts AfterAll n pos (in-tree n within) fits)

    pub enclosed : (n : ℕ) → 0 < n → n < length plan.rows → is_open (s.nodes.status (parent tree n)) ≡ true → (opening_of (enclosing (subject plan world n))).well ≡ true
    enclosed n pos within opened =
        sym (ap (λ (o : OpeningOf). o.well) (enclosing-is plan world t n pos (in-tree n within))) ∙ holds.well (parent tree n) opened

    pub around : (n : ℕ) → 0 < n → is_at_rest (s.nodes.status n) ≡ true → is_open (s.nodes.status (parent tree n)) ≡ true
    around n pos rests = holds.locked.tree n (nonzero n pos) (rest_held (s.nodes.status n) rests)

    -- of a class at rest, and of all that it stands in, the `before_all` was put
    module _ (r : ResultsView) (are : AreResultsOf r s.nodes) where
      abbrev IsKnown : ℕ → Type 0
      IsKnown n = is_at_rest (s.nodes.status n) ≡ true → AreOpened r (path tree n)

      pub opened-at-rest : (n : ℕ) → IsKnown n
      opened-at-rest = along tree t.below IsKnown
          (λ rests. subst (AreOpened r) (sym (path-root tree)) tt)
          (λ n pos up rests.
          subst (AreOpened r) (sym (path-step tree t.below n pos))
          (are.opened n pos (ap is_some (rest_frames (s.nodes.status n) rests)), up (open_rests (s.nodes.status (parent tree n)) (around n pos rests))))

      pub opened : (n : ℕ) → is_open (s.nodes.status n) ≡ true → AreOpened r (path tree n)
      opened n h = opened-at-rest n (open_rests (s.nodes.status n) h)
