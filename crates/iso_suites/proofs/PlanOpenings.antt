-- The nodes of a plan in its runs: their openings as the isolation theorem has them are those of subjects, and what a node comes to on the
-- whole start is its outcome alone.
use Rattle.std.proofs.Common.{◌≡◌, ℕ, ◌<◌, List, ◌∷◌, ◌++◌, length, Option, Some, None, true, false, refl, sym, ap, subst, ◌∙◌, arith}
use Rattle.iso_suites.proofs.AloneRuns.{OpeningOf, class-alone, openings, test-alone, told}
use Rattle.iso_suites.proofs.LanguageLaws.{scripts-laws}
use Rattle.iso_suites.proofs.PlanChains.{class-chain, heads-at, test-chain}
use Rattle.iso_suites.proofs.SuiteLaws.{suite-laws}
use Rattle.iso_suites.specs.ScriptLanguage.{Head, scripts}
use Rattle.iso_suites.specs.SuiteStates.{RunState, IsReached, suite_at}
use Rattle.iso_isolation.proofs.Barred.{keeps_first}
use Rattle.iso_isolation.proofs.Invariant.{Kept}
use Rattle.iso_isolation.proofs.Openings.{defined, opening_at}
use Rattle.iso_isolation.proofs.Rights.{alone_on_rights}
use Rattle.iso_isolation.proofs.Runs.{keeps_run}
use Rattle.iso_isolation.specs.Alone as L
use Rattle.iso_isolation.specs.Alone.{run_alone}
use Rattle.iso_isolation.specs.States.{first}
use Rattle.iso_isolation.specs.Suites.{Suite, SuiteLaws, chain}
use Rattle.iso_lifecycle.proofs.Comings.{well-is}
use Rattle.iso_lifecycle.specs.Subjects.{chain_alone, is_kind_of, opening_of, outcome_alone, own_frame, started, subject}
use Rattle.iso_lifecycle.specs.declared.kind.BodyKind.TheVariants.{BeforeAll, Test}
use Rattle.iso_model.specs.Chains.{TestHead}
use Rattle.iso_model.specs.Statements.{is_well}
use Rattle.iso_model.specs.declared.resource.Resource.{Resource}
use Rattle.iso_plan.proofs.PathLemmas.{chain-step}
use Rattle.iso_plan.specs.NodeChains.{chain_classes, chain_test, class_heads, own_test}
use Rattle.iso_plan.specs.Paths.{IsTree, is_class_or_test, is_test, parent, row_at}
use Rattle.iso_plan.specs.Planned.{Planned}
use Rattle.iso_plan.specs.RowView.{tree_of}
use Rattle.iso_plan.specs.Tree.{Kind, root, class_node, test_node, Row}
use Rattle.iso_settings.specs.Worlds.{Start}

-- the kinds of nodes that bodies have
pub class-kind : (k : Kind) → is_test k ≡ false → is_class_or_test k ≡ true → is_kind_of BeforeAll k ≡ true
class-kind root e full = absurd (cc)
class-kind (class_node isolated head) e full = refl
class-kind (test_node head) e full = absurd (cc)

pub no-test-kind : (k : Kind) → is_kind_of BeforeAll k ≡ true → is_test k ≡ false
no-test-kind root e = refl
no-test-kind (class_node isolated head) e = refl
no-test-kind (test_node head) e = absurd (cc)

pub test-kind : (k : Kind) → is_kind_of Test k ≡ true → is_test k ≡ true
test-kind root e = absurd (cc)
test-kind (class_node isolated head) e = absurd (cc)
test-kind (test_node head) e = refl

module _ (plan : Planned) (world : Start) (t : IsTree (tree_of plan)) where
  abbrev tree : List Row
  tree = tree_of plan

  abbrev x : Suite Head (List ℕ) Resource
  x = suite_at plan world

  pub laws : SuiteLaws scripts x
  laws = suite-laws tree t plan.settings (started world)

  -- what every state of a run keeps
  pub kept : (s : RunState) → IsReached plan world s → Kept scripts x s.nodes
  kept s r =
      subst (λ (q : RunState). Kept scripts x q.nodes) r.state
      (keeps_run scripts x laws scripts-laws r.workers r.events (first scripts x) (keeps_first scripts x laws scripts-laws) r.run)

  -- the opening of a node that is no test
  pub opening-is : (n : ℕ) → n < length tree → is_test (row_at tree n).kind ≡ false → opening_at scripts x n ≡ told (opening_of (subject plan world n))
  opening-is n inside e =
      ap (λ (hs : List Head). L.opening scripts hs (started world)) (heads-at tree t plan.settings (started world) n inside e)
      ∙ openings (chain_classes tree n) (started world)

  pub parent-inside : (n : ℕ) → 0 < n → n < length tree → parent tree n < length tree
  parent-inside n pos inside = let less = t.below n pos in omega arith

  -- the opening of the classes that a node stands in
  pub enclosing-is : (n : ℕ) → 0 < n → n < length tree → opening_at scripts x (parent tree n) ≡ told (opening_of (subject plan world (parent tree n)))
  enclosing-is n pos inside = opening-is (parent tree n) (parent-inside n pos inside) (t.inner n pos)

  -- a class in classes that were opened well was opened well where its own `before_all` ended well
  pub class-well : (n : ℕ) → 0 < n → n < length tree → is_kind_of BeforeAll (row_at tree n).kind ≡ true → (opening_at scripts x (parent tree n)).well ≡ true
      → (opening_at scripts x n).well ≡ is_well (own_frame (subject plan world n)).ending
  class-well n pos inside class well =
      ap (λ (o : OpeningOf). o.well) (opening-is n inside (no-test-kind (row_at tree n).kind class))
      ∙ well-is (subject plan world n) (chain-step tree t.below n pos) class (ap (λ (o : OpeningOf). o.well) (sym (enclosing-is n pos inside)) ∙ well)

  outcome-by : (n : ℕ) → 0 < n → (k : Kind) → (row_at tree n).kind ≡ k → is_class_or_test k ≡ true → run_alone scripts (chain x n) (started world) ≡ outcome_alone tree (started world) n
  outcome-by n pos root e full = absurd (cc)
  outcome-by n pos (class_node isolated c) e full =
      let cs = chain_classes tree (parent tree n) in
      let own : chain_test tree n ≡ None = ap own_test e in
      let classes : chain_classes tree n ≡ c ∷ cs = chain-step tree t.below n pos ∙ ap (λ (k : Kind). class_heads k ++ cs) e in
      ap (λ (hs : List Head). run_alone scripts hs (started world)) (class-chain tree t plan.settings (started world) n c cs pos own classes)
      ∙ class-alone c cs (started world)
      ∙ sym (λ i. chain_alone (own i) (classes i) (started world))
  outcome-by n pos (test_node h) e full =
      let own : chain_test tree n ≡ Some h = ap own_test e in
      ap (λ (hs : List Head). run_alone scripts hs (started world)) (test-chain tree t plan.settings (started world) n h pos own)
      ∙ test-alone h (chain_classes tree n) (started world)
      ∙ sym (ap (λ (o : Option TestHead). chain_alone o (chain_classes tree n) (started world)) own)

  -- what a node comes to on the whole start
  pub outcome-is : (n : ℕ) → 0 < n → n < length tree → defined scripts x n ≡ outcome_alone tree (started world) n
  outcome-is n pos inside =
      alone_on_rights scripts scripts-laws (chain x n) (started world) ∙ outcome-by n pos (row_at tree n).kind refl (t.full n pos inside)
