-- What the finished nodes of a core came to is theirs alone: the isolation theorem at the events
-- that it has accepted.
use Rattle.std.proofs.Common.{◌≡◌, ℕ, zero, suc, ◌<◌, List, [], ◌∷◌, Some, None, true, sym, ap, ◌∙◌, arith}
use Rattle.iso_suites.proofs.AloneRuns.{class-alone, test-alone}
use Rattle.iso_suites.proofs.LanguageLaws.{scripts-laws}
use Rattle.iso_suites.proofs.PlanChains.{class-chain, test-chain}
use Rattle.iso_suites.proofs.PlanOpenings.{laws}
use Rattle.iso_standing.specs.CodeEvents.{events_of}
use Rattle.iso_core.specs.Cores.{CoreView, outcome_in, suite_in}
use Rattle.iso_core.specs.Isolation.{AreUnaffected, IsClass, IsIsolated, IsTest}
use Rattle.iso_suites.specs.ScriptLanguage.{Head, scripts}
use Rattle.iso_isolation.proofs.Rights.{isolation}
use Rattle.iso_isolation.specs.Alone.{run_alone}
use Rattle.iso_isolation.specs.Isolation.{Gives}
use Rattle.iso_isolation.specs.Runs.{is_run}
use Rattle.iso_isolation.specs.States.{first}
use Rattle.iso_isolation.specs.Suites.{chain}
use Rattle.iso_lifecycle.specs.Subjects.{started}
use Rattle.iso_model.proofs.ChainRuns.{classes-agree, tests-agree}
use Rattle.iso_model.specs.Alone.{class_alone, test_alone}
use Rattle.iso_model.specs.Chains.{ClassHead, TestHead}
use Rattle.iso_model.specs.declared.outcome.Outcome.{Outcome}
use Rattle.iso_plan.proofs.PathLemmas.{path-root}
use Rattle.iso_plan.specs.NodeChains.{chain_classes, chain_test, heads_on, own_test}
use Rattle.iso_plan.specs.Paths.{IsTree}
use Rattle.iso_plan.specs.RowView.{tree_of}
use Rattle.iso_plan.specs.Tree.{Row}

-- the root is no test and no class
test-inner : (rows : List Row) → IsTree rows → (n : ℕ) (h : TestHead) → chain_test rows n ≡ Some h → 0 < n
test-inner rows t zero h e =
    let wrong : None ≡ Some h = sym (ap (λ (r : Row). own_test r.kind) t.root_is) ∙ e in
    absurd (cc)
test-inner rows t (suc n) h e = omega arith

class-inner : (rows : List Row) → (n : ℕ) (c : ClassHead) (cs : List ClassHead) → chain_classes rows n ≡ c ∷ cs → 0 < n
class-inner rows zero c cs e =
    let wrong : [] ≡ c ∷ cs = sym (ap (heads_on rows) (path-root rows)) ∙ e in
    absurd (cc)
class-inner rows (suc n) c cs e = omega arith

module _ (c : CoreView) (t : IsTree (tree_of c.plan)) (run : is_run scripts (suite_in c) c.workers (first scripts (suite_in c)) (events_of c.events) ≡ true) where
  gives : (n : ℕ) (r : Outcome) → 0 < n → outcome_in c n ≡ Some r → Gives scripts (suite_in c) n r
  gives n r pos e = record { nonzero = pos; workers = c.workers; events = events_of c.events; run = run; result = e }

  alone : (n : ℕ) (r : Outcome) → 0 < n → outcome_in c n ≡ Some r → r ≡ run_alone scripts (chain (suite_in c) n) (started c.world)
  alone n r pos e = isolation scripts scripts-laws (suite_in c) (laws c.plan c.world t) n r (gives n r pos e)

  tests : (n : ℕ) (h : TestHead) (cs : List ClassHead) (r : Outcome) → IsTest c n h cs → outcome_in c n ≡ Some r → r ≡ test_alone h cs (started c.world)
  tests n h cs r is e =
      let pos = test-inner (tree_of c.plan) t n h is.test in
      alone n r pos e
      ∙ ap (λ (hs : List Head). run_alone scripts hs (started c.world)) (test-chain (tree_of c.plan) t c.plan.settings (started c.world) n h pos is.test)
      ∙ test-alone h (chain_classes (tree_of c.plan) n) (started c.world)
      ∙ ap (λ (ds : List ClassHead). test_alone h ds (started c.world)) is.classes

  classes : (n : ℕ) (h : ClassHead) (cs : List ClassHead) (r : Outcome) → IsClass c n h cs → outcome_in c n ≡ Some r → r ≡ class_alone h cs (started c.world)
  classes n h cs r is e =
      let pos = class-inner (tree_of c.plan) n h cs is.classes in
      alone n r pos e
      ∙ ap (λ (hs : List Head). run_alone scripts hs (started c.world))
      (class-chain (tree_of c.plan) t c.plan.settings (started c.world) n h cs pos is.test is.classes)
      ∙ class-alone h cs (started c.world)

  pub core-isolated : IsIsolated c
  core-isolated = record { tests = tests; classes = classes }

pub cores-unaffected : (c d : CoreView) → IsIsolated c → IsIsolated d → AreUnaffected c d
cores-unaffected c d left right = record {
  tests = λ i j t u cs ds r q is_c is_d agree e f.
      left.tests i t cs r is_c e ∙ tests-agree t cs (started c.world) u ds (started d.world) agree ∙ sym (right.tests j u ds q is_d f);
  classes = λ i j h k cs ds r q is_c is_d agree e f.
      left.classes i h cs r is_c e ∙ classes-agree h cs (started c.world) k ds (started d.world) agree ∙ sym (right.classes j k ds q is_d f);
}
