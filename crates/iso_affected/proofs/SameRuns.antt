-- Nodes of two trees that have one chain come to the same.
use Rattle.std.proofs.Common.{◌≡◌, ℕ, ◌<◌, List, [], ◌∷◌, length, map, Option, Some, None, refl, sym, ap, ◌∙◌}
use Rattle.iso_isolation.proofs.Rights.{unaffected}
use Rattle.iso_isolation.specs.Isolation.{AgreeOn, Gives}
use Rattle.iso_isolation.specs.Suites.{Suite, chain}
use Rattle.iso_model.specs.ChainAgreement.{EqualAt}
use Rattle.iso_model.specs.Chains.{ClassHead, TestHead}
use Rattle.iso_model.specs.Resources.{Resources}
use Rattle.iso_model.specs.Rights.{is_readable}
use Rattle.iso_model.specs.declared.outcome.Outcome.{Outcome}
use Rattle.iso_model.specs.declared.resource.Resource.{Resource}
use Rattle.iso_plan.specs.NodeChains.{chain_classes, chain_test, node_rights}
use Rattle.iso_plan.specs.Paths.{IsTree}
use Rattle.iso_plan.specs.Tree.{Row}
use Rattle.iso_settings.specs.declared.settings.Settings.{Settings}
use Rattle.iso_suites.proofs.LanguageLaws.{scripts-laws}
use Rattle.iso_suites.proofs.PlanChains.{class-chain, class-there, test-chain}
use Rattle.iso_suites.proofs.SuiteLaws.{chain-rights, suite-laws}
use Rattle.iso_suites.specs.PlanSuites.{suite_of}
use Rattle.iso_suites.specs.ScriptLanguage.{Head, of_class, of_test, scripts}

module _ (one other : List Row) (t : IsTree one) (u : IsTree other) (s r : Settings) (start second : Resources) (m n : ℕ)
    (above : 0 < m) (further : 0 < n) (inside : m < length one) (classes : chain_classes one m ≡ chain_classes other n)
    (test : chain_test one m ≡ chain_test other n) where
  abbrev x : Suite Head (List ℕ) Resource
  x = suite_of one s start

  abbrev y : Suite Head (List ℕ) Resource
  y = suite_of other r second

  -- its chain is the same, by whether it is a test
  chains-by : (o : Option TestHead) → chain_test one m ≡ o → (cs : List ClassHead) → chain_classes one m ≡ cs → chain x m ≡ chain y n
  chains-by (Some h) e cs d =
      test-chain one t s start m h above e
      ∙ ap (λ (ds : List ClassHead). of_test h ∷ map of_class ds) classes
      ∙ sym (test-chain other u r second n h further (sym test ∙ e))
  chains-by None e (c ∷ cs) d = class-chain one t s start m c cs above e d ∙ sym (class-chain other u r second n c cs further (sym test ∙ e) (sym classes ∙ d))
  chains-by None e [] d = absurd (class-there one t s start m above inside e d)

  agrees : EqualAt (node_rights one m) start second → AgreeOn scripts x y m n
  agrees alike = record {
    chains = chains-by (chain_test one m) refl (chain_classes one m) refl;
    starts = λ k may. alike.same k (ap is_readable (sym (chain-rights one t s start k m)) ∙ may);
  }

  pub same-outcomes : EqualAt (node_rights one m) start second → (p q : Outcome) → Gives scripts x m p → Gives scripts y n q → p ≡ q
  same-outcomes alike p q g h = unaffected scripts scripts-laws x y (suite-laws one t s start) (suite-laws other u r second) m n p q (agrees alike) g h
