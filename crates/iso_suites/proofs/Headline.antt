-- The isolation theorem over scripts and plans.
use Rattle.std.proofs.Common.{◌≡◌, ℕ, List, sym, ap, ◌∙◌}
use Rattle.iso_suites.proofs.AloneRuns.{test-alone, class-alone}
use Rattle.iso_suites.proofs.LanguageLaws.{scripts-laws}
use Rattle.iso_suites.proofs.PlanChains.{test-chain, class-chain}
use Rattle.iso_suites.proofs.SuiteLaws.{suite-laws}
use Rattle.iso_suites.specs.PlanSuites.{Launch, nodes_of, launched, MayEnd, IsTestAt, IsClassAt}
use Rattle.iso_suites.specs.ScriptLanguage.{Head, scripts}
use Rattle.iso_isolation.proofs.Rights.{isolation}
use Rattle.iso_isolation.specs.Alone.{run_alone}
use Rattle.iso_isolation.specs.Suites.{SuiteLaws}
use Rattle.iso_model.proofs.ChainRuns.{tests-agree, classes-agree}
use Rattle.iso_model.specs.ChainAgreement.{TestsAgree, ClassesAgree}
use Rattle.iso_model.specs.Alone.{test_alone, class_alone}
use Rattle.iso_model.specs.Chains.{ClassHead, TestHead}
use Rattle.iso_model.specs.declared.outcome.Outcome.{Outcome}
use Rattle.iso_plan.proofs.SelectionLemmas.{selection-is-tree}
use Rattle.iso_plan.proofs.TreeLemmas.{tree-is}
use Rattle.iso_plan.specs.NodeChains.{chain_classes}
use Rattle.iso_plan.specs.Paths.{IsTree}
use Rattle.iso_plan.specs.Tree.{tree}

nodes-are : (l : Launch) → IsTree (nodes_of l)
nodes-are l = selection-is-tree (tree l.written) (tree-is l.written) l.only

pub launched-laws : (l : Launch) → SuiteLaws scripts (launched l)
launched-laws l = suite-laws (nodes_of l) (nodes-are l) l.settings l.start

-- the outcome of a finished test, and of a finished class, is that of its chain run alone
pub tests-isolated : (l : Launch) (n : ℕ) (t : TestHead) (cs : List ClassHead) (r : Outcome) → MayEnd l n r → IsTestAt l n t cs → r ≡ test_alone t cs l.start
tests-isolated l n t cs r g is =
    isolation scripts scripts-laws (launched l) (launched-laws l) n r g
    ∙ ap (λ (hs : List Head). run_alone scripts hs l.start) (test-chain (nodes_of l) (nodes-are l) l.settings l.start n t g.nonzero is.test)
    ∙ test-alone t (chain_classes (nodes_of l) n) l.start
    ∙ ap (λ (ds : List ClassHead). test_alone t ds l.start) is.classes

pub classes-isolated : (l : Launch) (n : ℕ) (c : ClassHead) (cs : List ClassHead) (r : Outcome) → MayEnd l n r → IsClassAt l n c cs → r ≡ class_alone c cs l.start
classes-isolated l n c cs r g is =
    isolation scripts scripts-laws (launched l) (launched-laws l) n r g
    ∙ ap (λ (hs : List Head). run_alone scripts hs l.start) (class-chain (nodes_of l) (nodes-are l) l.settings l.start n c cs g.nonzero is.test is.classes)
    ∙ class-alone c cs l.start

-- what agrees ends alike
pub tests-unaffected : (l m : Launch) (i j : ℕ) (t u : TestHead) (cs ds : List ClassHead) (r q : Outcome)
    → IsTestAt l i t cs → IsTestAt m j u ds → TestsAgree t cs l.start u ds m.start → MayEnd l i r → MayEnd m j q → r ≡ q
tests-unaffected l m i j t u cs ds r q is_l is_m agree g h =
    tests-isolated l i t cs r g is_l ∙ tests-agree t cs l.start u ds m.start agree ∙ sym (tests-isolated m j u ds q h is_m)

pub classes-unaffected : (l m : Launch) (i j : ℕ) (c d : ClassHead) (cs ds : List ClassHead) (r q : Outcome)
    → IsClassAt l i c cs → IsClassAt m j d ds → ClassesAgree c cs l.start d ds m.start → MayEnd l i r → MayEnd m j q → r ≡ q
classes-unaffected l m i j c d cs ds r q is_l is_m agree g h =
    classes-isolated l i c cs r g is_l ∙ classes-agree c cs l.start d ds m.start agree ∙ sym (classes-isolated m j d ds q h is_m)
