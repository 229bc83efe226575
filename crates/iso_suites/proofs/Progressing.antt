-- The suite of every tree keeps what a run needs so that it never deadlocks.
use Rattle.std.proofs.Common.{◌≡◌, ℕ, zero, suc, List, Bool, true, false, ◌&&◌, refl, sym, ◌∙◌, arith}
use Rattle.iso_isolation.specs.Suites.{Suite}
use Rattle.iso_model.specs.Resources.{Resources}
use Rattle.iso_model.specs.declared.resource.Resource.{Resource}
use Rattle.iso_plan.proofs.Gathering.{conflict-from-none, holders-gather}
use Rattle.iso_plan.specs.Paths.{IsTree, is_root, is_test, parent, row_at}
use Rattle.iso_plan.specs.Tree.{Kind, root, class_node, test_node, Row}
use Rattle.iso_progress.specs.ProgressLaws.{HoldersGather, ProgressLaws, RootIsFree, TestsHoldNone}
use Rattle.iso_settings.specs.declared.settings.Settings.{Settings}
use Rattle.iso_suites.proofs.SuiteLaws.{on-under, positive, root-takes}
use Rattle.iso_suites.specs.PlanSuites.{head_of, suite_of}
use Rattle.iso_suites.specs.ScriptLanguage.{Head, is_of_test, scripts}

low_by : (inner : Bool) (p : ℕ) → (p ≡ 0 → ⊥) → (inner && is_root p) ≡ false
low_by false p low = refl
low_by true zero low = absurd (low refl)
low_by true (suc p) low = refl

holds_by : (kind : Kind) → is_test kind ≡ false → is_of_test (head_of kind) ≡ false
holds_by root h = refl
holds_by (class_node isolated head) h = refl
holds_by (test_node head) h = h

module _ (tree : List Row) (t : IsTree tree) (settings : Settings) (start : Resources) where
  abbrev x : Suite Head (List ℕ) Resource
  x = suite_of tree settings start

  root-free : RootIsFree x
  root-free n = conflict-from-none tree 0 n (root-takes tree t settings start)

  gathered : HoldersGather x
  gathered zero n d c low on other j = let wrong : false ≡ true = sym (root-free n) ∙ c in absurd (cc)
  gathered (suc m) n d c low on other j =
      holders-gather tree t.below (suc m) n d j c (low_by _ (parent tree n) low) (on-under tree t settings start (suc m) (omega arith) on) other

  hold-none : TestsHoldNone scripts x
  hold-none n inner low = holds_by (row_at tree (parent tree n)).kind (t.inner n (positive n inner))

  pub progress-laws : ProgressLaws scripts x
  progress-laws = record { root = root-free; gathered = gathered; tests = hold-none }
