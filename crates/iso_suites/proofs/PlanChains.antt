-- The chain of a node of a plan, as heads: a test's own on those of its classes, or that of a class on those of the classes around it.
use Rattle.std.proofs.Common.{◌≡◌, ℕ, ◌<◌, ◌≤◌, List, [], ◌∷◌, ◌++◌, length, map, Some, None, Bool, true, false, nat_lt, refl, sym, ap, ◌∙◌, arith}
use Rattle.std.proofs.lemmas.Bool.Decides.{nat_tests}
use Rattle.std.proofs.lemmas.List.{get_or_past}
use Rattle.iso_suites.specs.PlanSuites.{head_of, suite_of}
use Rattle.iso_suites.specs.ScriptLanguage.{Head, of_class, of_test}
use Rattle.iso_isolation.specs.Suites.{Suite, chain}
use Rattle.iso_model.specs.Chains.{ClassHead, TestHead}
use Rattle.iso_model.specs.Resources.{Resources}
use Rattle.iso_model.specs.declared.resource.Resource.{Resource}
use Rattle.iso_plan.proofs.PathLemmas.{along, chain-step, path-root, path-step}
use Rattle.iso_plan.specs.NodeChains.{chain_classes, chain_test, class_heads, heads_on, own_test}
use Rattle.iso_plan.specs.Paths.{IsTree, is_class_or_test, is_test, parent, path, row_at}
use Rattle.iso_plan.specs.Tree.{Kind, root, class_node, test_node, Row, root_row}
use Rattle.iso_settings.specs.declared.settings.Settings.{Settings}

abbrev heads : List ClassHead → List Head
heads cs = map of_class cs

class-head : (kind : Kind) (cs : List ClassHead) → is_test kind ≡ false → is_class_or_test kind ≡ true → head_of kind ∷ heads cs ≡ heads (class_heads kind ++ cs)
class-head root cs e w = let wrong : false ≡ true = w in absurd (cc)
class-head (class_node isolated head) cs e w = refl
class-head (test_node head) cs e w = let wrong : true ≡ false = e in absurd (cc)

test-head : (kind : Kind) (t : TestHead) (cs : List ClassHead) → own_test kind ≡ Some t → head_of kind ∷ heads cs ≡ of_test t ∷ heads (class_heads kind ++ cs)
test-head root t cs e = let wrong : None ≡ Some t = e in absurd (cc)
test-head (class_node isolated head) t cs e = let wrong : None ≡ Some t = e in absurd (cc)
test-head (test_node head) t cs e = let whole : Some head ≡ Some t = e in let equal : head ≡ t = cc in ap (λ (h : TestHead). of_test h ∷ heads cs) equal

-- a class has its head on its chain
has-head : (kind : Kind) (cs : List ClassHead) → own_test kind ≡ None → is_class_or_test kind ≡ true → class_heads kind ++ cs ≡ [] → ⊥
has-head root cs e w h = let wrong : false ≡ true = w in absurd (cc)
has-head (class_node isolated head) cs e w h = let wrong : head ∷ cs ≡ [] = h in absurd (cc)
has-head (test_node head) cs e w h = let wrong : Some head ≡ None = e in absurd (cc)

no-test : (kind : Kind) → own_test kind ≡ None → is_test kind ≡ false
no-test root e = refl
no-test (class_node isolated head) e = refl
no-test (test_node head) e = let wrong : Some head ≡ None = e in absurd (cc)

module _ (rows : List Row) (t : IsTree rows) (settings : Settings) (start : Resources) where
  abbrev x : Suite Head (List ℕ) Resource
  x = suite_of rows settings start

  chain-cons : (n : ℕ) → 0 < n → chain x n ≡ head_of (row_at rows n).kind ∷ chain x (parent rows n)
  chain-cons n pos = ap (λ (ns : List ℕ). map x.head ns) (path-step rows t.below n pos)

  abbrev IsHeads : ℕ → Type 0
  IsHeads n = n < length rows → is_test (row_at rows n).kind ≡ false → chain x n ≡ heads (chain_classes rows n)

  heads-root : IsHeads 0
  heads-root inside e = ap (λ (ns : List ℕ). map x.head ns) (path-root rows) ∙ sym (ap (λ (ns : List ℕ). heads (heads_on rows ns)) (path-root rows))

  heads-parent : (n : ℕ) → 0 < n → n < length rows → IsHeads (parent rows n) → chain x (parent rows n) ≡ heads (chain_classes rows (parent rows n))
  heads-parent n pos inside h = let below : parent rows n < n = t.below n pos in h (omega arith) (t.inner n pos)

  heads-step : (n : ℕ) → 0 < n → IsHeads (parent rows n) → IsHeads n
  heads-step n pos h inside e =
      chain-cons n pos ∙ ap (λ (hs : List Head). head_of (row_at rows n).kind ∷ hs) (heads-parent n pos inside h)
      ∙ class-head (row_at rows n).kind (chain_classes rows (parent rows n)) e (t.full n pos inside)
      ∙ sym (ap heads (chain-step rows t.below n pos))

  -- the chain of a node that is no test
  pub heads-at : (n : ℕ) → IsHeads n
  heads-at = along rows t.below IsHeads heads-root heads-step

  -- past the nodes stands no test, and no class
  no-tests : (n : ℕ) → length rows ≤ n → chain_test rows n ≡ None
  no-tests n past = ap (λ (r : Row). own_test r.kind) (get_or_past rows n root_row past)

  no-classes : (n : ℕ) → 0 < n → length rows ≤ n → chain_classes rows n ≡ []
  no-classes n pos past =
      chain-step rows t.below n pos
      ∙ ap (λ (r : Row). class_heads r.kind ++ heads_on rows (path rows r.parent)) (get_or_past rows n root_row past)
      ∙ ap (heads_on rows) (path-root rows)

  test-by : (n : ℕ) (h : TestHead) → 0 < n → chain_test rows n ≡ Some h → (b : Bool) → nat_lt n (length rows) ≡ b → chain x n ≡ of_test h ∷ heads (chain_classes rows n)
  test-by n h pos e true l =
      let inside : n < length rows = grind (arith, nat_tests) in
      chain-cons n pos ∙ ap (λ (hs : List Head). head_of (row_at rows n).kind ∷ hs) (heads-parent n pos inside (heads-at (parent rows n)))
      ∙ test-head (row_at rows n).kind h (chain_classes rows (parent rows n)) e
      ∙ sym (ap (λ (cs : List ClassHead). of_test h ∷ heads cs) (chain-step rows t.below n pos))
  test-by n h pos e false l =
      let past : length rows ≤ n = grind (arith, nat_tests) in
      let wrong : None ≡ Some h = sym (no-tests n past) ∙ e in
      absurd (cc)

  -- a node that is no test is a class of its chain
  pub class-there : (n : ℕ) → 0 < n → n < length rows → chain_test rows n ≡ None → chain_classes rows n ≡ [] → ⊥
  class-there n pos inside e h =
      has-head (row_at rows n).kind (chain_classes rows (parent rows n)) e (t.full n pos inside) (sym (chain-step rows t.below n pos) ∙ h)

  -- the chain of a test, and that of a class
  pub test-chain : (n : ℕ) (h : TestHead) → 0 < n → chain_test rows n ≡ Some h → chain x n ≡ of_test h ∷ heads (chain_classes rows n)
  test-chain n h pos e = test-by n h pos e (nat_lt n (length rows)) refl

  class-by : (n : ℕ) (c : ClassHead) (cs : List ClassHead) → 0 < n → chain_test rows n ≡ None
      → chain_classes rows n ≡ c ∷ cs → (b : Bool) → nat_lt n (length rows) ≡ b → chain x n ≡ of_class c ∷ heads cs
  class-by n c cs pos e h true l =
      let inside : n < length rows = grind (arith, nat_tests) in
      heads-at n inside (no-test (row_at rows n).kind e) ∙ ap heads h
  class-by n c cs pos e h false l =
      let past : length rows ≤ n = grind (arith, nat_tests) in
      let wrong : [] ≡ c ∷ cs = sym (no-classes n pos past) ∙ h in
      absurd (cc)

  pub class-chain : (n : ℕ) (c : ClassHead) (cs : List ClassHead) → 0 < n → chain_test rows n ≡ None → chain_classes rows n ≡ c ∷ cs → chain x n ≡ of_class c ∷ heads cs
  class-chain n c cs pos e h = class-by n c cs pos e h (nat_lt n (length rows)) refl
