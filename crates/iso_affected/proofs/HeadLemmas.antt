-- The heads of nodes on their chains.
use Rattle.std.proofs.Common.{◌≡◌, List, [], ◌∷◌, true, false, Some, None, refl, ap}
use Rattle.iso_model.specs.Chains.{ClassHead, TestHead, class_rights, test_rights}
use Rattle.iso_plan.specs.NodeChains.{class_heads, own_test, rights_with}
use Rattle.iso_plan.specs.Paths.{is_class_or_test}
use Rattle.iso_plan.specs.Tree.{Kind, root, class_node, test_node}
use Rattle.iso_suites.specs.PlanSuites.{head_of}
use Rattle.iso_suites.specs.ScriptLanguage.{of_class, of_test}

-- a test's head
pub test-head : (k : Kind) (h : TestHead) → own_test k ≡ Some h → head_of k ≡ of_test h
test-head root h e = let wrong : None ≡ Some h = e in absurd (cc)
test-head (class_node isolated head) h e = let wrong : None ≡ Some h = e in absurd (cc)
test-head (test_node head) h e = let whole : Some head ≡ Some h = e in let equal : head ≡ h = cc in ap of_test equal

-- a class's head is the only one that it adds to its chain
pub record IsClassHead (k : Kind) : Type 0 where
  pub class : ClassHead
  pub head : head_of k ≡ of_class class
  pub heads : class_heads k ≡ class ∷ []

pub class-head : (k : Kind) → own_test k ≡ None → is_class_or_test k ≡ true → IsClassHead k
class-head root e w = let wrong : false ≡ true = w in absurd (cc)
class-head (class_node isolated head) e w = record { class = head; head = refl; heads = refl }
class-head (test_node head) e w = let wrong : Some head ≡ None = e in absurd (cc)

-- the rights of a test, and of a class
pub test-kind-rights : (k : Kind) (t : TestHead) (cs : List ClassHead) → own_test k ≡ Some t → rights_with k cs ≡ test_rights t cs
test-kind-rights root t cs e = let wrong : None ≡ Some t = e in absurd (cc)
test-kind-rights (class_node isolated head) t cs e = let wrong : None ≡ Some t = e in absurd (cc)
test-kind-rights (test_node head) t cs e = let whole : Some head ≡ Some t = e in let equal : head ≡ t = cc in ap (λ (h : TestHead). test_rights h cs) equal

pub class-kind-rights : (k : Kind) (cs : List ClassHead) → own_test k ≡ None → rights_with k cs ≡ class_rights cs
class-kind-rights root cs e = refl
class-kind-rights (class_node isolated head) cs e = refl
class-kind-rights (test_node head) cs e = let wrong : Some head ≡ None = e in absurd (cc)
