-- The class chain of a node: the heads of the classes on its path, and a test's own head.
--
-- class chain of a node: The heads on its path; its rights are those of all marks on that chain
-- (`node_rights`).
--
-- depth of a plan: How many classes the longest class chain has (`depth`).
use Rattle.std.specs.Prelude.{ℕ, List, [], ◌∷◌, ◌++◌, Option, Some, None, length, max}
use Rattle.iso_model.specs.Chains.{ClassHead, TestHead, class_rights, test_rights}
use Rattle.iso_model.specs.Rights.{Rights}
use Rattle.iso_plan.specs.Tree.{Kind, root, class_node, test_node, Row}
use Rattle.iso_plan.specs.Paths.{column, row_at, path}

-- a class's own head
abbrev pub class_heads : Kind → List ClassHead
class_heads root = []
class_heads (class_node isolated head) = head ∷ []
class_heads (test_node head) = []

-- a test's own head
abbrev pub own_test : Kind → Option TestHead
own_test root = None
own_test (class_node isolated head) = None
own_test (test_node head) = Some head

-- the heads of the classes on a path, in its order
abbrev pub heads_on : List Row → List ℕ → List ClassHead
heads_on tree [] = []
heads_on tree (n ∷ ns) = class_heads (row_at tree n).kind ++ heads_on tree ns

-- the class heads of a node's chain, innermost first
abbrev pub chain_classes : List Row → ℕ → List ClassHead
chain_classes tree n = heads_on tree (path tree n)

-- the largest of some numbers
abbrev pub largest : List ℕ → ℕ
largest [] = 0
largest (n ∷ ns) = max n (largest ns)

-- how many classes the longest class chain of a tree has: no body is given more frames
abbrev pub depth : List Row → ℕ
depth tree = largest (column (λ n. length (chain_classes tree n)) (length tree))

-- the test head of a node's chain, if it is a test
abbrev pub chain_test : List Row → ℕ → Option TestHead
chain_test tree n = own_test (row_at tree n).kind

-- the access rights of a node with these class heads: those of its chain
abbrev pub rights_with : Kind → List ClassHead → Rights
rights_with root cs = class_rights cs
rights_with (class_node isolated head) cs = class_rights cs
rights_with (test_node head) cs = test_rights head cs

abbrev pub node_rights : List Row → ℕ → Rights
node_rights tree n = rights_with (row_at tree n).kind (chain_classes tree n)
