-- Which body a node is entered with.
use Rattle.std.proofs.Common.{◌≡◌, ℕ, ◌<◌, true, false, length, refl, arith}
use Rattle.iso_standing.proofs.Looks.{nodes-are}
use Rattle.iso_lifecycle.specs.Subjects.{is_kind_of}
use Rattle.iso_lifecycle.specs.declared.kind.BodyKind.TheVariants as K
use Rattle.iso_plan.specs.Paths.{IsTree, is_class_or_test, is_test, row_at}
use Rattle.iso_plan.specs.Planned.{Planned}
use Rattle.iso_plan.specs.RowView.{tree_of}
use Rattle.iso_plan.specs.Tree.{Kind, root, class_node, test_node}

pub test-fits : (k : Kind) → is_test k ≡ true → is_kind_of K.Test k ≡ true
test-fits root e = absurd cc
test-fits (class_node isolated head) e = absurd cc
test-fits (test_node head) e = refl

class-by : (k : Kind) → is_class_or_test k ≡ true → is_test k ≡ false → is_kind_of K.BeforeAll k ≡ true
class-by root w e = absurd cc
class-by (class_node isolated head) w e = refl
class-by (test_node head) w e = absurd cc

pub class-fits : (plan : Planned) → IsTree (tree_of plan) → (n : ℕ) → 0 < n → n < length plan.rows
    → is_test (row_at (tree_of plan) n).kind ≡ false → is_kind_of K.BeforeAll (row_at (tree_of plan) n).kind ≡ true
class-fits plan t n pos inside e =
    let count = nodes-are plan in
    class-by (row_at (tree_of plan) n).kind (t.full n pos (omega (arith, inside, count))) e

pub closing-by : (k : Kind) → is_class_or_test k ≡ true → is_test k ≡ false → is_kind_of K.AfterAll k ≡ true
closing-by root w e = absurd cc
closing-by (class_node isolated head) w e = refl
closing-by (test_node head) w e = absurd cc

pub closing-fits : (plan : Planned) → IsTree (tree_of plan) → (n : ℕ) → 0 < n → n < length plan.rows
    → is_test (row_at (tree_of plan) n).kind ≡ false → is_kind_of K.AfterAll (row_at (tree_of plan) n).kind ≡ true
closing-fits plan t n pos inside e =
    let count = nodes-are plan in
    closing-by (row_at (tree_of plan) n).kind (t.full n pos (omega (arith, inside, count))) e
