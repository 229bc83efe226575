-- The body with which a node begins is one of the node's.
use Rattle.std.proofs.Common.{◌≡◌, true, false, refl}
use Rattle.iso_lifecycle.specs.Subjects.{is_kind_of}
use Rattle.iso_lifecycle.specs.declared.kind.BodyKind.TheVariants.{BeforeAll, Test}
use Rattle.iso_plan.specs.Paths.{is_class_or_test, is_test}
use Rattle.iso_plan.specs.Tree.{Kind, root, class_node, test_node}

pub test-fits : (k : Kind) → is_test k ≡ true → is_kind_of Test k ≡ true
test-fits root e = absurd cc
test-fits (class_node isolated head) e = absurd cc
test-fits (test_node head) e = refl

pub class-fits : (k : Kind) → is_class_or_test k ≡ true → is_test k ≡ false → is_kind_of BeforeAll k ≡ true
class-fits root w e = absurd cc
class-fits (class_node isolated head) w e = refl
class-fits (test_node head) w e = absurd cc
