-- Nodes by what they are and what they came to.
use Rattle.std.specs.Prelude.{ℕ, List, Bool, true, false, ◌&&◌}
use Rattle.iso_model.specs.declared.outcome.Outcome.{Outcome}
use Rattle.iso_model.specs.declared.outcome.Verdict.{Verdict}
use Rattle.iso_model.specs.declared.outcome.Verdict.TheVariants.{Pass, Fail, Fault, Skipped, Blocked}
use Rattle.iso_plan.specs.Paths.{is_test, row_at}
use Rattle.iso_plan.specs.Tree.{Kind, root, class_node, test_node, Row}

-- a verdict is a pass
abbrev pub has_passed : Verdict → Bool
has_passed Pass = true
has_passed (Fail note) = false
has_passed (Fault kind note) = false
has_passed (Skipped note) = false
has_passed (Blocked note) = false

-- it is a fail or a fault
abbrev pub has_failed : Verdict → Bool
has_failed Pass = false
has_failed (Fail note) = true
has_failed (Fault kind note) = true
has_failed (Skipped note) = false
has_failed (Blocked note) = false

-- it is that of a node which was skipped
abbrev pub was_skipped : Verdict → Bool
was_skipped Pass = false
was_skipped (Fail note) = false
was_skipped (Fault kind note) = false
was_skipped (Skipped note) = true
was_skipped (Blocked note) = false

-- it is that of a node which was blocked
abbrev pub was_blocked : Verdict → Bool
was_blocked Pass = false
was_blocked (Fail note) = false
was_blocked (Fault kind note) = false
was_blocked (Skipped note) = false
was_blocked (Blocked note) = true

-- a node is a class; neither the root nor a test is one
abbrev pub is_class : Kind → Bool
is_class root = false
is_class (class_node isolated head) = true
is_class (test_node head) = false

-- whether a node is a test with such a verdict, and whether it is a class with one
abbrev pub is_test_with : List Row → (ℕ → Outcome) → (Verdict → Bool) → ℕ → Bool
is_test_with tree outcome such n = is_test (row_at tree n).kind && such (outcome n).verdict

abbrev pub is_class_with : List Row → (ℕ → Outcome) → (Verdict → Bool) → ℕ → Bool
is_class_with tree outcome such n = is_class (row_at tree n).kind && such (outcome n).verdict
