-- Example scripts on statics, fields and locals.
use Rattle.std.specs.Prelude.{[], ◌∷◌}
use Rattle.iso_model.specs.Chains.{ClassHead, TestHead, empty_head}
use Rattle.iso_model.specs.Examples.Words.{body, a_test, variable, number, name, add, let_name, assign, print}

-- class C { field n = 1; before_each { n = n + 1; } test t { print n; } test u { print n; } }
-- Each test begins with the fields at their literals; t and u are alike.
abbrev pub counts_up : ClassHead
counts_up = record empty_head {
  fields = variable "n" 1 ∷ [];
  before_each = body (assign "n" (add (name "n") (number 1 ∷ [])) ∷ []);
}

abbrev pub prints_n : TestHead
prints_n = a_test (print (name "n") ∷ [])

-- class C { static n = 1; before_all { n = 5; } after_all { print n; } test t { print n; } }
-- Tests and `after_all` see a static as `before_all` left it.
abbrev pub sets_static : ClassHead
sets_static = record empty_head {
  statics = variable "n" 1 ∷ [];
  before_all = body (assign "n" (number 5) ∷ []);
  after_all = body (print (name "n") ∷ []);
}

-- class C { static n = 1; test t { n = 2; } test u { let n = 2; } }
-- A test assigns no static, and declares no local in its place.
abbrev pub has_static : ClassHead
has_static = record empty_head { statics = variable "n" 1 ∷ [] }

abbrev pub assigns_n : TestHead
assigns_n = a_test (assign "n" (number 2) ∷ [])

abbrev pub declares_n : TestHead
declares_n = a_test (let_name "n" (number 2) ∷ [])

-- class Out { class In { static n = 1; before_each { n = 2; } test t { print "t"; } } }
-- Nor does a `before_each` assign a static of its own class.
abbrev pub assigns_static_before_each : ClassHead
assigns_static_before_each = record has_static { before_each = body (assign "n" (number 2) ∷ []) }

-- class Out { static n = 1; class In { before_all { n = 2; } test t { } } }
-- Nor does a `before_all` assign a static of an enclosing class.
abbrev pub assigns_outer_static : ClassHead
assigns_outer_static = record empty_head { before_all = body (assign "n" (number 2) ∷ []) }

-- class Out { before_each { n = 2; } class In { field n = 1; test t { } } }
-- A block sees no name of a class inside its own.
abbrev pub assigns_inner_field : ClassHead
assigns_inner_field = record empty_head { before_each = body (assign "n" (number 2) ∷ []) }

abbrev pub has_field : ClassHead
has_field = record empty_head { fields = variable "n" 1 ∷ [] }

-- class C { field n = 1; before_all { print n; } .. }
-- `before_all` and `after_all` see no field.
abbrev pub prints_field_first : ClassHead
prints_field_first = record has_field { before_all = body (print (name "n") ∷ []) }
