-- Example scripts on the order of lifecycle blocks, and on what one that doesn't end well does to
-- the others.
use Rattle.std.specs.Prelude.{Some, [], ◌∷◌, false, codes}
use Rattle.iso_model.specs.Chains.{ClassHead, TestHead, empty_head}
use Rattle.iso_model.specs.Examples.Words.{body, a_test, quoted, flag, print, fail, assume}

-- class Out { before_each { print "ob"; } after_each { print "oa"; } class In { before_each { print
-- "ib"; } after_each { print "ia"; } test t { print "t"; } } } The outer class's `before_each` runs
-- first and its `after_each` last.
abbrev pub outer : ClassHead
outer = record empty_head {
  before_each = body (print (quoted "ob") ∷ []);
  after_each = body (print (quoted "oa") ∷ []);
}

abbrev pub inner : ClassHead
inner = record empty_head {
  before_each = body (print (quoted "ib") ∷ []);
  after_each = body (print (quoted "ia") ∷ []);
}

abbrev pub prints_t : TestHead
prints_t = a_test (print (quoted "t") ∷ [])

-- class C { before_all { print "open"; fail "no db"; } after_all { print "close"; fail "still no
-- db"; } test t { } } A fail in `before_all` blocks the tests; `after_all` runs nevertheless, and
-- comes second in all that the class says.
abbrev pub no_database : ClassHead
no_database =
    record empty_head {
      before_all = body (print (quoted "open") ∷ fail "no db" ∷ []);
      after_all = body (print (quoted "close") ∷ fail "still no db" ∷ []);
    }

abbrev pub does_nothing : TestHead
does_nothing = a_test []

-- class C { before_all { print "open"; fail "no db"; } .. class In { before_all { print "in"; }
-- test t { } } } It blocks nested classes too, whose own blocks don't run.
abbrev pub opens_inside : ClassHead
opens_inside = record empty_head { before_all = body (print (quoted "in") ∷ []) }

-- class C { before_each { assume false, "no"; } after_each { print "a"; } class In { before_each {
-- print "ib"; } after_each { print "ia"; } test t { print "t"; } } } After a `before_each` that
-- didn't end well neither a further one nor the test is run; each `after_each` is.
abbrev pub assumes_before_each : ClassHead
assumes_before_each = record empty_head {
  before_each = body (assume (flag false) "no" ∷ []);
  after_each = body (print (quoted "a") ∷ []);
}

-- class C { before_each { fail "no"; } class In { before_each { print "ib"; } after_each { print
-- "ia"; } test t { print "t"; } } }
abbrev pub fails_before_each : ClassHead
fails_before_each = record empty_head { before_each = body (fail "no" ∷ []) }

-- class C { test t { assume false, "no #1"; } }
-- A false assumption skips the test.
abbrev pub assumes_false : TestHead
assumes_false = a_test (assume (flag false) "no #1" ∷ [])

-- class Out { before_each { print "ob"; } after_each { print "oa"; } class In { after_each { fail
-- "late"; } test t { assume false, "no #1"; } } } A later fail is stronger than an earlier false
-- assumption.
abbrev pub fails_late : ClassHead
fails_late = record empty_head { after_each = body (fail "late" ∷ []) }

-- class C { before_all { assume false, "no #1"; } test t { } }
-- A false assumption of an opening skips the class and the tests under it.
abbrev pub assumes_false_first : ClassHead
assumes_false_first = record empty_head { before_all = body (assume (flag false) "no #1" ∷ []) }

-- class C { before_all { assume false, "no #1"; } after_all { assume false, "late"; } }
-- Of two false assumptions the first counts.
abbrev pub assumes_twice : ClassHead
assumes_twice = record assumes_false_first { after_all = body (assume (flag false) "late" ∷ []) }

-- class C { before_each { print "ob"; } after_each { print "oa"; } disabled "later" test t { print
-- "t"; } } None of a disabled test's blocks runs, and it is skipped with its reason.
abbrev pub disabled_test : TestHead
disabled_test = record prints_t { disabled = Some (codes "later") }

-- disabled "soon" class C { before_all { print "open"; fail "no db"; } after_all { print "close";
-- fail "still no db"; } test t { } } None of a disabled class's blocks runs, and all in it is
-- skipped with its reason.
abbrev pub disabled_class : ClassHead
disabled_class = record no_database { disabled = Some (codes "soon") }
