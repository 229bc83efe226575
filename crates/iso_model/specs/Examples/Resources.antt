-- Example scripts on resources and access rights. P stands for `java.lang.System.properties`, L for
-- `java.util.Locale.default`.
use Rattle.std.specs.Prelude.{[], ◌∷◌, None}
use Rattle.iso_model.specs.Chains.{ClassHead, TestHead, empty_head}
use Rattle.iso_model.specs.ResourceKeys.{properties_key, locale_key}
use Rattle.iso_model.specs.Syntax.{locale}
use Rattle.iso_model.specs.Examples.Words.{body, a_test, reads, writes, file_a, quoted, number, name, join, text, prop, has_prop, file, has_file, variable, let_name, assign, print, assert_equal, fail, set_prop, clear_prop, set_locale, write_file, append_file, delete_file}

-- write "P" class A { before_all { set_prop "a", "x"; } test one { set_prop "a", "y"; } test two {
-- assert_equal "x", prop("a"); } } A test sees what `before_all` left, and nothing that another
-- test changed.
abbrev pub sets_x_first : ClassHead
sets_x_first = record empty_head {
  marks = writes properties_key ∷ [];
  before_all = body (set_prop (quoted "a") (quoted "x") ∷ []);
}

abbrev pub sets_y : TestHead
sets_y = a_test (set_prop (quoted "a") (quoted "y") ∷ [])

abbrev pub expects_x : TestHead
expects_x = a_test (assert_equal (quoted "x") (prop (quoted "a")) ∷ [])

-- write "L" class Out { static s = 1; field f = 2; before_all { s = 3; set_locale locale() ++ "-A";
-- } before_each { let x = 4; set_locale locale() ++ "-B"; } class In { field g = 5; before_all {
-- set_locale locale() ++ "-a"; } before_each { set_locale locale() ++ "-b"; }
--     test t { print text(s) ++ text(f) ++ text(g) ++ locale(); print x; } } }
-- Each block sees what the earlier ones changed, the statics and fields of all enclosing classes,
-- and no local of another.
abbrev pub marks_locale : ClassHead
marks_locale =
    record empty_head {
      marks = writes locale_key ∷ [];
      statics = variable "s" 1 ∷ [];
      fields = variable "f" 2 ∷ [];
      before_all = body (assign "s" (number 3) ∷ set_locale (join locale (quoted "-A" ∷ [])) ∷ []);
      before_each =
          body (let_name "x" (number 4) ∷ set_locale (join locale (quoted "-B" ∷ [])) ∷ []);
    }

abbrev pub marks_locale_inside : ClassHead
marks_locale_inside =
    record empty_head {
      fields = variable "g" 5 ∷ [];
      before_all = body (set_locale (join locale (quoted "-a" ∷ [])) ∷ []);
      before_each = body (set_locale (join locale (quoted "-b" ∷ [])) ∷ []);
    }

abbrev pub prints_all : TestHead
prints_all =
    a_test (print (join (text (name "s")) (text (name "f") ∷ text (name "g") ∷ locale ∷ []))
    ∷ print (name "x") ∷ [])

-- class Out { .. write "file:a" class In { static n = 1; before_all { print "in"; write_file "a",
-- "m"; n = 2; } after_all { append_file "a", "n"; print file("a") ++ text(n) ++ text(s); n = 3; }
-- test t { } } }, with Out as above `after_all` has the rights of its own class, the resources and
-- all statics as they were left, and may assign none; it begins to print anew.
abbrev pub closes_file : ClassHead
closes_file =
    record empty_head {
      marks = writes file_a ∷ [];
      disabled = None;
      statics = variable "n" 1 ∷ [];
      before_all = body (print (quoted "in") ∷ write_file (quoted "a") (quoted "m")
          ∷ assign "n" (number 2) ∷ []);
      after_all =
          body (append_file (quoted "a") (quoted "n")
          ∷ print (join (file (quoted "a")) (text (name "n") ∷ text (name "s") ∷ []))
          ∷ assign "n" (number 3) ∷ []);
    }

-- write "file:a" class C { before_all { write_file "a", "m"; fail "no db"; } after_all { print
-- file("a"); } .. } So it does where `before_all` didn't end well.
abbrev pub fails_with_a_file : ClassHead
fails_with_a_file =
    record empty_head {
      marks = writes file_a ∷ [];
      before_all = body (write_file (quoted "a") (quoted "m") ∷ fail "no db" ∷ []);
      after_all = body (print (file (quoted "a")) ∷ []);
    }

-- class Env { write "P" test one { assert_equal "1", prop("a"); set_prop "a", "2"; } .. }
-- A test's own mark gives it rights.
abbrev pub sets_2 : TestHead
sets_2 = record {
  marks = writes properties_key ∷ [];
  disabled = None;
  body =
      body (assert_equal (quoted "1") (prop (quoted "a"))
      ∷ set_prop (quoted "a") (quoted "2") ∷ []);
}

-- write "P" class Out { class In { test t { set_prop "a", "1"; } } }, and the same with read "P"
-- before the test The marks of all enclosing classes count, and of two on one key the stronger.
abbrev pub writes_properties : ClassHead
writes_properties = record empty_head { marks = writes properties_key ∷ [] }

abbrev pub sets_1 : TestHead
sets_1 = a_test (set_prop (quoted "a") (quoted "1") ∷ [])

abbrev pub reads_and_sets_1 : TestHead
reads_and_sets_1 = record sets_1 { marks = reads properties_key ∷ [] }

-- class C { test t { print prop("a"); } }, and with read "P" before the test
-- Without a mark nothing may be looked at; with it, what is absent is missing.
abbrev pub prints_a : TestHead
prints_a = a_test (print (prop (quoted "a")) ∷ [])

abbrev pub reads_and_prints_a : TestHead
reads_and_prints_a = record prints_a { marks = reads properties_key ∷ [] }

-- class C { before_each { print has_prop("a"); } after_each { print has_prop("a"); } read "P" test
-- t { print prop("a"); } } The blocks around a test have its rights.
abbrev pub looks_around : ClassHead
looks_around = record empty_head {
  before_each = body (print (has_prop (quoted "a")) ∷ []);
  after_each = body (print (has_prop (quoted "a")) ∷ []);
}

-- read "P" class C { test t { set_prop "a", "1"; } }
-- A `read` lets nothing be changed.
abbrev pub reads_properties : ClassHead
reads_properties = record empty_head { marks = reads properties_key ∷ [] }

-- write "P" class C { test t { print has_prop("a"); clear_prop "a"; clear_prop "a"; print
-- has_prop("a"); } } An absent property stays absent when it is cleared.
abbrev pub clears_a : TestHead
clears_a = a_test (print (has_prop (quoted "a")) ∷ clear_prop (quoted "a") ∷ clear_prop (quoted "a")
    ∷ print (has_prop (quoted "a")) ∷ [])

-- write "P" class C { test t { set_prop "b", "2"; clear_prop "b"; print prop("a"); } }
-- A change of one property leaves the others as they are.
abbrev pub changes_b : TestHead
changes_b = a_test (set_prop (quoted "b") (quoted "2") ∷ clear_prop (quoted "b")
    ∷ print (prop (quoted "a")) ∷ [])

-- write "file:a" test t { write_file "a", "m"; append_file "a", "n"; print file("a"); print
-- has_file("a"); delete_file "a"; print has_file("a"); } A file is written, grows, and is missing
-- again.
abbrev pub writes_and_deletes : TestHead
writes_and_deletes =
    record {
      marks = writes file_a ∷ [];
      disabled = None;
      body = body (write_file (quoted "a") (quoted "m") ∷ append_file (quoted "a") (quoted "n")
          ∷ print (file (quoted "a")) ∷
          print (has_file (quoted "a")) ∷ delete_file (quoted "a")
          ∷ print (has_file (quoted "a")) ∷ []);
    }

-- class C { read "L" test t { print locale(); } }
-- The locale starts as "en".
abbrev pub prints_locale : TestHead
prints_locale =
    record { marks = reads locale_key ∷ []; disabled = None; body = body (print locale ∷ []) }
