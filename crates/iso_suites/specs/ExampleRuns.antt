-- Runs of a small plan, for worked examples.
use Prim.Native.String.{String}
use Rattle.std.specs.Prelude.{ℕ, List, [], ◌∷◌, ◌++◌, Option, Some, None, Bool, false, cond, codes, bytes_eq}
use Rattle.iso_suites.specs.PlanSuites.{Launch, launched}
use Rattle.iso_suites.specs.ScriptLanguage.{scripts}
use Rattle.iso_isolation.specs.Events.{Event, Enter, Step, Leave, Shut}
use Rattle.iso_isolation.specs.Refusals.{Refused, refusal}
use Rattle.iso_isolation.specs.Runs.{is_complete, is_run, after_all_of, result_of}
use Rattle.iso_isolation.specs.States.{first}
use Rattle.iso_model.specs.Chains.{ClassHead, empty_head}
use Rattle.iso_model.specs.Examples.Words.{body, file, file_a, print, quoted, write_file}
use Rattle.iso_model.specs.Resources.{Resources, empty_world}
use Rattle.iso_model.specs.Scripts.{Class, class, Member, test_member, Members, no_members, member}
use Rattle.iso_model.specs.Syntax.{Act}
use Rattle.iso_model.specs.declared.access.Access.TheVariants.{Read, Write}
use Rattle.iso_model.specs.declared.heads.Mark.{Mark}
use Rattle.iso_model.specs.declared.heads.Target.TheVariants.{Itself}
use Rattle.iso_model.specs.declared.outcome.Outcome.{Outcome}
use Rattle.iso_model.specs.declared.resource.Resource.TheVariants.{File}
use Rattle.iso_plan.specs.Examples.{concurrent_by_default}

abbrev reads : Mark
reads = record { access = Read; target = Itself; key = file_a }

abbrev writes : Mark
writes = record { access = Write; target = Itself; key = file_a }

abbrev test : String → List Mark → List Act → Member
test title marks acts =
    test_member (record {
      name = codes title;
      display = None;
      mode = None;
      head = record { marks = marks; disabled = None; body = body acts };
    })

abbrev a_class : String → ClassHead → Members → Class
a_class title head members =
    class (record {
      name = codes title;
      display = None;
      mode = None;
      isolated = false;
      head = head;
    }) members

-- read "file:a" test looks { print file("a"); }
abbrev looks : Member
looks = test "looks" (reads ∷ []) (print (file (quoted "a")) ∷ [])

-- write "file:a" test sets { write_file "a", "2"; print file("a"); }
abbrev writes_it : Member
writes_it = test "sets" (writes ∷ []) (write_file (quoted "a") (quoted "2")
    ∷ print (file (quoted "a")) ∷ [])

-- class Cart { before_all { print "open"; } after_all { print "close"; } .. }
abbrev cart_head : ClassHead
cart_head = record empty_head {
  before_all = body (print (quoted "open") ∷ []);
  after_all = body (print (quoted "close") ∷ []);
}

-- the starting values of a world that says that file a is "1"
abbrev a_is_1 : Resources
a_is_1 k = cond (bytes_eq k file_a) (Some (File (Some (codes "1")))) (empty_world k)

-- nodes 1 to 4: class Cart with test looks, test sets, and test looks again. All are CONCURRENT;
-- file a is "1".
abbrev pub cart : Launch
cart = record {
  written =
      record {
        team = codes "shop";
        classes = a_class "Cart" cart_head
            (member looks (member writes_it (member looks no_members))) ∷ [];
      } ∷ [];
  only = [];
  settings = concurrent_by_default;
  start = a_is_1;
}

-- whether these are accepted on two workers; why one more event is refused, if it is; and what a
-- node came to, if it is finished
abbrev pub is_run_of_cart : List Event → Bool
is_run_of_cart es = is_run scripts (launched cart) 2 (first scripts (launched cart)) es

abbrev pub refused_after : List Event → Event → Option Refused
refused_after es e = refusal scripts (launched cart) 2
    (after_all_of scripts (launched cart) (first scripts (launched cart)) es) e

abbrev pub came_to : List Event → ℕ → Option Outcome
came_to es n = result_of (after_all_of scripts (launched cart) (first scripts (launched cart)) es) n

abbrev pub is_whole : List Event → Bool
is_whole es = is_complete (launched cart)
    (after_all_of scripts (launched cart) (first scripts (launched cart)) es)

-- the class is opened, and the writer's body has written the file
abbrev pub opened : List Event
opened = Enter 0 1 ∷ Step 0 ∷ Leave 0 ∷ []

abbrev pub has_written : List Event
has_written = opened ++ Enter 0 3 ∷ Step 0 ∷ []

-- both readers side by side, once the writer has left
abbrev pub side_by_side : List Event
side_by_side = has_written ++ Step 0 ∷ Leave 0 ∷ Enter 1 2 ∷ Enter 0 4 ∷ Step 0 ∷ Step 1 ∷ Leave 1
    ∷ Leave 0 ∷ []

-- and the class to its end
abbrev pub whole : List Event
whole = side_by_side ++ Shut 0 1 ∷ Step 0 ∷ Leave 0 ∷ []
