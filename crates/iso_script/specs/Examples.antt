-- Example scripts: texts, and what they say. That each text is its script, the source module
-- `examples` states and proves.
use Prim.Native.String.{String}
use Rattle.std.specs.Prelude.{ℕ, List, [], ◌∷◌, ◌++◌, Some, None, true, false, codes, negsuc}
use Rattle.std.specs.List.{flat_map}
use Rattle.iso_model.specs.Chains.{ClassHead, empty_head}
use Rattle.iso_model.specs.Examples.Words.{fail, for_children, name, print, reads, variable, writes}
use Rattle.iso_model.specs.Scripts.{Test, ClassTitle, Class, class, Member, class_member, test_member, Members, no_members, member}
use Rattle.iso_model.specs.Syntax.{Acts, no_acts}
use Rattle.iso_model.specs.declared.data.Data.{Data}
use Rattle.iso_model.specs.declared.data.Data.TheVariants.{Text, Whole}
use Rattle.iso_model.specs.declared.heads.Variable.{Variable}
use Rattle.iso_model.specs.declared.script.Mode.TheVariants.{SameThread, Concurrent}
use Rattle.iso_script.specs.Grammar.{Reads, ReadsPlaced}
use Rattle.iso_script.specs.declared.place.BlockLines.TheVariants as B
use Rattle.iso_script.specs.declared.place.NodePlace.{NodePlace}
use Rattle.iso_script_lexer.specs.Examples.{at}
use Rattle.iso_script_statements.specs.Examples.{on, text_of}

abbrev pub members_of : List Member → Members
members_of [] = no_members
members_of (m ∷ ms) = member m (members_of ms)

-- lines are a script of team shop with these classes
abbrev pub AreClasses : List String → List Class → Type 0
AreClasses lines classes =
    Reads (text_of ("team shop" ∷ lines)) (record { team = codes "shop"; classes = classes })

-- the same where each line ends with a carriage return and its line feed
abbrev pub AreCrlfClasses : List String → List Class → Type 0
AreCrlfClasses lines classes =
    Reads (flat_map (λ l. codes l ++ codes "\r\n") ("team shop" ∷ lines))
    (record { team = codes "shop"; classes = classes })

-- the same, and their nodes have these places
abbrev pub ArePlacedClasses : List String → List Class → List NodePlace → Type 0
ArePlacedClasses lines classes =
    ReadsPlaced (text_of ("team shop" ∷ lines)) (record { team = codes "shop"; classes = classes })

-- a test and a class in which nothing else is written
abbrev pub a_test : String → Acts → Test
a_test n body = record {
  name = codes n;
  display = None;
  mode = None;
  head = record { marks = []; disabled = None; body = body };
}

abbrev pub a_title : String → ClassHead → ClassTitle
a_title n head =
    record { name = codes n; display = None; mode = None; isolated = false; head = head }

abbrev pub a_class : String → ClassHead → List Member → Class
a_class n head ms = class (a_title n head) (members_of ms)

-- an empty test, as the member of a class
abbrev pub empty_test : String → Member
empty_test n = test_member (a_test n no_acts)

-- every mark, and display texts, of a class and of its test
abbrev pub marked_text : List String
marked_text =
    "write \"d\" read children \"c\" read \"d\" isolated write children \"c\" concurrent"
    ∷ "disabled \"not yet\" class C \"The class\" {"
    ∷ "  disabled \"later\" same_thread read \"e\" test t \"The test\" { } }"
    ∷ []

abbrev pub marked_class : Class
marked_class =
    class (record {
      name = codes "C";
      display = Some (codes "The class");
      mode = Some Concurrent;
      isolated = true;
      head = record empty_head {
        marks = writes (codes "d") ∷ for_children (reads (codes "c")) ∷ reads (codes "d")
            ∷ for_children (writes (codes "c")) ∷ [];
        disabled = Some (codes "not yet");
      };
    })
    (members_of (test_member (record {
      name = codes "t";
      display = Some (codes "The test");
      mode = Some SameThread;
      head = record {
        marks = reads (codes "e") ∷ [];
        disabled = Some (codes "later");
        body = no_acts;
      };
    }) ∷ []))

-- statics and fields in turn
abbrev pub variables_text : List String
variables_text = "class C { static a = 7; field b = -1; static c = \"x\"; test t { } }" ∷ []

-- a static or field, by its literal
abbrev pub variable_of : String → Data → Variable
variable_of n x = record { name = codes n; value = x }

abbrev pub with_variables : ClassHead
with_variables =
    record empty_head {
      statics = variable "a" 7 ∷ variable_of "c" (Text (codes "x")) ∷ [];
      fields = variable_of "b" (Whole (negsuc 0)) ∷ [];
    }

-- each lifecycle block, with rows of its own
abbrev pub blocks_text : List String
blocks_text =
    "class C { after_each {"
    ∷ "fail \"a\"; } before_all { fail \"b\"; } after_all {"
    ∷ ""
    ∷ "fail \"c\"; } before_each { fail \"d\"; } test t { } }"
    ∷ []

abbrev pub with_blocks : ClassHead
with_blocks =
    record empty_head {
      before_all = on 1 (fail "b");
      after_all = on 3 (fail "c");
      before_each = on 1 (fail "d");
      after_each = on 2 (fail "a");
    }

-- Tests and classes in a class. Members of different classes have one name, and so have
-- fields of classes beside each other.
abbrev pub members_text : List String
members_text =
    "class C { test C { } class D { field x = 1; test C { } }"
    ∷ "class E { field x = 1; test C { } } test F { } }"
    ∷ []

abbrev pub with_field : ClassHead
with_field = record empty_head { fields = variable "x" 1 ∷ [] }

-- comments, tabs, and carriage returns before line feeds
abbrev pub commented_text : List String
commented_text = "// by hand:\ta comment" ∷ "class C { // \"" ∷ "\tstatic n = 1; //" ∷ "\ttest t {"
    ∷ "\t\tprint n; // n" ∷ "} }" ∷ []

abbrev pub commented_class : Class
commented_class =
    a_class "C" (record empty_head { statics = variable "n" 1 ∷ [] })
    (test_member (a_test "t" (on 2 (print (name "n")))) ∷ [])

-- a class with two blocks, a test with a display text, and a class in it, on lines of their own
abbrev pub placed_text : List String
placed_text =
    "class C {"
    ∷ "before_all"
    ∷ "{"
    ∷ "fail \"a\"; } after_each { }"
    ∷ "test t \"The test\""
    ∷ "  { } class D { before_each {"
    ∷ "} test t { } }"
    ∷ "test u { } }"
    ∷ []

abbrev pub placed_class : Class
placed_class =
    a_class "C" (record empty_head { before_all = on 2 (fail "a") })
    (test_member (record (a_test "t" no_acts) { display = Some (codes "The test") })
    ∷ class_member (a_class "D" empty_head (empty_test "t" ∷ [])) ∷ empty_test "u" ∷ [])

-- the place of a test, by the line and column of its name and the line of its body; and of a class,
-- by the lines of its blocks, 0 for none
abbrev pub test_at : (line column body : ℕ) → NodePlace
test_at line column body = record { name = at line column; blocks = B.Test body }

abbrev pub class_at : (line column before_all after_all before_each after_each : ℕ) → NodePlace
class_at line column a b c d =
    record {
      name = at line column;
      blocks = B.Class (record {
        before_all = record { number = a };
        after_all = record { number = b };
        before_each = record { number = c };
        after_each = record { number = d };
      });
    }
