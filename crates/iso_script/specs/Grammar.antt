-- The grammar of scripts, by rules. `IsX x places ps qs` says that the pieces ps are those of x,
-- and then the pieces qs, and that these are the places of the nodes of x, as they are written, a
-- class before its members. A number d among the arguments says how many more classes may be
-- opened, and taken are the names of the statics and fields of the enclosing classes.
--
-- grammar of classes and tests: Which tokens are a test, a class after its name, the members of a
-- class, and which places their nodes have, a class before its members: one member at least, no two
-- of one name, no test that is isolated or has a mark for children (`IsTest`, `IsClass`,
-- `HasMembers`, `IsMember`, `fits_test`).
-- Standard: JUnit 5, `@Nested`.
--
-- grammar of scripts: A relation between pieces, a script and the places of its nodes, by rules
-- (`IsScript` and what it is made of).
--
-- reading of a script: The bytes are no more than the limit, they have pieces from line 1 on, and
-- of these the script is read, with the places of its nodes (`ReadsPlaced`; `Reads`, whatever these
-- are).
use Rattle.std.specs.Global.{Global}
use Rattle.std.specs.Prelude.{ℕ, suc, ◌≤◌, List, [], ◌∷◌, ◌++◌, ◌≡◌, ◌≢◌, Option, Some, None, Vec, true, false, length, map}
use Rattle.std.specs.List.{IsDistinct}
use Rattle.std.specs.Str.{bytes_eq}
use Rattle.iso_script_lexer.specs.LexicalGrammar.{ArePiecesOf}
use Rattle.iso_script_lexer.specs.Piece.{Piece, name_at, word_at, symbol_at}
use Rattle.iso_script_lexer.specs.declared.symbol.Symbol.TheVariants.{OpenBrace, CloseBrace}
use Rattle.iso_script_lexer.specs.declared.word.Word.TheVariants as W
use Rattle.iso_model.specs.Chains.{ClassHead}
use Rattle.iso_model.specs.ScriptView.{class_of, member_of, members_of}
use Rattle.iso_model.specs.Scripts.{Test, ClassTitle, Class, class, Member, class_member, test_member, Members, no_members, member, Script}
use Rattle.iso_model.specs.Syntax.{Acts, no_acts}
use Rattle.iso_model.specs.declared.heads.Mark.{Mark}
use Rattle.iso_model.specs.declared.limits.TheConstants.{FILE_BYTES, CLASS_DEPTH}
use Rattle.iso_model.specs.declared.place.Lifecycle.TheVariants.{BeforeAll, AfterAll, BeforeEach, AfterEach}
use Rattle.iso_model.specs.declared.script.Class as C
use Rattle.iso_model.specs.declared.script.Member as M
use Rattle.iso_model.specs.NameSets.{is_among}
use Rattle.iso_script_statements.specs.Statements.{IsBlock}
use Rattle.iso_script.specs.Blocks.{Block, Blocks, IsBlocks}
use Rattle.iso_script.specs.Displays.{IsDisplayed}
use Rattle.iso_script.specs.Marks.{Marks, IsMarks, fits_test}
use Rattle.iso_script.specs.Places.{test_place, class_place}
use Rattle.iso_script.specs.Readings.{ArePlaced}
use Rattle.iso_script.specs.Variables.{Variables, IsVariables}
use Rattle.iso_script.specs.Variables as V
use Rattle.iso_script.specs.declared.place.NodePlace.{NodePlace}
use Rattle.iso_script_lexer.specs.declared.token.Position.{Position}

-- a test, from its marks, its name, its display text and its body
abbrev pub test : Marks → List ℕ → Option (List ℕ) → Acts → Test
test marks n display body = record {
  name = n;
  display = display;
  mode = marks.mode;
  head = record { marks = marks.keys; disabled = marks.disabled; body = body };
}

-- a test after its name, which stands at this position
pub data IsTest : (marks : Marks) (n : List ℕ) (at : Position) → Test → List NodePlace → List Piece
    → List Piece → Type 0 where
  a_test : {at b : Position} {marks : Marks} {n : List ℕ} {display : Option (List ℕ)} {body : Acts}
      {ps qs rs : List Piece}
      → IsDisplayed display ps (symbol_at b OpenBrace ∷ qs)
      → IsBlock body (symbol_at b OpenBrace ∷ qs) rs
      → IsTest marks n at (test marks n display body) (test_place at b.line ∷ []) ps rs

-- the statements of a lifecycle block: one that is not written has none
abbrev pub statements_in : Option Block → Acts
statements_in None = no_acts
statements_in (Some block) = block.body

-- what a class gives to its tests, from its keys, why it is disabled, its statics and fields, and
-- its lifecycle blocks
abbrev pub class_head : List Mark → Option (List ℕ) → Variables → Blocks → ClassHead
class_head keys reason variables blocks =
    record {
      statics = variables.statics;
      fields = variables.fields;
      marks = keys;
      disabled = reason;
      before_all = statements_in (blocks BeforeAll);
      after_all = statements_in (blocks AfterAll);
      before_each = statements_in (blocks BeforeEach);
      after_each = statements_in (blocks AfterEach);
    }

-- what stands before the members of a class
abbrev pub title : Marks → List ℕ → Option (List ℕ) → Variables → Blocks → ClassTitle
title marks n display variables blocks =
    record {
      name = n;
      display = display;
      mode = marks.mode;
      isolated = marks.isolated;
      head = class_head marks.keys marks.disabled variables blocks;
    }

-- the name of a member
abbrev pub name_of : Member → List ℕ
name_of (class_member (class title ms)) = title.name
name_of (test_member t) = t.name

-- the names of members
abbrev pub names_of : Members → List (List ℕ)
names_of no_members = []
names_of (member m ms) = name_of m ∷ names_of ms

mutual
  -- A test or a class: marks, its word, its name, and what follows. The marks of a test have to fit
  -- one.
  pub data IsMember : (d : ℕ) (taken : List (List ℕ)) → Member → List NodePlace → List Piece
      → List Piece → Type 0 where
    as_test : {d : ℕ} {r q : Position} {taken : List (List ℕ)} {marks : Marks} {n : List ℕ}
        {t : Test} {places : List NodePlace}
        {ps qs rs : List Piece}
        → IsMarks marks ps (word_at r W.Test ∷ name_at q n ∷ qs) → fits_test marks ≡ true
        → IsTest marks n q t places qs rs
        → IsMember d taken (test_member t) places ps rs
    as_class : {d : ℕ} {r q : Position} {taken : List (List ℕ)} {marks : Marks} {n : List ℕ}
        {c : Class} {places : List NodePlace}
        {ps qs rs : List Piece}
        → IsMarks marks ps (word_at r W.Class ∷ name_at q n ∷ qs)
        → IsClass d taken marks n q c places qs rs
        → IsMember (suc d) taken (class_member c) places ps rs

  -- A class after its name, which stands at this position. A class in it can take no name of its
  -- statics and fields.
  pub data IsClass : (d : ℕ) (taken : List (List ℕ)) (marks : Marks) (n : List ℕ) (at : Position)
      → Class → List NodePlace → List Piece → List Piece → Type 0 where
    a_class : {d : ℕ} {at b : Position} {taken : List (List ℕ)} {marks : Marks} {n : List ℕ}
        {display : Option (List ℕ)} {variables : Variables} {blocks : Blocks} {ms : Members}
        {places : List NodePlace}
        {ps qs rs ss ts : List Piece}
        → IsDisplayed display ps (symbol_at b OpenBrace ∷ qs)
        → IsVariables taken variables qs rs
        → IsBlocks blocks rs ss
        → HasMembers d (V.names_of variables ++ taken) ms places ss ts
        → IsClass d taken marks n at (class (title marks n display variables blocks) ms)
        (class_place at blocks ∷ places) ps ts

  -- the members of a class, and the brace that closes them: one at least, and no two of one name
  pub data HasMembers : (d : ℕ) (taken : List (List ℕ)) → Members → List NodePlace → List Piece
      → List Piece → Type 0 where
    has_members : {d : ℕ} {taken : List (List ℕ)} {ms : Members} {places : List NodePlace}
        {ps qs : List Piece}
        → IsMembers d taken ms places ps qs → ms ≢ no_members → IsDistinct bytes_eq (names_of ms)
        → HasMembers d taken ms places ps qs

  -- any members, and the brace that closes them
  pub data IsMembers : (d : ℕ) (taken : List (List ℕ)) → Members → List NodePlace → List Piece
      → List Piece → Type 0 where
    closed : {d : ℕ} {r : Position} {taken : List (List ℕ)} {ps : List Piece}
        → IsMembers d taken no_members [] (symbol_at r CloseBrace ∷ ps) ps
    and_then : {d : ℕ} {taken : List (List ℕ)} {m : Member} {ms : Members}
        {own more : List NodePlace} {ps qs rs : List Piece}
        → IsMember d taken m own ps qs → IsMembers d taken ms more qs rs
        → IsMembers d taken (member m ms) (own ++ more) ps rs

-- a member whose name is none of these
abbrev pub IsNewMember : (names : List (List ℕ)) (d : ℕ) (taken : List (List ℕ))
    → Member → List NodePlace → List Piece → List Piece → Type 0
IsNewMember names d taken m places ps qs =
    IsMember d taken m places ps qs × (is_among names (name_of m) ≡ false)

-- what the members of a class stand for
abbrev pub members_in : Vec M.Member Global → Members
members_in v = members_of (map member_of v.items)

-- what classes stand for
abbrev pub classes_in : Vec C.Class Global → List Class
classes_in v = map class_of v.items

-- a top-level class: no class encloses it
abbrev pub IsTopClass : Class → List NodePlace → List Piece → List Piece → Type 0
IsTopClass c = IsMember CLASS_DEPTH [] (class_member c)

-- a script: a team and its classes, up to the end
pub data IsScript : Script → List NodePlace → List Piece → Type 0 where
  a_script : {r q : Position} {n : List ℕ} {cs : List Class} {places : List NodePlace}
      {ps : List Piece}
      → ArePlaced IsTopClass cs places ps []
      → IsScript (record { team = n; classes = cs }) places (word_at r W.Team ∷ name_at q n ∷ ps)

-- The script of bytes, and the places of its nodes: they are not too many, and from line 1 on they
-- have pieces of which the script is read.
pub record ReadsPlaced (bytes : List ℕ) (s : Script) (places : List NodePlace) : Type 0 where
  pub short : length bytes ≤ FILE_BYTES
  pub pieces : List Piece
  pub spelled : ArePiecesOf bytes pieces
  pub read : IsScript s places pieces

-- the script of bytes, whatever places its nodes have
pub record Reads (bytes : List ℕ) (s : Script) : Type 0 where
  pub places : List NodePlace
  pub placed : ReadsPlaced bytes s places
