-- The statics and fields of a class, by rules. `IsX x ps qs` says that the pieces ps are those of
-- x, and then the pieces qs.
--
-- statics and fields: Of a class whose enclosing classes have some names: each with a name that is
-- neither among these nor another's of the class (`IsVariables`).
use Rattle.std.specs.Prelude.{ℕ, List, [], ◌∷◌, ◌++◌, ◌≡◌, Bool, false, Option, Some, None, map, ◌||◌}
use Rattle.std.specs.Borrow.{Bor}
use Rattle.std.specs.BTreeSet.{BTreeSet, contains_by}
use Rattle.std.specs.Cmp.Lexicographic.{slice_cmp}
use Rattle.std.specs.List.{IsDistinct, AllByRecursion, filter_map}
use Rattle.std.specs.Ordering.{nat_cmp}
use Rattle.std.specs.Str.{bytes_eq}
use Rattle.iso_script_lexer.specs.Piece.{Piece, name_at, word_at, symbol_at}
use Rattle.iso_script_lexer.specs.declared.symbol.Symbol.TheVariants.{Equals, Semicolon}
use Rattle.iso_script_lexer.specs.declared.word.Word.{Word}
use Rattle.iso_script_lexer.specs.declared.word.Word.TheVariants as W
use Rattle.iso_model.specs.declared.data.Data.{Data}
use Rattle.iso_model.specs.declared.heads.Variable.{Variable}
use Rattle.iso_script_statements.specs.Expressions.{IsLiteral}
use Rattle.iso_model.specs.NameSets.{is_among}
use Rattle.iso_script.specs.Readings.{AreRead, meant_next}
use Rattle.iso_script.specs.declared.variable.Variables as D
use Rattle.iso_script.specs.declared.variable.VariableWord.{VariableWord}
use Rattle.iso_script.specs.declared.variable.VariableWord.TheVariants.{Static, Field}
use Rattle.iso_script_lexer.specs.declared.token.Position.{Position}

-- what variable a word begins
abbrev pub variable_word : Word → Option VariableWord
variable_word W.Static = Some Static
variable_word W.Field = Some Field
variable_word _ = None

-- what variable the word that is next begins
abbrev pub variable_next : List Piece → Option VariableWord
variable_next = meant_next variable_word

-- a static or a field, as it is written
pub record Declared : Type 0 where
  pub word : VariableWord
  pub variable : Variable

pub data IsDeclared : Declared → List Piece → List Piece → Type 0 where
  a_variable : {r q p s : Position} {w : Word} {meant : VariableWord} {n : List ℕ} {x : Data}
      {ps qs : List Piece}
      → variable_word w ≡ Some meant → IsLiteral x ps (symbol_at s Semicolon ∷ qs)
      → IsDeclared (record { word = meant; variable = record { name = n; value = x } })
      (word_at r w ∷ name_at q n ∷ symbol_at p Equals ∷ ps) qs

-- what a class has of its statics and fields
pub record Variables : Type 0 where
  pub statics : List Variable
  pub fields : List Variable

abbrev pub variables_of : D.Variables → Variables
variables_of v = record { statics = v.statics.items; fields = v.fields.items }

abbrev if_static : VariableWord → Variable → Option Variable
if_static Static x = Some x
if_static Field x = None

abbrev if_field : VariableWord → Variable → Option Variable
if_field Static x = None
if_field Field x = Some x

abbrev pub static_in : Declared → Option Variable
static_in d = if_static d.word d.variable

abbrev pub field_in : Declared → Option Variable
field_in d = if_field d.word d.variable

abbrev pub name_in : Declared → List ℕ
name_in d = d.variable.name

-- the names of the statics and fields
abbrev pub names_of : Variables → List (List ℕ)
names_of v = map (λ (x : Variable). x.name) v.statics ++ map (λ (x : Variable). x.name) v.fields

-- The statics and fields of a class whose enclosing classes have these names, until none is next:
-- each has a name that none of the class and of the enclosing classes has.
pub record IsVariables (taken : List (List ℕ)) (variables : Variables)
    (ps qs : List Piece) : Type 0 where
  pub written : List Declared
  pub read : AreRead IsDeclared written ps qs
  pub ends : variable_next qs ≡ None
  pub distinct : IsDistinct bytes_eq (map name_in written)
  pub free : AllByRecursion (λ n. is_among taken n ≡ false) (map name_in written)
  pub statics : filter_map static_in written ≡ variables.statics
  pub fields : filter_map field_in written ≡ variables.fields

-- a name that is neither among those that are taken nor among others
abbrev pub IsNew : (taken names : List (List ℕ)) → List ℕ → Type 0
IsNew taken names n = (is_among taken n ≡ false) × (is_among names n ≡ false)

-- whether one of the sets has a name
abbrev pub is_in_any : List (BTreeSet (Bor (List ℕ))) → List ℕ → Bool
is_in_any [] n = false
is_in_any (set ∷ sets) n = contains_by (λ k. slice_cmp nat_cmp n k.now) set || is_in_any sets n

-- the sets have these names and no others
abbrev pub KnowAll : List (BTreeSet (Bor (List ℕ))) → List (List ℕ) → Type 0
KnowAll sets names = (n : List ℕ) → is_in_any sets n ≡ is_among names n
