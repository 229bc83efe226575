-- The kinds of operands, as far as the syntax shows them.
use Rattle.std.specs.Prelude.{ℕ, List, Bool, true, false, ◌&&◌, codes, not}
use Rattle.iso_explain_block.specs.declared.kind.Kind.{Kind}
use Rattle.iso_explain_block.specs.declared.kind.Kind.TheVariants as K
use Rattle.iso_model.specs.Syntax.{Term, literal, name, chain, compare, call, locale}
use Rattle.iso_model.specs.declared.data.Data.{Data}
use Rattle.iso_model.specs.declared.data.Data.TheVariants as D
use Rattle.iso_model.specs.declared.tree.Function.{Function}
use Rattle.iso_model.specs.declared.tree.Function.TheVariants as F
use Rattle.iso_model.specs.declared.tree.Operator.{Operator}
use Rattle.iso_model.specs.declared.tree.Operator.TheVariants as O

-- the kind of a literal
abbrev pub literal_kind : Data → Kind
literal_kind (D.Whole n) = K.Whole
literal_kind (D.Flag b) = K.Flag
literal_kind (D.Text t) = K.Text

-- the kind of a chain, and of each operand that it takes
abbrev pub chain_kind : Operator → Kind
chain_kind O.Add = K.Whole
chain_kind O.Subtract = K.Whole
chain_kind O.Multiply = K.Whole
chain_kind O.Join = K.Text

-- the kind of what a function gives
abbrev pub call_kind : Function → Kind
call_kind F.Len = K.Whole
call_kind F.HasProp = K.Flag
call_kind F.HasFile = K.Flag
call_kind F.Text = K.Text
call_kind F.Prop = K.Text
call_kind F.File = K.Text

-- the kind of what an expression gives: a name's is hidden
abbrev pub kind_of : Term → Kind
kind_of (literal d) = literal_kind d
kind_of (name x) = K.Hidden
kind_of (chain o t ts) = chain_kind o
kind_of (compare c t u) = K.Flag
kind_of (call f t) = call_kind f
kind_of locale = K.Text

-- whether a kind is shown to be the one that is wanted
abbrev pub is : (wanted kind : Kind) → Bool
is K.Whole K.Whole = true
is K.Flag K.Flag = true
is K.Text K.Text = true
is _ _ = false

-- whether a kind isn't shown
abbrev pub is_hidden : Kind → Bool
is_hidden K.Hidden = true
is_hidden _ = false

-- whether a kind is shown to be another one than is wanted
abbrev pub is_other : (wanted kind : Kind) → Bool
is_other wanted kind = not (is_hidden kind) && not (is wanted kind)

-- what a kind is called
abbrev pub kind_words : Kind → List ℕ
kind_words K.Whole = codes "a whole number"
kind_words K.Flag = codes "a truth value"
kind_words K.Text = codes "a text"
kind_words K.Hidden = codes "of any kind"
