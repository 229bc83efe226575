-- Evaluation: what an expression gives over the visible names, the resources and the access rights.
--
-- evaluation: What an expression gives over names, resources and rights: a value or a fault
-- (`evaluated`). All operands come from the left, before a pair of them is checked; the pairs of a
-- chain are checked one after another.
use Rattle.std.specs.Prelude.{ℕ, List, [], ◌∷◌, ◌++◌, length, Option, Some, None, Result, Ok, Err, Bool, true, false, cond, not, ◌&&◌, ℤ, pos, negsuc, ◌+ℤ◌, ◌-ℤ◌, ◌*ℤ◌, nat_le, bytes_eq, is_some, option_map, int_lt, unwrap_or}
use Rattle.std.specs.Ordering.{int_eq}
use Rattle.iso_model.specs.ResourceKeys.{properties_key, locale_key, file_key}
use Rattle.iso_model.specs.Rights.{Rights, is_readable}
use Rattle.iso_model.specs.Resources.{Resources, property_in, text_in, locale_in}
use Rattle.iso_model.specs.Names.{binding_of}
use Rattle.iso_model.specs.Syntax.{Term, literal, name, chain, compare, call, locale, Terms, no_terms, term}
use Rattle.iso_model.specs.Texts.{text_of}
use Rattle.iso_model.specs.declared.limits.TheConstants.{TEXT_BYTES}
use Rattle.iso_model.specs.declared.access.Access.TheVariants.{Read}
use Rattle.iso_model.specs.declared.data.Data.{Data}
use Rattle.iso_model.specs.declared.data.Data.TheVariants.{Whole, Flag, Text}
use Rattle.iso_model.specs.declared.names.Binding.{Binding}
use Rattle.iso_model.specs.declared.fault.Fault.{Fault}
use Rattle.iso_model.specs.declared.fault.Fault.TheVariants.{Undeclared, Overflow, UnknownName, WrongKind, MissingProperty, MissingFile, BadCount, TextTooLong}
use Rattle.iso_model.specs.declared.tree.Operator.{Operator}
use Rattle.iso_model.specs.declared.tree.Operator.TheVariants.{Add, Subtract, Multiply, Join}
use Rattle.iso_model.specs.declared.tree.Comparison.{Comparison}
use Rattle.iso_model.specs.declared.tree.Comparison.TheVariants.{Equal, NotEqual, Less}
use Rattle.iso_model.specs.declared.tree.Function.{Function}
use Rattle.iso_model.specs.declared.tree.Function.TheVariants as F

-- a value, or the fault that ends the block
abbrev pub Given : Type 0
Given = Result Data Fault

-- goes on with what was given; the first fault ends the block
abbrev pub then : {A B : Type 0} → Result A Fault → (A → Result B Fault) → Result B Fault
then (Ok x) f = f x
then (Err fault) f = Err fault

abbrev pub or_fault : {A : Type 0} → Option A → Fault → Result A Fault
or_fault None fault = Err fault
or_fault (Some x) fault = Ok x

-- a text, a truth value and a count: WrongKind for a value of another kind, BadCount for a negative
-- number
abbrev pub as_text : Data → Result (List ℕ) Fault
as_text (Text t) = Ok t
as_text d = Err WrongKind

abbrev pub as_flag : Data → Result Bool Fault
as_flag (Flag b) = Ok b
as_flag d = Err WrongKind

abbrev pub as_count : Data → Result ℕ Fault
as_count (Whole (pos n)) = Ok n
as_count (Whole (negsuc n)) = Err BadCount
as_count d = Err WrongKind

abbrev pub as_texts : Data → Data → Result (List ℕ × List ℕ) Fault
as_texts (Text t) (Text u) = Ok (t, u)
as_texts d e = Err WrongKind

-- a whole number of 64 bits, as two's complement holds it; Overflow outside
abbrev pub whole : ℤ → Given
whole z =
    cond (not (int_lt z (negsuc 9223372036854775807)) && not (int_lt (pos 9223372036854775807) z))
    (Ok (Whole z)) (Err Overflow)

-- whether a text is no longer than the limit
abbrev pub is_short : List ℕ → Bool
is_short t = nat_le (length t) TEXT_BYTES

-- one pair of a chain
abbrev pub joined : Operator → Data → Data → Given
joined Add (Whole x) (Whole y) = whole (x +ℤ y)
joined Subtract (Whole x) (Whole y) = whole (x -ℤ y)
joined Multiply (Whole x) (Whole y) = whole (x *ℤ y)
joined Join (Text t) (Text u) = cond (is_short (t ++ u)) (Ok (Text (t ++ u))) (Err TextTooLong)
joined op x y = Err WrongKind

-- a chain of values, grouped to the left
abbrev pub joined_all : Operator → Data → List Data → Given
joined_all op x [] = Ok x
joined_all op x (y ∷ ys) = then (joined op x y) (λ z. joined_all op z ys)

-- whether two values are equal: WrongKind unless they are of one kind
abbrev pub is_equal : Data → Data → Result Bool Fault
is_equal (Whole x) (Whole y) = Ok (int_eq x y)
is_equal (Flag true) (Flag b) = Ok b
is_equal (Flag false) (Flag b) = Ok (not b)
is_equal (Text t) (Text u) = Ok (bytes_eq t u)
is_equal d e = Err WrongKind

abbrev pub is_less : Data → Data → Result Bool Fault
is_less (Whole x) (Whole y) = Ok (int_lt x y)
is_less d e = Err WrongKind

abbrev pub compared : Comparison → Data → Data → Result Bool Fault
compared Equal x y = is_equal x y
compared NotEqual x y = then (is_equal x y) (λ b. Ok (not b))
compared Less x y = is_less x y

-- a look at a key: Undeclared unless the rights have it
abbrev pub looked : {A : Type 0} → Rights → List ℕ → Result A Fault → Result A Fault
looked r k found = cond (is_readable (r k)) found (Err (Undeclared Read k))

-- what a function gives of its operand
abbrev pub called : Resources → Rights → Function → Data → Given
called m r F.Text d = Ok (Text (text_of d))
called m r F.Len d = then (as_text d) (λ t. Ok (Whole (pos (length t))))
called m r F.Prop d =
    then (as_text d) (λ x. looked r properties_key
    (or_fault (option_map Text (property_in (m properties_key) x)) (MissingProperty x)))
called m r F.HasProp d = then (as_text d)
    (λ x. looked r properties_key (Ok (Flag (is_some (property_in (m properties_key) x)))))
called m r F.File d =
    then (as_text d) (λ p. looked r (file_key p)
    (or_fault (option_map Text (text_in (m (file_key p)))) (MissingFile p)))
called m r F.HasFile d =
    then (as_text d) (λ p. looked r (file_key p) (Ok (Flag (is_some (text_in (m (file_key p)))))))

-- the value of an expression, and of several: operands from the left, each once
abbrev mutual
  pub evaluated : List Binding → Resources → Rights → Term → Given
  evaluated names m r (literal d) = Ok d
  evaluated names m r (name x) =
      or_fault (option_map (λ (b : Binding). b.value) (binding_of names x)) (UnknownName x)
  evaluated names m r (chain op e es) = then (evaluated names m r e)
      (λ x. then (evaluated_all names m r es) (λ ys. joined_all op x ys))
  evaluated names m r (compare c a b) = then (evaluated names m r a)
      (λ x. then (evaluated names m r b) (λ y. then (compared c x y) (λ holds. Ok (Flag holds))))
  evaluated names m r (call f e) = then (evaluated names m r e) (called m r f)
  evaluated names m r locale =
      looked r locale_key (Ok (Text (unwrap_or (locale_in (m locale_key)) [])))

  pub evaluated_all : List Binding → Resources → Rights → Terms → Result (List Data) Fault
  evaluated_all names m r no_terms = Ok []
  evaluated_all names m r (term e es) =
      then (evaluated names m r e) (λ d. then (evaluated_all names m r es) (λ ds. Ok (d ∷ ds)))
