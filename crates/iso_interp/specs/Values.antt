-- What the values of an evaluation stand for, wherever their texts are.
use Rattle.std.specs.Borrow.{Bor}
use Rattle.std.specs.Prelude.{ℕ, ℤ, List, ◌++◌, Option, Some, None, Result, Ok, Err, cond, ◌≡◌, ⊤}
use Rattle.iso_model.specs.Evaluation.{Given, evaluated, evaluated_all, is_equal, is_short, joined, joined_all, then}
use Rattle.iso_model.specs.Resources.{Resources}
use Rattle.iso_model.specs.Rights.{Rights}
use Rattle.iso_model.specs.Syntax.{Term}
use Rattle.iso_model.specs.SyntaxView.{terms_of_all}
use Rattle.iso_model.specs.Texts.{difference_message}
use Rattle.iso_model.specs.declared.data.Data.{Data}
use Rattle.iso_model.specs.declared.data.Data.TheVariants as D
use Rattle.iso_model.specs.declared.fault.Fault.{Fault}
use Rattle.iso_model.specs.declared.fault.Fault.TheVariants.{MissingFile, TextTooLong}
use Rattle.iso_model.specs.declared.names.Binding.{Binding}
use Rattle.iso_model.specs.declared.tree.Expr.{Expr}
use Rattle.iso_model.specs.declared.tree.Operator.{Operator}
use Rattle.iso_interp.specs.declared.interrupt.Interrupt.{Interrupt}
use Rattle.iso_interp.specs.declared.interrupt.Interrupt.TheVariants as I
use Rattle.iso_interp.specs.declared.value.TextValue.{TextValue}
use Rattle.iso_interp.specs.declared.value.TextValue.TheVariants.{Lent, Made}
use Rattle.iso_interp.specs.declared.value.Value.{Value}
use Rattle.iso_interp.specs.declared.value.Value.TheVariants.{Whole, Flag, Text}

abbrev pub bytes_of : TextValue → List ℕ
bytes_of (Lent t) = t.now
bytes_of (Made t) = t

abbrev pub data_of : Value → Data
data_of (Whole n) = D.Whole n
data_of (Flag b) = D.Flag b
data_of (Text t) = D.Text (bytes_of t)

abbrev pub given_of : Result Value Fault → Given
given_of (Ok v) = Ok (data_of v)
given_of (Err fault) = Err fault

-- what was given, or the fault: running out of memory tells nothing
abbrev pub Answers : {A B : Type 0} → (A → B) → Result A Interrupt → Result B Fault → Type 0
Answers view (Ok x) given = given ≡ Ok (view x)
Answers view (Err (I.Fault fault)) given = given ≡ Err fault
Answers view (Err I.OutOfMemory) given = ⊤

-- an expression has this value, whatever the resources and the rights are
abbrev pub AlwaysGives : List Binding → Term → Data → Type 0
AlwaysGives names e d = (m : Resources) (r : Rights) → evaluated names m r e ≡ Ok d

-- a number and the operand after it come to this number, whatever the resources and the rights are
abbrev pub ComeTo : List Binding → Operator → ℤ → Term → ℤ → Type 0
ComeTo names op x e z =
    (m : Resources) (r : Rights) → then (evaluated names m r e) (joined op (D.Whole x))
    ≡ Ok (D.Whole z)

-- a number and these operands come to this number, whatever the resources and the rights are
abbrev pub SumTo : List Binding → Operator → ℤ → List Expr → ℤ → Type 0
SumTo names op x es z = (m : Resources) (r : Rights) →
    then (evaluated_all names m r (terms_of_all es)) (joined_all op (D.Whole x))
    ≡ Ok (D.Whole z)

abbrev pub text_given : Result (Bor (List ℕ)) Fault → Result (List ℕ) Fault
text_given (Ok t) = Ok t.now
text_given (Err fault) = Err fault

-- what an `assert_equal` of two values says, where they differ
abbrev pub difference : Given → Given → Result (Option (List ℕ)) Fault
difference a b =
    then a (λ x. then b (λ y. then (is_equal x y)
    (λ holds. Ok (cond holds None (Some (difference_message x y))))))

-- a text after that of a file, where the file is there and they aren't too long together
abbrev pub appended : List ℕ → List ℕ → Option (List ℕ) → Result (List ℕ) Fault
appended p t None = Err (MissingFile p)
appended p t (Some before) = cond (is_short (before ++ t)) (Ok (before ++ t)) (Err TextTooLong)
