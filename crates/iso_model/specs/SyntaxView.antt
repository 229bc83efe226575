-- What the tree of expressions and statements stands for.
use Rattle.std.specs.Prelude.{ℕ, List, [], ◌∷◌, map}
use Rattle.iso_model.specs.Syntax.{Term, literal, name, chain, compare, call, locale, Terms, no_terms, term, Plain, let_name, assign, print, assert, assert_equal, assume, fail, set_prop, clear_prop, set_locale, write_file, append_file, delete_file, Act, plain, choice, repeat, Acts, no_acts, act}
use Rattle.iso_model.specs.declared.tree.Expr.{Expr, fold-Expr}
use Rattle.iso_model.specs.declared.tree.Expr.TheOpen.{Expr-F, Operands-F}
use Rattle.iso_model.specs.declared.tree.Form.{Form, fold-Form}
use Rattle.iso_model.specs.declared.tree.Stmt.{Stmt, fold-Stmt}
use Rattle.iso_model.specs.declared.tree.Form.TheOpen.{Form-F, Stmt-F, TwoBodies-F}
use Rattle.iso_model.specs.declared.data.Data.TheVariants.{Whole, Flag, Text}
use Rattle.iso_model.specs.declared.tree.OneOperand.{OneOperand}
use Rattle.iso_model.specs.declared.tree.OneOperand.TheVariants.{Print, Assert, ClearProp, SetLocale, DeleteFile}
use Rattle.iso_model.specs.declared.tree.TwoOperands.{TwoOperands}
use Rattle.iso_model.specs.declared.tree.TwoOperands.TheVariants.{AssertEqual, SetProp, WriteFile, AppendFile}

abbrev pub terms_of : List Term → Terms
terms_of [] = no_terms
terms_of (t ∷ ts) = term t (terms_of ts)

abbrev pub operands_step : Operands-F Term (Term × Terms) → Term × Terms
operands_step o = (o.first, terms_of o.rest.items)

abbrev pub term_step : Expr-F Term (Term × Terms) → Term
term_step (Expr-F.Whole n) = literal (Whole n)
term_step (Expr-F.Flag b) = literal (Flag b)
term_step (Expr-F.Text t) = literal (Text t)
term_step (Expr-F.Name x) = name x
term_step (Expr-F.Chain op o) = chain op o.value.0 o.value.1
term_step (Expr-F.Compare c a b) = compare c a.value b.value
term_step (Expr-F.Call f e) = call f e.value
term_step Expr-F.Locale = locale

-- what an expression stands for
abbrev pub term_of : Expr → Term
term_of = fold-Expr Term (Term × Terms) term_step operands_step

-- what several expressions stand for
abbrev pub terms_of_all : List Expr → Terms
terms_of_all es = terms_of (map term_of es)

abbrev pub acts_of : List (ℕ × Act) → Acts
acts_of [] = no_acts
acts_of (p ∷ ps) = act p.0 p.1 (acts_of ps)

-- what a statement of one expression says, and one of two
abbrev pub with_one : OneOperand → Term → Plain
with_one Print = print
with_one Assert = assert
with_one ClearProp = clear_prop
with_one SetLocale = set_locale
with_one DeleteFile = delete_file

abbrev pub with_two : TwoOperands → Term → Term → Plain
with_two AssertEqual = assert_equal
with_two SetProp = set_prop
with_two WriteFile = write_file
with_two AppendFile = append_file

abbrev pub form_step : Form-F Act (ℕ × Act) (Acts × Acts) → Act
form_step (Form-F.Let x e) = plain (let_name x (term_of e))
form_step (Form-F.Assign x e) = plain (assign x (term_of e))
form_step (Form-F.One what e) = plain (with_one what (term_of e))
form_step (Form-F.Two what a b) = plain (with_two what (term_of a) (term_of b))
form_step (Form-F.Assume e reason) = plain (assume (term_of e) reason)
form_step (Form-F.Fail message) = plain (fail message)
form_step (Form-F.If e a) = choice (term_of e) (acts_of a.items) no_acts
form_step (Form-F.IfElse e bodies) = choice (term_of e) bodies.value.0 bodies.value.1
form_step (Form-F.Repeat e a) = repeat (term_of e) (acts_of a.items)

abbrev pub stmt_step : Stmt-F Act (ℕ × Act) (Acts × Acts) → ℕ × Act
stmt_step s = (s.row, s.form)

abbrev pub bodies_step : TwoBodies-F Act (ℕ × Act) (Acts × Acts) → Acts × Acts
bodies_step bodies = (acts_of bodies.first.items, acts_of bodies.second.items)

abbrev pub form_of : Form → Act
form_of = fold-Form Act (ℕ × Act) (Acts × Acts) form_step stmt_step bodies_step

-- what a statement stands for: its row, and what it does
abbrev pub stmt_of : Stmt → ℕ × Act
stmt_of = fold-Stmt Act (ℕ × Act) (Acts × Acts) form_step stmt_step bodies_step

-- what the statements of a body stand for
abbrev pub block_of : List Stmt → Acts
block_of stmts = acts_of (map stmt_of stmts)
