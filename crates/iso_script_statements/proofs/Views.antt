-- Variants of the tree, as they are seen.
use Rattle.std.proofs.Common.{◌≡◌, ◌∙◌, ◌==◌, true, ap, ap₂, refl, sym, ℕ, ℤ, List, Box, Vec, Global, vec_len, rules}
use Rattle.iso_model.specs.Syntax.{literal, name, compare, call, locale, let_name, assign, assume, fail, Act, plain, choice}
use Rattle.iso_model.proofs.SameLemmas.{empty_told}
use Rattle.iso_model.proofs.TreeLemmas.{first_body, second_body, form_of-if, form_of-if_else}
use Rattle.iso_model.specs.declared.tree.Comparison.{Comparison}
use Rattle.iso_model.specs.declared.tree.Function.{Function}
use Rattle.iso_model.specs.SyntaxView.{acts_of, block_of, term_of, form_of, stmt_of, with_one, with_two}
use Rattle.iso_script_statements.specs.Statements.{body_of}
use Rattle.iso_model.specs.declared.tree.Form.{Form}
use Rattle.iso_model.specs.declared.tree.OneOperand.{OneOperand}
use Rattle.iso_model.specs.declared.tree.TwoBodies.{TwoBodies, roll-TwoBodies}
use Rattle.iso_model.specs.declared.tree.TwoOperands.{TwoOperands}
use Rattle.iso_model.specs.declared.tree.Stmt.{Stmt, roll-Stmt}
use Rattle.iso_model.specs.declared.data.Data.TheVariants.{Whole}
use Rattle.iso_model.specs.declared.tree.Expr.{Expr}
use Rattle.iso_model.specs.declared.tree.Expr as E
use Rattle.iso_model.specs.declared.tree.Form as F

pub term_of-whole : (n : ℤ) → term_of (E.Whole n) ≡ literal (Whole n)
term_of-whole n = search (rules, E.the_lemmas)

pub form_of-one : (what : OneOperand) (e : Expr) → form_of (F.One what e) ≡ plain (with_one what (term_of e))
form_of-one what e = search (rules, F.the_lemmas)

pub form_of-two : (what : TwoOperands) (e f : Expr) → form_of (F.Two what e f) ≡ plain (with_two what (term_of e) (term_of f))
form_of-two what e f = search (rules, F.the_lemmas)

pub form_of-let : (n : List ℕ) (e : Expr) → form_of (F.Let n e) ≡ plain (let_name n (term_of e))
form_of-let n e = search (rules, F.the_lemmas)

pub form_of-assign : (n : List ℕ) (e : Expr) → form_of (F.Assign n e) ≡ plain (assign n (term_of e))
form_of-assign n e = search (rules, F.the_lemmas)

pub form_of-assume : (e : Expr) (t : List ℕ) → form_of (F.Assume e t) ≡ plain (assume (term_of e) t)
form_of-assume e t = search (rules, F.the_lemmas)

pub form_of-fail : (t : List ℕ) → form_of (F.Fail t) ≡ plain (fail t)
form_of-fail t = search (rules, F.the_lemmas)

first_of-both : (a b : Vec Stmt Global) → first_body (roll-TwoBodies (record { first = a; second = b })) ≡ a.items
first_of-both a b = search (rules, F.the_lemmas)

second_of-both : (a b : Vec Stmt Global) → second_body (roll-TwoBodies (record { first = a; second = b })) ≡ b.items
second_of-both a b = search (rules, F.the_lemmas)

pub form_of-choice : (e : Expr) (a b : Vec Stmt Global) (both : Box TwoBodies Global) → both.value ≡ roll-TwoBodies (record { first = a; second = b })
    → form_of (F.IfElse e both) ≡ choice (term_of e) (body_of a) (body_of b)
form_of-choice e a b both is =
    form_of-if_else e both
    ∙ ap₂ (λ (xs ys : List Stmt). choice (term_of e) (block_of xs) (block_of ys)) (ap first_body is ∙ first_of-both a b) (ap second_body is ∙ second_of-both a b)

pub form_of-lone : (e : Expr) (a b : Vec Stmt Global) → (vec_len b == 0) ≡ true → form_of (F.If e a) ≡ choice (term_of e) (body_of a) (body_of b)
form_of-lone e a b none =
    form_of-if e a ∙ ap (λ (ss : List (ℕ × Act)). choice (term_of e) (body_of a) (acts_of ss)) (sym ((empty_told stmt_of b refl).0 none))

pub stmt_of-parts : (row : ℕ) (f : Form) → stmt_of (roll-Stmt (record { row = row; form = f })) ≡ (row, form_of f)
stmt_of-parts row f = search (rules, F.the_lemmas)

pub term_of-locale : term_of E.Locale ≡ locale
term_of-locale = search (rules, E.the_lemmas)

pub term_of-name : (x : List ℕ) → term_of (E.Name x) ≡ name x
term_of-name x = search (rules, E.the_lemmas)

pub term_of-call : (f : Function) (b : Box Expr Global) → term_of (E.Call f b) ≡ call f (term_of b.value)
term_of-call f b = search (rules, E.the_lemmas)

pub term_of-compare : (c : Comparison) (a b : Box Expr Global) → term_of (E.Compare c a b) ≡ compare c (term_of a.value) (term_of b.value)
term_of-compare c a b = search (rules, E.the_lemmas)
