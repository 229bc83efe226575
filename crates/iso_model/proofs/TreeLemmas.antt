-- What a chain, a choice and a repeat of the tree stand for.
use Rattle.std.proofs.Common.{◌≡◌, List, Box, Vec, Global, rules}
use Rattle.iso_model.specs.Syntax.{chain, choice, repeat, no_acts}
use Rattle.iso_model.specs.SyntaxView.{term_of, terms_of_all, form_of, block_of}
use Rattle.iso_model.specs.declared.tree.Expr as E
use Rattle.iso_model.specs.declared.tree.Expr.{Expr}
use Rattle.iso_model.specs.declared.tree.Form as F
use Rattle.iso_model.specs.declared.tree.Form.TheViews.{out-TwoBodies}
use Rattle.iso_model.specs.declared.tree.Operands.{Operands}
use Rattle.iso_model.specs.declared.tree.Operator.{Operator}
use Rattle.iso_model.specs.declared.tree.Stmt.{Stmt}
use Rattle.iso_model.specs.declared.tree.TwoBodies.{TwoBodies}

pub term_of-chain : (op : Operator) (o : Box Operands Global)
    → term_of (E.Chain op o) ≡ chain op (term_of o.value.first) (terms_of_all o.value.rest.items)
term_of-chain op o = search (rules, E.the_lemmas)

pub form_of-if : (e : Expr) (a : Vec Stmt Global) → form_of (F.If e a) ≡ choice (term_of e) (block_of a.items) no_acts
form_of-if e a = search (rules, F.the_lemmas)

-- the two bodies of an `if` with `else`
abbrev pub first_body : TwoBodies → List Stmt
first_body bodies = (out-TwoBodies bodies).first.items

abbrev pub second_body : TwoBodies → List Stmt
second_body bodies = (out-TwoBodies bodies).second.items

pub form_of-if_else : (e : Expr) (b : Box TwoBodies Global)
    → form_of (F.IfElse e b) ≡ choice (term_of e) (block_of (first_body b.value)) (block_of (second_body b.value))
form_of-if_else e b = search (rules, F.the_lemmas)

pub form_of-repeat : (e : Expr) (a : Vec Stmt Global) → form_of (F.Repeat e a) ≡ repeat (term_of e) (block_of a.items)
form_of-repeat e a = search (rules, F.the_lemmas)
