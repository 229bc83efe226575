-- What a statement stands for, by its form, and what its step does.
use Rattle.std.proofs.Common.{Result, OnOk, Option, Vec, Box, ◌≡◌, ℕ, List, ◌++◌, rules, refl, sym, ap₂, ◌∙◌, subst}
use Rattle.std.proofs.lemmas.Result.{on_ok_weaker}
use Rattle.std.specs.declared.alloc.Global.{Global}
use Rattle.iso_model.proofs.TreeLemmas.{first_body, second_body, form_of-if, form_of-if_else, form_of-repeat}
use Rattle.iso_model.specs.Rights.{Rights}
use Rattle.iso_model.specs.Statements.{State, performed}
use Rattle.iso_model.specs.Steps.{Piece, begin}
use Rattle.iso_model.specs.Syntax as S
use Rattle.iso_model.specs.Syntax.{Act, Plain, plain}
use Rattle.iso_model.specs.SyntaxView.{term_of, form_of, stmt_of, block_of, with_one, with_two}
use Rattle.iso_model.specs.declared.tree.Expr.{Expr}
use Rattle.iso_model.specs.declared.tree.Form as F
use Rattle.iso_model.specs.declared.tree.OneOperand.{OneOperand}
use Rattle.iso_model.specs.declared.tree.Stmt.{Stmt}
use Rattle.iso_model.specs.declared.tree.TwoBodies.{TwoBodies}
use Rattle.iso_model.specs.declared.tree.TwoOperands.{TwoOperands}
use Rattle.iso_interp.specs.Runs.{SameWork, pieces_in, pieces_of}
use Rattle.iso_interp.specs.declared.run.BlockRun.{BlockRun}
use Rattle.iso_interp.specs.declared.run.Pending.{Pending}

stmt_of-parts : (s : Stmt) → stmt_of s ≡ (s.row, form_of s.form)
stmt_of-parts s = search (rules, F.the_lemmas)

form_of-let : (x : List ℕ) (e : Expr) → form_of (F.Let x e) ≡ plain (S.let_name x (term_of e))
form_of-let x e = search (rules, F.the_lemmas)

pub stmt_of-let : (s : Stmt) (x : List ℕ) (e : Expr) → s.form ≡ F.Let x e → stmt_of s ≡ (s.row, plain (S.let_name x (term_of e)))
stmt_of-let s x e is = stmt_of-parts s ∙ rw (is, form_of-let x e) refl

form_of-assign : (x : List ℕ) (e : Expr) → form_of (F.Assign x e) ≡ plain (S.assign x (term_of e))
form_of-assign x e = search (rules, F.the_lemmas)

pub stmt_of-assign : (s : Stmt) (x : List ℕ) (e : Expr) → s.form ≡ F.Assign x e → stmt_of s ≡ (s.row, plain (S.assign x (term_of e)))
stmt_of-assign s x e is = stmt_of-parts s ∙ rw (is, form_of-assign x e) refl

form_of-one : (what : OneOperand) (e : Expr) → form_of (F.One what e) ≡ plain (with_one what (term_of e))
form_of-one what e = search (rules, F.the_lemmas)

pub stmt_of-one : (s : Stmt) (what : OneOperand) (e : Expr) → s.form ≡ F.One what e → stmt_of s ≡ (s.row, plain (with_one what (term_of e)))
stmt_of-one s what e is = stmt_of-parts s ∙ rw (is, form_of-one what e) refl

form_of-two : (what : TwoOperands) (a b : Expr) → form_of (F.Two what a b) ≡ plain (with_two what (term_of a) (term_of b))
form_of-two what a b = search (rules, F.the_lemmas)

pub stmt_of-two : (s : Stmt) (what : TwoOperands) (a b : Expr) → s.form ≡ F.Two what a b → stmt_of s ≡ (s.row, plain (with_two what (term_of a) (term_of b)))
stmt_of-two s what a b is = stmt_of-parts s ∙ rw (is, form_of-two what a b) refl

form_of-assume : (e : Expr) (reason : List ℕ) → form_of (F.Assume e reason) ≡ plain (S.assume (term_of e) reason)
form_of-assume e reason = search (rules, F.the_lemmas)

pub stmt_of-assume : (s : Stmt) (e : Expr) (reason : List ℕ) → s.form ≡ F.Assume e reason → stmt_of s ≡ (s.row, plain (S.assume (term_of e) reason))
stmt_of-assume s e reason is = stmt_of-parts s ∙ rw (is, form_of-assume e reason) refl

pub stmt_of-if : (s : Stmt) (e : Expr) (a : Vec Stmt Global) → s.form ≡ F.If e a → stmt_of s ≡ (s.row, S.choice (term_of e) (block_of a.items) S.no_acts)
stmt_of-if s e a is = stmt_of-parts s ∙ rw (is, form_of-if e a) refl

pub stmt_of-if_else : (s : Stmt) (e : Expr) (b : Box TwoBodies Global) → s.form ≡ F.IfElse e b
    → stmt_of s ≡ (s.row, S.choice (term_of e) (block_of (first_body b.value)) (block_of (second_body b.value)))
stmt_of-if_else s e b is = stmt_of-parts s ∙ rw (is, form_of-if_else e b) refl

pub stmt_of-repeat : (s : Stmt) (e : Expr) (a : Vec Stmt Global) → s.form ≡ F.Repeat e a → stmt_of s ≡ (s.row, S.repeat (term_of e) (block_of a.items))
stmt_of-repeat s e a is = stmt_of-parts s ∙ rw (is, form_of-repeat e a) refl

-- what a statement does in its step, said of its form
pub begun-as : {E : Type 0} (result : Result (Unit {0}) E) (r : Rights) (s : Stmt) (a : Act) (old new : State) (ps qs : List Piece) → stmt_of s ≡ (s.row, a)
    → OnOk result ((new ≡ (begin r s.row a old).state) × (qs ≡ (begin r s.row a old).pieces ++ ps))
    → OnOk result ((new ≡ (begin r (stmt_of s).0 (stmt_of s).1 old).state) × (qs ≡ (begin r (stmt_of s).0 (stmt_of s).1 old).pieces ++ ps))
begun-as result r s a old new ps qs is done =
    subst (λ (p : ℕ × Act). OnOk result ((new ≡ (begin r p.0 p.1 old).state) × (qs ≡ (begin r p.0 p.1 old).pieces ++ ps))) (sym is) done

pub begun-plain : {E : Type 0} (result : Result (Unit {0}) E) (r : Rights) (s : Stmt) (p : Plain) (old new : State) (ps qs : List Piece) → stmt_of s ≡ (s.row, plain p) → qs ≡ ps
    → OnOk result (new ≡ performed r s.row p old)
    → OnOk result ((new ≡ (begin r (stmt_of s).0 (stmt_of s).1 old).state) × (qs ≡ (begin r (stmt_of s).0 (stmt_of s).1 old).pieces ++ ps))
begun-plain result r s p old new ps qs is same done =
    begun-as result r s (plain p) old new ps qs is (on_ok_weaker result (λ e. (e, same)) done)

pub same-pieces : (old new : BlockRun) → SameWork old new → pieces_of new ≡ pieces_of old
same-pieces old new work = ap₂ (λ (top : Option Pending) (below : Vec Pending Global). pieces_in top below.items) work.top work.below
