use Rattle.std.proofs.Common.{◌≡◌, ◌<◌, ℕ, List, length, get_or, map, sym, ap, ◌∙◌, arith, true≢false}
use Rattle.std.proofs.lemmas.List.{get_or-map, length-map, take_more_same}
use Rattle.iso_affected.proofs.FirstLemmas.{apart-here}
use Rattle.iso_model.specs.Syntax.{Act}
use Rattle.iso_model.specs.SyntaxView.{stmt_of}
use Rattle.iso_model.specs.declared.tree.Stmt.{Stmt}
use Rattle.iso_affected.proofs.firsts.first_statement.Goals as goal

-- what a statement that was read stands for stands at its place
read : (xs : List Stmt) (i : ℕ) (x : Stmt) (d : ℕ × Act) → i < length xs → x ≡ get_or xs i x → get_or (map stmt_of xs) i d ≡ stmt_of x
read xs i x d h is = get_or-map stmt_of xs i x d h ∙ ap stmt_of (sym is)

pub returns-then-not-same_stmt : goal.returns-then-not-same_stmt
returns-then-not-same_stmt c =
    let i = c.statements.place in
    let was : ℕ × Act = stmt_of c.index-was-place.result in
    let within : i < length c.args.was.now = omega arith in
    let inside : i < length c.args.now.now = omega arith in
    apart-here (map stmt_of c.args.was.now) (map stmt_of c.args.now.now) i was
    (λ same. true≢false (sym (c.same_stmt.ensures.1 (sym (read c.args.was.now i _ was within c.index-was-place.is) ∙ same ∙ read c.args.now.now i _ was inside c.index-now-place.is))
    ∙ c.if-not-same_stmt.true))
    c.statements.invariant

pub statements-preserved : goal.statements-preserved
statements-preserved c =
    let i = c.statements.place in
    let was : ℕ × Act = stmt_of c.index-was-place.result in
    let within : i < length c.args.was.now = omega arith in
    let inside : i < length c.args.now.now = omega arith in
    take_more_same (map stmt_of c.args.was.now) (map stmt_of c.args.now.now) i was
    (omega (arith, length-map c.args.was.now stmt_of)) (omega (arith, length-map c.args.now.now stmt_of)) c.statements.invariant
    (read c.args.was.now i _ was within c.index-was-place.is ∙ c.same_stmt.ensures.0 c.if-not-same_stmt.false ∙ sym (read c.args.now.now i _ was inside c.index-now-place.is))
