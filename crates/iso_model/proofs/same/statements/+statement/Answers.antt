use Rattle.std.proofs.Common.{◌≡◌, true, [], map, refl, sym, ap, ◌∙◌, rules}
use Rattle.iso_model.specs.SyntaxView.{form_of, stmt_of, term_of}
use Rattle.iso_model.proofs.SameLemmas.{choices_same, choices_differ, ifs_same, empty_told, repeats_same, same_here}
use Rattle.iso_model.proofs.TreeLemmas.{first_body, form_of-if, form_of-if_else, form_of-repeat}
use Rattle.iso_model.specs.declared.tree.Form.TheViews.{out-TwoBodies}
use Rattle.iso_model.proofs.same.statements.+statement.Goals.{same_form-then-same_expr-3, same_form-else-same_expr-3, same_form-then-same_expr-4, same_form-else-same_expr-4, same_form-then-same_expr-5, same_form-else-same_expr-5}
use Rattle.iso_model.proofs.same.statements.+statement.Goals as goal

pub same_form-returns-then-same_expr-2 : goal.same_form-returns-then-same_expr-2
same_form-returns-then-same_expr-2 t c =
    let v = c.in-If-If in
    let told = rw (c.deref.ensures.value, c.deref-then-same_expr-2.ensures.value) at c.same_stmts.ensures in
    ifs_same (ap form_of v.is-0 ∙ form_of-if v.e v.xs) (ap form_of v.is-1 ∙ form_of-if v.f v.ys) (c.if-same_expr-2.ensures.0 refl) told

pub same_form-returns-then-same_stmts : goal.same_form-returns-then-same_stmts
same_form-returns-then-same_stmts t c =
    let v = c.in-If-IfElse in
    elim c.if-same_expr-3.branch [
      | same_form-then-same_expr-3 w ↦
          let first = rw (w.deref-then-same_expr-3.ensures.value, w.deref-then-same_expr-3-3.ensures.value, w.deref-then-same_expr-3-2.ensures) at (w.same_stmts-then-same_expr-3.ensures.0 cc) in
          let told = empty_told stmt_of (out-TwoBodies v.ys.value).second (rw c.deref-then-same_stmts.ensures at c.is_empty.ensures) in
          let same_e = c.same_expr-in-If-IfElse.ensures.0 cc in
          choices_same {bs = []} (ap form_of v.is-0 ∙ form_of-if v.e v.xs) (ap form_of v.is-1 ∙ form_of-if_else v.f v.ys) same_e first (λ yes_. sym (told.0 yes_), λ none. told.1 (sym none))
      | same_form-else-same_expr-3 w ↦ absurd cc
    ]

pub same_form-returns-else-same_stmts : goal.same_form-returns-else-same_stmts
same_form-returns-else-same_stmts t c =
    let v = c.in-If-IfElse in
    let apart : term_of v.e ≡ term_of v.f → map stmt_of v.xs.items ≡ map stmt_of (first_body v.ys.value) → ⊥ = λ same_e same_xs.
    elim c.if-same_expr-3.branch [
      | same_form-then-same_expr-3 w ↦
          let told = rw (w.deref-then-same_expr-3.ensures.value, w.deref-then-same_expr-3-3.ensures.value, w.deref-then-same_expr-3-2.ensures) at w.same_stmts-then-same_expr-3.ensures in
          let here : w.same_stmts-then-same_expr-3.result ≡ true = told.1 same_xs in
          cc
      | same_form-else-same_expr-3 w ↦
          let here : c.same_expr-in-If-IfElse.result ≡ true = c.same_expr-in-If-IfElse.ensures.1 same_e in
          cc
    ] in
    choices_differ (ap form_of v.is-0 ∙ form_of-if v.e v.xs) (ap form_of v.is-1 ∙ form_of-if_else v.f v.ys) c.if-same_stmts.false apart

pub same_form-returns-then-same_stmts-2 : goal.same_form-returns-then-same_stmts-2
same_form-returns-then-same_stmts-2 t c =
    let v = c.in-IfElse-IfElse in
    elim c.if-same_expr-4.branch [
      | same_form-then-same_expr-4 w ↦
          let left = rw (w.deref-then-same_expr-4-2.ensures.value, w.deref-then-same_expr-4.ensures) at (w.same_stmts-then-same_expr-4.ensures.0 cc) in
          let first = rw (w.deref-then-same_expr-4-4.ensures.value, w.deref-then-same_expr-4-3.ensures) at left in
          let left_rest = rw (c.deref-then-same_stmts-2-2.ensures.value, c.deref-then-same_stmts-2.ensures) at c.same_stmts-then-same_stmts-2.ensures in
          let rest = rw (c.deref-then-same_stmts-2-4.ensures.value, c.deref-then-same_stmts-2-3.ensures) at left_rest in
          choices_same (ap form_of v.is-0 ∙ form_of-if_else v.e v.xs) (ap form_of v.is-1 ∙ form_of-if_else v.f v.ys) (c.same_expr-in-IfElse-IfElse.ensures.0 cc) first rest
      | same_form-else-same_expr-4 w ↦ absurd cc
    ]

pub same_form-returns-else-same_stmts-2 : goal.same_form-returns-else-same_stmts-2
same_form-returns-else-same_stmts-2 t c =
    let v = c.in-IfElse-IfElse in
    let apart : term_of v.e ≡ term_of v.f → map stmt_of (first_body v.xs.value) ≡ map stmt_of (first_body v.ys.value) → ⊥ = λ same_e same_xs.
    elim c.if-same_expr-4.branch [
      | same_form-then-same_expr-4 w ↦
          let left = rw (w.deref-then-same_expr-4-2.ensures.value, w.deref-then-same_expr-4.ensures) at w.same_stmts-then-same_expr-4.ensures in
          let told = rw (w.deref-then-same_expr-4-4.ensures.value, w.deref-then-same_expr-4-3.ensures) at left in
          let here : w.same_stmts-then-same_expr-4.result ≡ true = told.1 same_xs in
          cc
      | same_form-else-same_expr-4 w ↦
          let here : c.same_expr-in-IfElse-IfElse.result ≡ true = c.same_expr-in-IfElse-IfElse.ensures.1 same_e in
          cc
    ] in
    choices_differ (ap form_of v.is-0 ∙ form_of-if_else v.e v.xs) (ap form_of v.is-1 ∙ form_of-if_else v.f v.ys) c.if-same_stmts-2.false apart

pub same_form-returns-then-same_stmts-3 : goal.same_form-returns-then-same_stmts-3
same_form-returns-then-same_stmts-3 t c =
    let v = c.in-IfElse-If in
    elim c.if-same_expr-5.branch [
      | same_form-then-same_expr-5 w ↦
          let first = rw (w.deref-then-same_expr-5-2.ensures.value, w.deref-then-same_expr-5.ensures, w.deref-then-same_expr-5-3.ensures.value) at (w.same_stmts-then-same_expr-5.ensures.0 cc) in
          let told = empty_told stmt_of (out-TwoBodies v.xs.value).second (rw c.deref-then-same_stmts-3.ensures at c.is_empty-then-same_stmts-3.ensures) in
          choices_same {ds = []} (ap form_of v.is-0 ∙ form_of-if_else v.e v.xs) (ap form_of v.is-1 ∙ form_of-if v.f v.ys) (c.same_expr-in-IfElse-If.ensures.0 cc) first told
      | same_form-else-same_expr-5 w ↦ absurd cc
    ]

pub same_form-returns-else-same_stmts-3 : goal.same_form-returns-else-same_stmts-3
same_form-returns-else-same_stmts-3 t c =
    let v = c.in-IfElse-If in
    let apart : term_of v.e ≡ term_of v.f → map stmt_of (first_body v.xs.value) ≡ map stmt_of v.ys.items → ⊥ = λ same_e same_xs.
    elim c.if-same_expr-5.branch [
      | same_form-then-same_expr-5 w ↦
          let told = rw (w.deref-then-same_expr-5-2.ensures.value, w.deref-then-same_expr-5.ensures, w.deref-then-same_expr-5-3.ensures.value) at w.same_stmts-then-same_expr-5.ensures in
          let here : w.same_stmts-then-same_expr-5.result ≡ true = told.1 same_xs in
          cc
      | same_form-else-same_expr-5 w ↦
          let here : c.same_expr-in-IfElse-If.result ≡ true = c.same_expr-in-IfElse-If.ensures.1 same_e in
          cc
    ] in
    choices_differ (ap form_of v.is-0 ∙ form_of-if_else v.e v.xs) (ap form_of v.is-1 ∙ form_of-if v.f v.ys) c.if-same_stmts-3.false apart

pub same_form-returns-then-same_expr-6 : goal.same_form-returns-then-same_expr-6
same_form-returns-then-same_expr-6 t c =
    let v = c.in-Repeat-Repeat in
    let told = rw (c.deref-then-same_expr-6.ensures.value, c.deref-then-same_expr-6-2.ensures.value) at c.same_stmts-then-same_expr-6.ensures in
    repeats_same (ap form_of v.is-0 ∙ form_of-repeat v.e v.xs) (ap form_of v.is-1 ∙ form_of-repeat v.f v.ys) (c.if-same_expr-6.ensures.0 refl) told

pub same_stmts-returns-then-not-same_stmt : goal.same_stmts-returns-then-not-same_stmt
same_stmts-returns-then-not-same_stmt t c =
    let here = same_here stmt_of c.args.a.now c.args.b.now c.stmts.i c.index-a-i.result c.index-b-i.result c.if-a-b.false c.stmts-test.true c.index-a-i.is c.index-b-i.is in
    search (rules, here)
