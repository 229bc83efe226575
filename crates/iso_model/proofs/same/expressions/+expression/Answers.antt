use Rattle.std.proofs.Common.{◌≡◌, ap, ◌∙◌, rules}
use Rattle.iso_model.specs.SyntaxView.{term_of}
use Rattle.iso_model.proofs.SameLemmas.{chains_same, same_here}
use Rattle.iso_model.proofs.TreeLemmas.{term_of-chain}
use Rattle.iso_model.proofs.same.expressions.+expression.Goals.{same_expr-then-same_operator, same_expr-else-same_operator}
use Rattle.iso_model.proofs.same.expressions.+expression.Goals as goal

pub same_expr-returns-then-same_expr : goal.same_expr-returns-then-same_expr
same_expr-returns-then-same_expr t c =
    let v = c.in-Chain-Chain in
    elim c.if-same_operator.branch [
      | same_expr-then-same_operator w ↦
          let o : v.p ≡ v.q = c.same_operator.ensures.0 cc in
          let first : term_of v.x.value.first ≡ term_of v.y.value.first = rw (w.deref.ensures, w.deref-then-same_operator.ensures) at (w.same_expr.ensures.0 cc) in
          let rest = rw (c.deref-then-same_expr-2.ensures.value, c.deref-then-same_expr.ensures, c.deref-then-same_expr-4.ensures.value, c.deref-then-same_expr-3.ensures) at c.same_exprs.ensures in
          chains_same (ap term_of v.is-0 ∙ term_of-chain v.p v.x) (ap term_of v.is-1 ∙ term_of-chain v.q v.y) o first rest
      | same_expr-else-same_operator w ↦ absurd cc
    ]

pub same_exprs-returns-then-not-same_expr : goal.same_exprs-returns-then-not-same_expr
same_exprs-returns-then-not-same_expr t c =
    let here = same_here term_of c.args.a.now c.args.b.now c.exprs.i c.index-a-i.result c.index-b-i.result c.if-a-b.false c.exprs-test.true c.index-a-i.is c.index-b-i.is in
    search (rules, here)
