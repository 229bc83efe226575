use Rattle.std.proofs.Common.{◌++◌, ◌∷◌, [], sym, arith, subst}
use Rattle.std.proofs.lemmas.Result.{err_from_is_err_and}
use Rattle.iso_script.specs.Blocks.{IsWritten}
use Rattle.iso_script_statements.specs.Statements.{IsBlock}
use Rattle.iso_script.proofs.Readings.{read_push}
use Rattle.iso_script.proofs.Blocks.{comes_to_more, is_written, next_block, no_second, written_shorter}
use Rattle.iso_script.proofs.block.read_blocks.Goals as goal

pub returns-then-has : goal.returns-then-has
returns-then-has c = λ all rest h.
    let i = c.written.invariant in
    absurd (no_second i.0 _ _ _ _ i.1 (sym c.in-Some.ensures) c.if-has.ensures i.2 all rest h)

pub returns-in_err-body : goal.returns-in_err-body
returns-in_err-body c =
    let p = err_from_is_err_and c.from_residual.result c.from_residual.ensures.1 in
    let i = c.written.invariant in
    rw (p.1, p.2) (λ all rest h.
    let n = next_block i.0 _ _ _ i.1 (sym c.in-Some.ensures) all rest h in
    c.in_err-body.ensures n.0.block.body n.2 (subst (λ ps. IsBlock n.0.block.body ps n.2) (sym c.advance.ensures) n.5))

pub written-smaller : goal.written-smaller
written-smaller c = omega (arith, written_shorter (is_written _ _ _ _ _ _ _ (sym c.in-Some.ensures) c.advance.ensures c.peek-line.ensures.next c.in_ok-body.ensures))

pub written-preserved : goal.written-preserved
written-preserved c =
    let i = c.written.invariant in
    let w = is_written _ _ _ _ _ _ _ (sym c.in-Some.ensures) c.advance.ensures c.peek-line.ensures.next c.in_ok-body.ensures in
    (i.0 ++ record { kind = c.in-Some.kind; block = _ } ∷ [], read_push IsWritten _ _ _ _ _ i.1 w, comes_to_more _ _ _ _ _ c.if-has.ensures c.put.ensures i.2)
