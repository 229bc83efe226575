use Rattle.std.proofs.Common.{refl}
use Rattle.iso_script.proofs.ContextLemmas.{passes}
use Rattle.iso_script.proofs.context.open_brace.Goals as goal

pub tokens-preserved : goal.tokens-preserved
tokens-preserved c =
    let i = c.tokens.invariant in
    passes _ i.0 _ _ _ _ _ _ i.1 c.peek.ensures.next (c.tokens-test.ensures.more refl) c.advance.ensures i.2 c.in_ok-pass.ensures
