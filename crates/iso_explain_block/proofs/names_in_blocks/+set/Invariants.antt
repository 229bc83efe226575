use Rattle.std.proofs.Common.{◌≡◌, drop, map}
use Rattle.iso_explain_block.specs.Missing.{body_names}
use Rattle.iso_model.specs.SyntaxView.{block_of}
use Rattle.iso_explain_block.proofs.names_in_blocks.+set.Given as goal

abbrev pub invariant-add_body-loop-i : goal.invariant-add_body-loop-i
invariant-add_body-loop-i l =
    body_names l.thing (block_of l.statements) (map (λ n. n.now) l.fn.names.items) ≡ body_names l.thing (block_of (drop l.i l.statements)) (map (λ n. n.now) l.names.items)
