use Rattle.std.proofs.Common.{◌≡◌, drop, map}
use Rattle.iso_explain_block.specs.Lets.{lets}
use Rattle.iso_model.specs.SyntaxView.{block_of}
use Rattle.iso_explain_block.proofs.lets.+lets.Given as goal

abbrev pub invariant-add_lets-loop-i : goal.invariant-add_lets-loop-i
invariant-add_lets-loop-i l =
    lets l.row (block_of l.statements) (map (λ n. n.now) l.fn.names.items) ≡ lets l.row (block_of (drop l.i l.statements)) (map (λ n. n.now) l.names.items)
