use Rattle.std.proofs.Common.{◌≡◌, drop, map}
use Rattle.iso_explain_block.specs.Variables.{heads_of, with_fields}
use Rattle.iso_explain_block.proofs.variable.add_fields.Given as goal

abbrev pub invariant-loop-class : goal.invariant-loop-class
invariant-loop-class l =
    with_fields (heads_of l.classes) (map (λ n. n.now) l.fn.names.items) ≡ with_fields (heads_of (drop l.class-index l.classes)) (map (λ n. n.now) l.names.items)
