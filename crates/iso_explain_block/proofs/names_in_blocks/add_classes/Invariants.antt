use Rattle.std.proofs.Common.{◌≡◌, drop, map}
use Rattle.iso_explain_block.specs.Missing.{classes_names}
use Rattle.iso_explain_block.specs.Variables.{heads_of}
use Rattle.iso_explain_block.proofs.names_in_blocks.add_classes.Given as goal

abbrev pub invariant-loop-class : goal.invariant-loop-class
invariant-loop-class l =
    classes_names l.thing (heads_of l.classes) (map (λ n. n.now) l.fn.names.items) ≡ classes_names l.thing (heads_of (drop l.class-index l.classes)) (map (λ n. n.now) l.names.items)
