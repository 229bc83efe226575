use Rattle.std.proofs.Common.{ap, sym, ◌∙◌}
use Rattle.std.proofs.lemmas.List.{take-map, take_min}
use Rattle.std.specs.Arc.{arc_value}
use Rattle.iso_explain_block.specs.Variables.{heads_of}
use Rattle.iso_model.specs.ScriptView.{class_head_of}
use Rattle.iso_explain_block.proofs.block.visible_classes.Goals as goal

pub returns-in-Class : goal.returns-in-Class
returns-in-Class c =
    let heads = c.args.classes.now in
    rw (c.in-Class.is, c.min.ensures) (ap heads_of (take_min c.in-Class.depth heads) ∙ sym (take-map (λ h. class_head_of (arc_value h)) c.in-Class.depth heads))
