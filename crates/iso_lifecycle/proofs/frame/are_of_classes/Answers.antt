use Rattle.std.proofs.Common.{List, subst, arith}
use Rattle.std.proofs.lemmas.List.{take_all}
use Rattle.std.proofs.lemmas.List.Elements.{All-more}
use Rattle.std.specs.List.{All}
use Rattle.iso_lifecycle.specs.Subjects.{IsOfClass, Subject}
use Rattle.iso_lifecycle.proofs.frame.are_of_classes.Goals as goal

pub frames-preserved : goal.frames-preserved
frames-preserved c =
    All-more (λ (s : Subject). IsOfClass s) c.args.frames.now c.frames.frame-index c.frame-item.result (omega arith) c.frames.invariant
    (subst (λ (s : Subject). IsOfClass s) c.frame-item.is c.is_of_class.ensures)

pub returns : goal.returns
returns c = subst (λ (xs : List Subject). All IsOfClass xs) (take_all c.frames.frame-index c.args.frames.now (omega arith)) c.frames.invariant
