use Rattle.std.proofs.Common.{List, Option, subst}
use Rattle.iso_desk.specs.Linked.{AreFilled}
use Rattle.iso_desk.specs.declared.ends.Ends.{Ends}
use Rattle.iso_desk.proofs.LineEndsLemmas.{all_filled}
use Rattle.iso_desk.proofs.line_ends.LineEnds.filled.Goals as goal

pub returns : goal.returns
returns c =
    subst (λ (es : List (Option Ends)). AreFilled es c.self.inside.filled) c.self.view_is
    (all_filled c.self.inside.filled c.self.inside.first.items c.self.inside.last.items c.self.invariant)
