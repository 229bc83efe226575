use Rattle.std.proofs.Common.{ap, sym, ◌==◌, ◌∙◌}
use Rattle.iso_lifecycle.proofs.EndingLemmas.{all-well}
use Rattle.iso_lifecycle.proofs.endings.Endings.all_well.Goals as goal

pub returns : goal.returns
returns c =
    let others = c.self.inside.others in
    rw (← c.self.view_is) (c.is_empty.ensures ∙ ap (λ n. n == 0) others.ok.0 ∙ sym (all-well c.self.inside.well others.items c.self.invariant))
