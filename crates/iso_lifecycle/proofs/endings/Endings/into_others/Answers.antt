use Rattle.std.proofs.Common.{sym}
use Rattle.iso_lifecycle.proofs.EndingLemmas.{others-count}
use Rattle.iso_lifecycle.proofs.endings.Endings.into_others.Goals as goal

pub returns : goal.returns
returns c = rw (← c.self.view_is) (sym (others-count c.self.inside.well c.self.inside.others.items))
