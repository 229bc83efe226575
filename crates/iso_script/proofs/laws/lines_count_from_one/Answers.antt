use Rattle.std.proofs.Common.{refl}
use Rattle.iso_script.proofs.Lines.{not_before}
use Rattle.iso_script.proofs.laws.lines_count_from_one.Goals as goal

pub returns : goal.returns
returns c = λ bytes before ps p spelled. not_before before ps p refl spelled
