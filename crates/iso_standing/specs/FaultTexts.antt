-- How it shows that an event is not taken.
use Rattle.std.specs.Prelude.{ℕ, List, codes}
use Rattle.iso_standing.specs.declared.refused.CoreFault.{CoreFault}
use Rattle.iso_standing.specs.declared.refused.CoreFault.TheVariants as F
use Rattle.iso_standing.specs.RefusalTexts.{refused_text}

-- why an event is refused, or that memory ran out
abbrev pub fault_text : CoreFault → List ℕ
fault_text (F.Refused why) = refused_text why
fault_text F.OutOfMemory = codes "out of memory"
