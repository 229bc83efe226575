-- The names of faults.
use Rattle.std.specs.Prelude.{ℕ, List, codes}
use Rattle.iso_schedule.specs.declared.fault.ScheduleFaultKind.{ScheduleFaultKind}
use Rattle.iso_schedule.specs.declared.fault.ScheduleFaultKind.TheVariants.{BadLine, NumberTooBig, TooLong}

-- how a kind of fault is called, in a fault's line too
abbrev pub fault_name : ScheduleFaultKind → List ℕ
fault_name BadLine = codes "BadLine"
fault_name NumberTooBig = codes "NumberTooBig"
fault_name TooLong = codes "TooLong"
