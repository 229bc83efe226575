-- What is true of ends that come late.
use Rattle.iso_run.specs.ExitStatuses.{End, Whole, LacksFile, Refuses, GivesUp, BreaksOff, IfLate}

pub late-so : (X : Type 0) (end : End) → X → IfLate end X
late-so X (Whole ok) x = x
late-so X LacksFile x = x
late-so X Refuses x = tt
late-so X GivesUp x = tt
late-so X BreaksOff x = x

pub late-more : (X Y : Type 0) → (X → Y) → (end : End) → IfLate end X → IfLate end Y
late-more X Y f (Whole ok) x = f x
late-more X Y f LacksFile x = f x
late-more X Y f Refuses x = tt
late-more X Y f GivesUp x = tt
late-more X Y f BreaksOff x = f x
