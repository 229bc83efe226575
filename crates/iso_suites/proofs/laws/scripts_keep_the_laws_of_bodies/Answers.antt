use Rattle.iso_suites.proofs.BodyEnds.{scripts-end}
use Rattle.iso_suites.proofs.LanguageLaws.{scripts-laws}
use Rattle.iso_suites.proofs.laws.scripts_keep_the_laws_of_bodies.Goals as goal

pub returns : goal.returns
returns c = record { bodies = scripts-laws; ends = scripts-end }
