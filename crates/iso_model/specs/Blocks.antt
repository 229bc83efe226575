-- Execution of a block: its statements, with its locals dropped at the end.
--
-- execution of a block: Its statements with 10,000 steps, whatever its environment had; its locals
-- are dropped at the end (`block`).
use Rattle.std.specs.Prelude.{[], length}
use Rattle.iso_model.specs.Environments.{Environment}
use Rattle.iso_model.specs.Rights.{Rights}
use Rattle.iso_model.specs.Resources.{Resources}
use Rattle.iso_model.specs.Syntax.{Acts}
use Rattle.iso_model.specs.Statements.{Local, State, kept, run}
use Rattle.iso_model.specs.declared.limits.TheConstants.{BLOCK_STEPS}
use Rattle.iso_model.specs.declared.outcome.Ending.TheVariants.{Well}

-- a block at its beginning: it has all its steps, whatever its environment had
abbrev pub begun : Environment → Local
begun env = record { env = record env { steps = BLOCK_STEPS }; lines = []; ending = Well }

-- a whole block in its environment; an absent one is an empty one, and changes nothing
abbrev pub block : Rights → Acts → Environment → Resources → State
block r acts env m =
    kept (length env.names) (run r acts (record { here = begun env; resources = m }))
