-- Where a run of a body stands.
use Rattle.std.specs.Prelude.{Option, Some, None}
use Rattle.iso_model.specs.Bodies.{Account, Stage, ended, stage_at, stage_from}
use Rattle.iso_model.specs.Rights.{Rights, access_in}
use Rattle.iso_interp.specs.Runs.{local_of, names_before, pieces_of}
use Rattle.iso_interp.specs.declared.run.BlockRun.{BlockRun}
use Rattle.iso_lifecycle.specs.DueBlocks.{account_in, beside_in, jobs_left, stage_with}
use Rattle.iso_lifecycle.specs.declared.body_run.BodyEnd.{BodyEnd}
use Rattle.iso_lifecycle.specs.declared.body_run.BodyRun.{BodyRun}
use Rattle.iso_lifecycle.specs.declared.due_blocks.Rest.{Rest}

-- the point of the body
abbrev pub stage_of : BodyRun → Stage
stage_of run = stage_with run.block run.rest

-- the access rights of all its blocks
abbrev pub rights_of : BodyRun → Rights
rights_of run = access_in run.rest.rights.now

-- what it has but for a block under way
abbrev pub account_in_run : BodyRun → Account
account_in_run run = account_in run.rest

-- the point of the body once a block that has nothing left to do is ended, and the next begun
abbrev pub settled_with : Option BlockRun → Rest → Stage
settled_with None r = ended (account_in r)
settled_with (Some run) r = stage_at (stage_from (jobs_left r)) (pieces_of run) (local_of run)
    (names_before run) (beside_in r) (jobs_left r)

abbrev pub settled_stage : BodyRun → Stage
settled_stage run = settled_with run.block run.rest

-- what an ended body had that left this, with the names and the count of bytes of `a`
abbrev pub end_account : BodyEnd → Account → Account
end_account end a =
    record { names = a.names; printed = a.printed; lines = end.output; endings = end.endings }
