-- Which blocks of a body are still due, and where its work stands.
use Rattle.std.specs.Prelude.{◌≡◌, ℕ, List, Option, Some, None}
use Rattle.std.specs.Coded.{Coded-set, coded_option, Unit-prop, Π_prop}
use Rattle.iso_model.specs.contracts.access.Access.{the_row}
use Rattle.iso_model.specs.Bodies.{Account, Beside, Stage, during, ended, stage_from}
use Rattle.iso_model.specs.Jobs as J
use Rattle.iso_model.specs.Rights.{access_in}
use Rattle.iso_interp.specs.Runs.{names_before, point_of_run, run_rights}
use Rattle.iso_interp.specs.declared.run.BlockRun.{BlockRun}
use Rattle.iso_lifecycle.specs.Heads.{heads_in}
use Rattle.iso_lifecycle.specs.JobPlaces.{job_at, jobs_from}
use Rattle.iso_lifecycle.specs.declared.job.Job.{Job}
use Rattle.iso_lifecycle.specs.declared.due_blocks.Rest.{Rest}

-- what the body has when no block is under way
abbrev pub account_in : Rest → Account
account_in r =
    record { names = r.names; printed = r.printed; lines = r.lines; endings = r.endings }

-- what it has beside the block under way
abbrev pub beside_in : Rest → Beside
beside_in r = record { unseen = r.names; lines = r.lines; endings = r.endings }

-- a job of its chain, and the jobs that are left
abbrev pub job_in : Rest → Job → J.Job
job_in r j = job_at (heads_in r.classes.now) r.test j

abbrev pub jobs_in : Rest → Option Job → List J.Job
jobs_in r next = jobs_from (heads_in r.classes.now) r.test next

abbrev pub jobs_left : Rest → List J.Job
jobs_left r = jobs_in r r.next

-- the point of the body, with the block under way, if there is one
abbrev pub stage_with : Option BlockRun → Rest → Stage
stage_with None r = ended (account_in r)
stage_with (Some run) r = during (point_of_run run) (names_before run) (beside_in r) (jobs_left r)

-- the block under way has the body's rights
abbrev pub HaveRights : Option BlockRun → Rest → Type 0
HaveRights None r = Unit {0}
HaveRights (Some run) r = (k : List ℕ) → run_rights run k ≡ access_in r.rights.now k

pub HaveRights-prop : (o : Option BlockRun) (r : Rest) → IsProp (HaveRights o r)
HaveRights-prop None r = Unit-prop
HaveRights-prop (Some run) r =
    Π_prop (λ k. Coded-set (coded_option the_row.coded) (run_rights run k)
    (access_in r.rights.now k))

-- what no step changes
pub record SameChain (r s : Rest) : Type 0 where
  pub rights : s.rights ≡ r.rights
  pub classes : s.classes ≡ r.classes
  pub test : s.test ≡ r.test
