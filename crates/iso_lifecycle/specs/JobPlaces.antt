-- The jobs that are left of a test, from the place of the first of them in the class chain.
-- Classes stand outermost first here.
--
-- where a body's run stands: The jobs from a place of the class chain on (`jobs_from`), and the
-- point of the body (`stage_of`).
-- Also in: `DueBlocks`, `BodyRuns`.
use Rattle.std.specs.Prelude.{ℕ, zero, suc, ◌+◌, ◌<◌, List, [], ◌∷◌, ◌++◌, take, drop, reverse, slice_index_or, Option, Some, None, true, cond, nat_lt}
use Rattle.std.specs.Coded.{Unit-prop, le_prop}
use Rattle.iso_model.specs.Chains.{ClassHead, empty_head}
use Rattle.iso_model.specs.Jobs as J
use Rattle.iso_model.specs.Jobs.{job, before_each_job, after_each_job, before_each_jobs, after_each_jobs}
use Rattle.iso_model.specs.Syntax.{Acts}
use Rattle.iso_model.specs.Tests.{names_in}
use Rattle.iso_model.specs.declared.place.BlockName.{BlockName}
use Rattle.iso_model.specs.declared.place.BlockName.TheVariants as BlockNames
use Rattle.iso_model.specs.declared.place.Lifecycle.TheVariants as Lifecycles
use Rattle.iso_lifecycle.specs.declared.job.Job.{Job}
use Rattle.iso_lifecycle.specs.declared.job.Job.TheVariants.{BeforeEach, Test, AfterEach}

-- the `after_each` of the innermost of this number of classes
abbrev pub after_each_inside : ℕ → Option Job
after_each_inside zero = None
after_each_inside (suc d) = Some (AfterEach d)

-- the job after a job, in a chain of `n` classes
abbrev pub job_after : ℕ → Job → Option Job
job_after n (BeforeEach d) = cond (nat_lt (d + 1) n) (Some (BeforeEach (d + 1))) (Some Test)
job_after n Test = after_each_inside n
job_after n (AfterEach d) = after_each_inside d

-- the first job
abbrev pub first_job : ℕ → Job
first_job zero = Test
first_job (suc n) = BeforeEach 0

-- the `before_each` of the class at a depth, and behind those of `n` classes the test's own block
abbrev pub before_job : ℕ → ℕ → Job
before_job n d = cond (nat_lt d n) (BeforeEach d) Test

-- a job's class is one of `n`
abbrev pub IsPlaced : ℕ → Option Job → Type 0
IsPlaced n None = Unit {0}
IsPlaced n (Some (BeforeEach d)) = d < n
IsPlaced n (Some Test) = Unit {0}
IsPlaced n (Some (AfterEach d)) = d < n

pub IsPlaced-prop : (n : ℕ) (o : Option Job) → IsProp (IsPlaced n o)
IsPlaced-prop n None = Unit-prop
IsPlaced-prop n (Some (BeforeEach d)) = le_prop
IsPlaced-prop n (Some Test) = Unit-prop
IsPlaced-prop n (Some (AfterEach d)) = le_prop

-- the words that name a job's block
abbrev pub job_words : Job → BlockName
job_words (BeforeEach d) = BlockNames.Class (d + 1) Lifecycles.BeforeEach
job_words Test = BlockNames.Test
job_words (AfterEach d) = BlockNames.Class (d + 1) Lifecycles.AfterEach

-- how many of `n` classes a job's block sees the names of
abbrev pub classes_seen : ℕ → Job → ℕ
classes_seen n (BeforeEach d) = d + 1
classes_seen n Test = n
classes_seen n (AfterEach d) = d + 1

-- the class at a depth, and those outside it, innermost first
abbrev pub head_at : List ClassHead → ℕ → ClassHead
head_at os d = slice_index_or os d empty_head

abbrev pub outside : List ClassHead → ℕ → List ClassHead
outside os d = reverse (take d os)

-- the job of a test's own block, in a chain innermost first
abbrev pub own_job : Acts → List ClassHead → J.Job
own_job body cs = job BlockNames.Test body (names_in cs) true

-- the job at a place
abbrev pub job_at : List ClassHead → Acts → Job → J.Job
job_at os body (BeforeEach d) = before_each_job (head_at os d) (outside os d)
job_at os body Test = own_job body (reverse os)
job_at os body (AfterEach d) = after_each_job (head_at os d) (outside os d)

-- the jobs from a place on
abbrev pub jobs_from : List ClassHead → Acts → Option Job → List J.Job
jobs_from os body None = []
jobs_from os body (Some (BeforeEach d)) = drop d (before_each_jobs (reverse os))
    ++ own_job body (reverse os) ∷ after_each_jobs (reverse os)
jobs_from os body (Some Test) = own_job body (reverse os) ∷ after_each_jobs (reverse os)
jobs_from os body (Some (AfterEach d)) = after_each_jobs (outside os (suc d))
