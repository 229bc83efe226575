use Rattle.iso_run.specs.Suites.{suite_of}
use Rattle.iso_run.proofs.check.accept_reads.Goals as goal

pub returns-in-Ok : goal.returns-in-Ok
returns-in-Ok g c = λ input reads.
    let read = c.in-Ok.ensures.read input (c.in_ok-bytes.ensures.read c.args.files.now input reads) in
    (read.0, read.1, (suite_of read.0 c.in-Ok.suite, read.3.is_suite, tt))
