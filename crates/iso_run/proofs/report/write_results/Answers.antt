use Rattle.std.proofs.Common.{refl}
use Rattle.iso_run.proofs.report.write_results.Goals as goal

pub returns-in-Ok-clause-report : goal.returns-in-Ok-clause-report
returns-in-Ok-clause-report g c = (c.in-Ok.ensures.wrote, c.all_ok.ensures)

pub returns-in-Err-clause-report : goal.returns-in-Err-clause-report
returns-in-Err-clause-report g c = record { written = c.in-Err.fault.written; is = refl; took = c.in-Err.ensures.took; within = c.in-Err.ensures.cut; failed = c.in-Err.ensures.failed }
