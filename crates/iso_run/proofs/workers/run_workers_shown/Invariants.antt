use Rattle.iso_run.proofs.workers.run_workers_shown.Given as goal

abbrev pub ghosts-run_timed : goal.ghosts-run_timed
ghosts-run_timed g a = record { plan = a.suite.now.plan; start = a.suite.now.world; workers = a.suite.now.settings.worker_count }
