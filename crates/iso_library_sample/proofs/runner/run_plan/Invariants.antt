use Rattle.iso_library_sample.proofs.runner.run_plan.Given as goal

abbrev pub ghosts-run_on : goal.ghosts-run_on
ghosts-run_on g a = record { plan = a.plan.now; start = a.world.now; workers = a.workers }
