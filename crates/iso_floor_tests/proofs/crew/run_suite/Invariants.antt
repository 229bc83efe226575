use Rattle.iso_floor_tests.proofs.crew.run_suite.Given as goal

abbrev pub ghosts-run_on_floor : goal.ghosts-run_on_floor
ghosts-run_on_floor g a = record { plan = a.plan.now; start = a.world.now; workers = a.crew.workers }
