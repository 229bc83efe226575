use Rattle.iso_floor_tests.proofs.site.play_on.Given as goal

abbrev pub ghosts-play_there : goal.ghosts-play_there
ghosts-play_there g a = record { plan = a.plan.now; start = a.world.now; workers = a.workers }
