use Rattle.iso_growths.proofs.floor.do_all.Given as goal

abbrev pub ghosts-on_ground : goal.ghosts-on_ground
ghosts-on_ground g a = record { plan = a.plan.now; start = a.world.now; workers = 2 }
