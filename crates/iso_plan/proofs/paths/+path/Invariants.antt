use Rattle.iso_plan.proofs.paths.+path.Given as goal

abbrev pub decreases-is_path_of : goal.decreases-is_path_of
decreases-is_path_of l = l.node
