use Rattle.std.proofs.Common.{◌≡◌, ◌-◌, length}
use Rattle.std.specs.List.{position_from, range_with_len}
use Rattle.iso_plan.specs.PathTexts.{found, is_path_of}
use Rattle.iso_plan.proofs.plan.Plan.find.Given as goal

abbrev pub invariant-nodes : goal.invariant-nodes
invariant-nodes l = position_from (is_path_of l.self.rows l.path) l.node (range_with_len l.node (length l.self.rows - l.node)) ≡ found l.self.rows l.path
