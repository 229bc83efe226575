use Rattle.std.proofs.Common.{[], map}
use Rattle.iso_html.specs.Bars.{marks_below}
use Rattle.iso_html.specs.Lists.{AreLonger}
use Rattle.iso_junit.specs.Runs.{run_of}
use Rattle.iso_plan.specs.Paths.{column}
use Rattle.iso_html.proofs.lanes.lanes.Given as goal

abbrev pub invariant-nodes : goal.invariant-nodes
invariant-nodes l = AreLonger (column (λ w. []) l.workers) (map (λ v. v.items) l.lanes.items) (λ w. marks_below (run_of l.run) l.times l.critical w l.node)
