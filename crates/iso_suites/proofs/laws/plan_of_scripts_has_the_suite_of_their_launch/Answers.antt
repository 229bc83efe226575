use Rattle.std.proofs.Common.{List, ap}
use Rattle.iso_suites.specs.PlanSuites.{suite_of}
use Rattle.iso_plan.specs.Tree.{Row}
use Rattle.iso_suites.proofs.laws.plan_of_scripts_has_the_suite_of_their_launch.Goals as goal

pub returns : goal.returns
returns c = λ written only start same. ap (λ (rows : List Row). suite_of rows c.args.plan.now.settings start) same
