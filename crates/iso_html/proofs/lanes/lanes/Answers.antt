use Rattle.std.proofs.Common.{◌≡◌, ℕ, length, map, ap, ◌∙◌, arith}
use Rattle.iso_html.proofs.ListLemmas.{column-grown}
use Rattle.iso_html.specs.Bars.{marks_below}
use Rattle.iso_junit.specs.Runs.{run_of}
use Rattle.iso_plan.specs.Paths.{column}
use Rattle.iso_html.proofs.lanes.lanes.Goals as goal

pub returns : goal.returns
returns c =
    let r = run_of c.args.run.now in
    let times = c.args.times.now in
    let critical = c.args.critical.now in
    let last : c.nodes.node ≡ length c.args.run.now.plan.now.rows = omega arith in
    column-grown (map (λ v. v.items) c.nodes.lanes.items) c.args.workers (λ w. marks_below r times critical w c.nodes.node) c.nodes.invariant
    ∙ ap (λ (n : ℕ). column (λ w. marks_below r times critical w n) c.args.workers) last
