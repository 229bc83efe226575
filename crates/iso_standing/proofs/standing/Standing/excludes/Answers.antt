use Rattle.std.proofs.Common.{◌≡◌, is_some, ap, ◌∙◌}
use Rattle.iso_isolation.specs.States.{is_held}
use Rattle.iso_plan.specs.Conflicts.{lowest_in_the_way}
use Rattle.iso_plan.specs.RowView.{tree_of}
use Rattle.iso_standing.proofs.Holding.{excluded-same}
use Rattle.iso_standing.specs.Phases.{bare}
use Rattle.iso_standing.specs.Standings.{Standing, phase_at}
use Rattle.iso_standing.proofs.standing.Standing.excludes.Goals as goal

pub returns : goal.returns
returns c =
    let s = c.self.inside in
    let n = c.args.node in
    c.excludes.ensures ∙ excluded-same s.plan.now s.phases.items s.held n c.self.invariant.2
    ∙ ap (λ (v : Standing). is_some (lowest_in_the_way (tree_of v.plan) (λ m. is_held (bare (phase_at v m))) n)) c.self.view_is
