use Rattle.std.proofs.Common.{◌≡◌, List, Option, MatchOption, true, false, is_some, subst, sym}
use Rattle.std.specs.List.{list_any}
use Rattle.iso_floor.specs.KeyMarks.{is_excluded}
use Rattle.iso_plan.specs.Conflicts.{lowest_in_the_way}
use Rattle.iso_plan.specs.HeldNodes.{is_held}
use Rattle.iso_plan.specs.KeyGroups.{lead_locks}
use Rattle.iso_plan.specs.Planned.{Planned}
use Rattle.iso_plan.specs.RowView.{tree_of}
use Rattle.iso_plan.specs.declared.lock.Lock.{Lock}
use Rattle.iso_floor.proofs.HintLemmas.{none-excluded}
use Rattle.iso_floor.proofs.hints.Hints.lock_in_the_way.Goals as goal

pub returns-in_err-lock-clause-excluded : goal.returns-in_err-lock-clause-excluded
returns-in_err-lock-clause-excluded c =
    let tree = tree_of c.args.plan.now in
    let held = c.args.held.now.held in
    let none : list_any (is_excluded tree held) (lead_locks tree c.args.node) ≡ false =
    subst (λ (p : Planned). list_any (is_excluded (tree_of p) held) (lead_locks tree c.args.node) ≡ false) (sym c.requires.plan)
    (subst (λ (ls : List Lock). list_any (is_excluded (tree_of c.args.held.now.plan) held) ls ≡ false) c.lead_locks-locks.ensures.locks c.in_err-lock.ensures.excluded) in
    subst (λ (o : Option Lock). MatchOption o (is_some (lowest_in_the_way tree (is_held held) c.args.node) ≡ false) (λ l. is_excluded tree held l ≡ true)) (sym c.from_residual.ensures)
    (none-excluded tree held c.args.node c.requires.node none)
