use Rattle.std.proofs.Common.{◌≡◌, [], map}
use Rattle.iso_plan.specs.Paths.{column}
use Rattle.iso_html.proofs.lists.empty.Given as goal

abbrev pub invariant-lists : goal.invariant-lists
invariant-lists l = map (λ c. c.items) l.lists.items ≡ column (λ n. []) l._number
