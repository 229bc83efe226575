use Rattle.std.proofs.Common.{List, take, ap, ◌∙◌}
use Rattle.std.proofs.lemmas.List.{take-map}
use Rattle.iso_durations.specs.Orders.{slowest_first}
use Rattle.iso_durations.specs.Times.{measured, micros}
use Rattle.iso_html.specs.Slowest.{entry}
use Rattle.iso_html.specs.declared.slowest.Timed.{Timed}
use Rattle.iso_plan.specs.RowView.{tree_of}
use Rattle.iso_html.proofs.slowest.slowest.Goals as goal

pub returns : goal.returns
returns c =
    let times = c.args.times.now in
    c.truncate.ensures.items
    ∙ ap (λ (l : List Timed). take 10 l) c.in_ok-timed.ensures
    ∙ take-map (entry (micros times)) 10 (slowest_first (micros times) (measured (tree_of c.args.plan.now) times))
