use Rattle.std.proofs.Common.{ℕ, List, ap, false, replicate, ◌∙◌}
use Rattle.iso_plan.specs.Planned.{Planned}
use Rattle.iso_settings.specs.Worlds.{Start}
use Rattle.iso_lifecycle.proofs.Putting.{none-seen}
use Rattle.iso_lifecycle.specs.Entries.{seen}
use Rattle.iso_lifecycle.specs.ResultViews.{ResultsView}
use Rattle.iso_lifecycle.specs.declared.entry.Entry.{Entry}
use Rattle.iso_lifecycle.proofs.results.Results.new.Goals as goal

abbrev no_entries : Planned → Start → ℕ → ResultsView
no_entries plan start count = record { plan = plan; start = start; opened = replicate count false; ended = replicate count false }

pub returns : goal.returns
returns c =
    let plan = c.args.plan.now in
    let start = c.args.start.value in
    ap (λ (es : List Entry). seen plan start es) c.in_ok-entries.ensures ∙ none-seen plan start c.len.result ∙ ap (no_entries plan start) c.len.ensures
