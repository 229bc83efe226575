use Rattle.std.proofs.Common.{◌≡◌, ℕ, ◌-◌, ap, ◌∙◌}
use Rattle.iso_hints.specs.Positions.{line_start}
use Rattle.iso_explain.proofs.SpotLemmas.{lines-start}
use Rattle.iso_explain.proofs.spot.start_of.Goals as goal

pub returns-clause-value : goal.returns-clause-value
returns-clause-value c =
    c.line_start.ensures.start ∙ ap (λ (n : ℕ). line_start n c.args.bytes.now) c.saturating_sub.ensures ∙ lines-start (c.args.line - 1) c.args.bytes.now
