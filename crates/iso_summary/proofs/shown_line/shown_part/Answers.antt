use Rattle.std.proofs.Common.{ℕ, length, take, ap, ◌∙◌}
use Rattle.std.proofs.Math.Nat.{min_comm}
use Rattle.std.proofs.lemmas.List.{take_min}
use Rattle.iso_summary.proofs.shown_line.shown_part.Goals as goal

pub returns : goal.returns
returns c =
    let line = c.args.line.now in
    ap (λ (n : ℕ). take n line) (c.min.ensures ∙ min_comm (length line) 160) ∙ take_min 160 line
