use Rattle.std.proofs.Common.{ℕ, List, ap, ◌∙◌}
use Rattle.iso_locks.proofs.CountLemmas.{zeros-all}
use Rattle.iso_locks.specs.Lockers.{with_zeros}
use Rattle.iso_locks.proofs.counts.Counts.new.Goals as goal

pub returns : goal.returns
returns c =
    ap (λ (ws : List ℕ). with_zeros ws c.args.all) c.in_ok-with_capacity.ensures.items ∙ zeros-all c.args.all
