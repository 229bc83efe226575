use Rattle.std.proofs.Common.{ℕ, List, ap, get_or, sym, ◌∙◌}
use Rattle.iso_locks.proofs.CountLemmas.{count-at}
use Rattle.iso_locks.specs.Lockers.{under_it}
use Rattle.iso_locks.proofs.counts.Counts.get.Goals as goal

pub returns : goal.returns
returns c =
    c.count_of.ensures ∙ ap (λ (ws : List ℕ). get_or ws c.args.number 0) c.deref.ensures.value
    ∙ sym (count-at c.self.inside.written.items c.self.inside.all c.args.number) ∙ ap (λ (us : List ℕ). under_it us c.args.number) c.self.view_is
