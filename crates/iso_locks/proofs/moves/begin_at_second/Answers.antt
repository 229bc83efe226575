use Rattle.std.proofs.Common.{◌≡◌, ◌==◌, List, [], ◌∷◌, false, length, slice_index_or, sym, ◌∙◌, true}
use Rattle.iso_model.specs.declared.access.Access.TheVariants.{Read}
use Rattle.iso_plan.specs.declared.lock.Lock.{Lock}
use Rattle.iso_locks.specs.Moves.{BeginAtSecond, writes_key}
use Rattle.iso_locks.proofs.moves.begin_at_second.Goals as goal

abbrev no_lock : Lock
no_lock = record { key = 0; access = Read }

begins : (ls : List Lock) → (length ls == 0) ≡ false → writes_key (slice_index_or ls 0 no_lock) 1 ≡ true → BeginAtSecond ls
begins [] e w = absurd (cc)
begins (l ∷ ls) e w = w

pub returns : goal.returns
returns c = λ e. begins c.args.locks.now (sym c.is_empty.ensures ∙ c.if-is_empty.false) (sym c.writes.ensures ∙ e)
