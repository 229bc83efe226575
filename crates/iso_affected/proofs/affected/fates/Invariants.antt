use Rattle.std.proofs.Common.{◌≡◌, ◌<◌, ℕ, length, get_or}
use Rattle.iso_affected.specs.Fates.{IsFate, suites}
use Rattle.iso_affected.specs.declared.affected.Fate.TheVariants.{New}
use Rattle.iso_affected.proofs.affected.fates.Given as goal

abbrev pub invariant-nodes : goal.invariant-nodes
invariant-nodes l =
    (length l.fates.items ≡ l.node) × ((n : ℕ) → n < l.node → IsFate (suites l.old l.before l.new l.after) n (get_or l.fates.items n New))
    × (l.starts ≡ record { before = l.before; after = l.after })
