use Rattle.std.proofs.Common.{◌≡◌, take}
use Rattle.iso_plan.specs.RowView.{tree_of}
use Rattle.iso_waits.specs.KnownKeys.{AreKnownKeys}
use Rattle.iso_waits.specs.Rivals.{rivals}
use Rattle.iso_waits.proofs.rivals.collect.Given as goal

abbrev pub invariant-loop-stay : goal.invariant-loop-stay
invariant-loop-stay l = record {
  found : l.found.items ≡ rivals (tree_of l.plan) (take l.stay-index l.stays) l.node;
  keys : AreKnownKeys (tree_of l.plan) l.keys.firsts.items l.keys.found.items;
}
