use Rattle.std.proofs.Common.{◌≡◌, drop}
use Rattle.iso_commands.specs.Lent.{lent}
use Rattle.iso_commands.specs.Replays.{has_unseen_in}
use Rattle.iso_commands.proofs.replay.has_unseen_in.Given as goal

abbrev pub invariant-loop-word : goal.invariant-loop-word
invariant-loop-word l = has_unseen_in (lent l.words) ≡ has_unseen_in (lent (drop l.word-index l.words))
