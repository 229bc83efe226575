use Rattle.std.proofs.Common.{◌≡◌, take}
use Rattle.iso_record.specs.Recordings.{HasTaken, history_in}
use Rattle.iso_standing.specs.CodeEvents.{events_of}
use Rattle.iso_record.proofs.record.in_full.Given as goal

abbrev pub invariant-history : goal.invariant-history
invariant-history l = record {
  plan : l.recording.plan ≡ l.plan;
  world : l.recording.world ≡ l.world;
  workers : l.recording.workers ≡ l.workers;
  taken : HasTaken l.recording (history_in l.recording);
  history : history_in l.recording ≡ events_of (take l.index l.history);
}
