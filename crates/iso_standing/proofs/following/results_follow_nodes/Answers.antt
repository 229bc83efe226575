use Rattle.std.proofs.Common.{ap, refl, sym}
use Rattle.iso_standing.proofs.ResultPuts.{first-results, has_frames, put-alike, rest-frames, rest-unfinished}
use Rattle.iso_isolation.proofs.Statuses.{body_unseen, waiting_is}
use Rattle.iso_isolation.specs.States.{is_finished}
use Rattle.iso_standing.proofs.following.results_follow_nodes.Goals as goal

pub returns : goal.returns
returns c = record {
  begin = λ world. first-results c.args.plan.now world;
  enter = λ world r s n are waits.
      put-alike r s n _ _ _ are (sym (ap has_frames (waiting_is (s.status n) waits))) (sym (ap is_finished (waiting_is (s.status n) waits)));
  step = λ world r s n b are here.
      put-alike r s n _ _ _ are (body_unseen has_frames (λ a b. refl) (λ fs a b. refl) (s.status n) _) (body_unseen is_finished (λ a b. refl) (λ fs a b. refl) (s.status n) _);
  shut = λ world r s n are rests. put-alike r s n _ _ _ are (sym (rest-frames (s.status n) rests)) (sym (rest-unfinished (s.status n) rests));
}
