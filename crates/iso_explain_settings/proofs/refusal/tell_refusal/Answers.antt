use Rattle.std.proofs.lemmas.Result.{on_ok_weaker}
use Rattle.iso_tap.proofs.Sequences.{Wrote-then}
use Rattle.iso_explain_settings.proofs.refusal.tell_refusal.Goals as goal

pub returns : goal.returns
returns c = on_ok_weaker c.tell_last.result (λ wrote. Wrote-then c.in_ok-tell_place.ensures wrote) c.tell_last.ensures
