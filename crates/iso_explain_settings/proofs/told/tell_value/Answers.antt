use Rattle.std.proofs.Common.{◌++◌, List, ℕ, ap}
use Rattle.std.proofs.lemmas.Result.{on_ok_weaker}
use Rattle.toml.specs.View.{view}
use Rattle.iso_tap.proofs.Sequences.{Wrote-then}
use Rattle.iso_explain_settings.specs.Told.{advice_text}
use Rattle.iso_explain_settings.proofs.told.tell_value.Goals as goal

pub returns : goal.returns
returns c =
    let (told, (text, is, told-is), first) = c.in_ok-tell_written.ensures in
    let m = c.args.mistake.now in
    let rest = advice_text c.is_long_text-is_long.result m.kind m.wanted m.key.now (view c.args.value.now) in
    on_ok_weaker c.tell_advice.result
    (λ wrote. (told ++ rest, (text, is, rw (← c.is_long_text-is_long.ensures) (ap (λ (t : List ℕ). t ++ rest) told-is)), Wrote-then first wrote)) c.tell_advice.ensures
