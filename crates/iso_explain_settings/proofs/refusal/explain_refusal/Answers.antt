use Rattle.std.proofs.Common.{◌≤◌, length, refl, arith}
use Rattle.std.proofs.lemmas.Result.{on_ok_weaker}
use Rattle.iso_explain_settings.specs.Refusals.{refusal_text}
use Rattle.iso_explain_settings.proofs.refusal.explain_refusal.Goals as goal

pub returns : goal.returns
returns c refused =
    let (starts, ends) = c.in-Some.ensures.range in
    let (ordered, within) = c.in-Err.ensures.span in
    let start = c.in-Some.span.start in
    let end = c.in-Some.span.end in
    let message = c.message.result.now in
    let first : start ≤ end = omega (arith, starts, ends, ordered) in
    let last : end ≤ length c.args.bytes.now = omega (arith, ends, within) in
    on_ok_weaker c.tell_refusal.result
    (λ wrote. (refusal_text c.args.name.now c.args.bytes.now start end message, (start, end, message, first, last, refl), wrote)) c.tell_refusal.ensures
