use Rattle.std.proofs.Common.{sym, true≢false, ◌∙◌}
use Rattle.std.proofs.lemmas.Slice.Eq.{bytes_eq-Decides}
use Rattle.iso_hints.proofs.KeyLemmas.{behind-both, known-without-dot, unlike, without-dot}
use Rattle.iso_hints.proofs.near_key.behind_segment.Goals as goal

pub returns-in_err-segment-clause-rests : goal.returns-in_err-segment-clause-rests
returns-in_err-segment-clause-rests c = rw c.from_residual.ensures (without-dot c.args.key.now c.args.known.now c.in_err-segment.ensures.cases)

pub returns-in_err-known_segment-clause-rests : goal.returns-in_err-known_segment-clause-rests
returns-in_err-known_segment-clause-rests c =
    rw c.from_residual-in_err-known_segment.ensures (known-without-dot c.args.key.now c.args.known.now c.in_err-known_segment.ensures.cases)

pub returns-then-eq-clause-rests : goal.returns-then-eq-clause-rests
returns-then-eq-clause-rests c =
    let equal = (bytes_eq-Decides c.in_ok-segment.segment.now c.in_ok-known_segment.known_segment.now).0 (sym c.eq.ensures ∙ c.if-eq.true) in
    behind-both c.args.key.now c.args.known.now c.in_ok-segment.segment c.in_ok-segment.rest c.in_ok-known_segment.known_segment c.in_ok-known_segment.known_rest
    c.in_ok-segment.ensures.cases c.in_ok-known_segment.ensures.cases equal

pub returns-else-eq-clause-rests : goal.returns-else-eq-clause-rests
returns-else-eq-clause-rests c =
    let decides = bytes_eq-Decides c.in_ok-segment.segment.now c.in_ok-known_segment.known_segment.now in
    unlike c.args.key.now c.args.known.now c.in_ok-segment.segment c.in_ok-segment.rest c.in_ok-known_segment.known_segment c.in_ok-known_segment.known_rest
    c.in_ok-segment.ensures.cases c.in_ok-known_segment.ensures.cases (λ equal. true≢false (sym (decides.1 equal) ∙ sym c.eq.ensures ∙ c.if-eq.false))
