use Rattle.std.proofs.Common.{◌≡◌, ◌+◌, ◌-◌, ◌≤◌, ap, drop, length, take, ◌∙◌, arith, ℕ}
use Rattle.std.proofs.lemmas.List.{length-drop, take_all}
use Rattle.iso_hints.proofs.HintLemmas.{place-is}
use Rattle.iso_hints.specs.Places.{place_at}
use Rattle.iso_explain.specs.Spots.{first_line}
use Rattle.iso_explain.proofs.spot.spot_of.Goals as goal

pub returns : goal.returns
returns c =
    let bytes = c.args.bytes.now in
    let start = c.start_of-start.result in
    let long = length-drop start bytes in
    let fits : length (drop start bytes) ≤ length bytes - start = omega (arith, long) in
    let rest : take (length bytes - start) (drop start bytes) ≡ drop start bytes = take_all (length bytes - start) (drop start bytes) fits in
    record {
      line = c.first_line.ensures ∙ ap first_line rest ∙ ap (λ (n : ℕ). first_line (drop n bytes)) c.start_of-start.ensures.value;
      place = place-is c.place_at.result (place_at bytes (start + c.saturating_sub.result)) c.place_at.ensures
          ∙ ap (λ (n : ℕ). place_at bytes (start + n)) c.saturating_sub.ensures
          ∙ ap (λ (n : ℕ). place_at bytes (n + (c.args.fault.column - 1))) c.start_of-start.ensures.value;
    }
