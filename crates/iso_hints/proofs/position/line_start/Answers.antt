use Rattle.std.proofs.Common.{◌≡◌, ℕ, suc, ◌+◌, ◌-◌, List, Some, drop, length, ap, ap₂, subst, ◌∙◌, arith}
use Rattle.std.proofs.lemmas.List.{drop-drop, length-drop}
use Rattle.memchr.specs.Find.{IsFirstByte, Nowhere, is_byte}
use Rattle.iso_hints.specs.Positions.{line_start}
use Rattle.iso_hints.proofs.PositionLemmas.{Feed, slice-rest, start-behind, start-last}
use Rattle.iso_hints.proofs.position.line_start.Goals as goal

pub returns-in_default-clause-start : goal.returns-in_default-clause-start
returns-in_default-clause-start c =
    let text = c.args.text.now in
    let start = c.lines.start in
    let left = c.args.lines - c.lines._line in
    let some : left ≡ suc (left - 1) = omega arith in
    let none = subst (λ (bs : List ℕ). Nowhere (Feed bs) 0 (length bs)) (slice-rest start text) c.in_default.ensures in
    let last = ap (λ (n : ℕ). line_start n (drop start text)) some ∙ start-last (left - 1) (drop start text) none in
    let long = length-drop start text in
    let within = c.lines.invariant.within in
    let same = c.lines.invariant.same in
    omega (arith, last, long, within, same)

pub lines-preserved : goal.lines-preserved
lines-preserved c =
    let text = c.args.text.now in
    let start = c.lines.start in
    let feed = c.in-Some.feed in
    let left = c.args.lines - c.lines._line in
    let some : left ≡ suc (left - 1) = omega arith in
    let found = subst (λ (bs : List ℕ). IsFirstByte (is_byte 10) bs (Some feed)) (slice-rest start text) c.in-Some.ensures in
    let first = found.0 in
    let high = first.high in
    let behind = ap (λ (n : ℕ). line_start n (drop start text)) some
    ∙ start-behind (left - 1) (drop start text) feed high (λ j low. first.before j (omega arith) low) found.1 in
    let fewer : left - 1 ≡ c.args.lines - (c.lines._line + 1) = omega arith in
    let further : start + suc feed ≡ start + (feed + 1) = omega arith in
    let more = ap₂ line_start fewer (drop-drop (suc feed) start text ∙ ap (λ (n : ℕ). drop n text) further) in
    let long = length-drop start text in
    let within = c.lines.invariant.within in
    let same = c.lines.invariant.same in
    record {
      within = omega (arith, high, long, within);
      same = omega (arith, behind, more, same);
    }
