use Rattle.std.proofs.Common.{◌≡◌, ◌≤◌, length, min, take, ℕ, arith, sym, ap, ◌∙◌}
use Rattle.std.proofs.Math.Nat.{min-le_left, min-le_right}
use Rattle.std.proofs.lemmas.List.{length-set}
use Rattle.iso_summary.proofs.SourceLemmas.{shown-next, shown-all}
use Rattle.iso_summary.proofs.shown_line.shown_bytes.Goals as goal

pub loop-i-preserved : goal.loop-i-preserved
loop-i-preserved c =
    let line = c.args.line.now in
    let within : c.min-count.result ≤ length line = rw c.min-count.ensures (min-le_left (length line) 160) in
    let few : c.min-count.result ≤ 160 = rw c.min-count.ensures (min-le_right (length line) 160) in
    let room = c.loop-i.invariant.room in
    record {
      room = length-set c.loop-i.shown c.loop-i.i _ ∙ room;
      shown = shown-next c.loop-i.shown line c.loop-i.i _ (omega arith) (omega arith) c.loop-i.invariant.shown c.shown_byte.ensures;
    }

pub returns : goal.returns
returns c =
    let end : c.loop-i.i ≡ min (length c.args.line.now) 160 = omega arith in
    ap (λ (n : ℕ). take n c.loop-i.shown) (sym end) ∙ shown-all c.loop-i.shown c.args.line.now c.loop-i.i end c.loop-i.invariant.shown
