use Rattle.std.proofs.Common.{ℕ, ◌≡◌, ◌*◌, ◌/◌, ◌%◌, ◌<◌, ◌==◌, ◌∙◌, ap, arith, cond, get_or, length, length-set, refl}
use Rattle.std.proofs.lemmas.List.{get_or_read_under}
use Rattle.iso_desk.specs.Marking.{bit}
use Rattle.iso_desk.proofs.BitLemmas.{set_has}
use Rattle.iso_desk.proofs.marks.Marks.set.Goals as goal

pub returns : goal.returns
returns c =
    let ws = c.args.self.now.words.items in
    let n = c.args.number in
    let whole : n < 64 * length ws = c.requires in
    let below : n / 64 < length ws = omega arith in
    let was : c.index.result.now ≡ get_or ws (n / 64) 0 = get_or_read_under ws (n / 64) (length ws) c.index.result.now 0 c.index.ensures below refl in
    record {
      room = ap (λ (x : ℕ). 64 * x) (length-set ws (n / 64) c.with_bit.result);
      set = λ k. set_has ws n k c.with_bit.result c.args.is_in below (λ t h. c.with_bit.ensures t h ∙ ap (λ (x : ℕ). cond (t == n % 64) c.args.is_in (bit x t)) was);
    }
