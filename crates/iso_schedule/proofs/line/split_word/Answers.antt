use Rattle.std.proofs.Common.{ap, take, drop, ◌∙◌}
use Rattle.iso_schedule.proofs.line.split_word.Goals as goal

pub returns : goal.returns
returns c =
    let front = c.split_at.ensures.front ∙ ap (λ k. take k c.args.bytes.now) c.word_length.ensures.exact in
    let back = c.split_at.ensures.back ∙ ap (λ k. drop k c.args.bytes.now) c.word_length.ensures.exact in
    λ i. (front i, back i)
