use Rattle.std.proofs.Common.{◌≡◌, ◌+◌, ◌/◌, ◌∙◌, ap, arith, length, replicate, rules}
use Rattle.std.proofs.lemmas.List.{length-replicate}
use Rattle.iso_desk.proofs.BitLemmas.{none_has}
use Rattle.iso_desk.proofs.marks.Marks.new.Goals as goal

pub returns : goal.returns
returns c =
    let words : c.in_ok-words.words.items ≡ replicate (c.args.count / 64 + 1) 0 = search rules in
    let size = ap length words ∙ length-replicate (c.args.count / 64 + 1) 0 in
    (omega arith, λ k. none_has c.in_ok-words.words.items (c.args.count / 64 + 1) k words)
