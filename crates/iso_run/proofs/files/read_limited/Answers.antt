use Rattle.std.proofs.Common.{ℕ, ◌+◌, ap, ◌∙◌}
use Rattle.iso_run.proofs.Reading.{read_up_to}
use Rattle.iso_run.proofs.files.read_limited.Goals as goal

pub returns-in-Ok-clause-bytes : goal.returns-in-Ok-clause-bytes
returns-in-Ok-clause-bytes g c =
    let limit = c.take-limited.ensures.limit ∙ ap (λ (n : ℕ). n + 1) c.from.ensures in
    let bytes = rw (c.take-limited.ensures.inner, limit) at c.in-Ok.ensures.bytes in
    read_up_to (g.R.Read.remaining c.args.reader.now) (c.args.most + 1) c.new-bytes.result.items c.read_to_end.new.buf.items c.new-bytes.ensures.items bytes
