use Rattle.iso_hints.proofs.RunLemmas.{comment-run}
use Rattle.iso_hints.proofs.scan.comment_run.Goals as goal

pub returns : goal.returns
returns c = rw c.unwrap_or.ensures (comment-run c.args.bytes.now c.memchr.result c.memchr.ensures)
