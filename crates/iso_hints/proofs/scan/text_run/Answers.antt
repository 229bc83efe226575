use Rattle.iso_hints.proofs.RunLemmas.{text-run}
use Rattle.iso_hints.proofs.scan.text_run.Goals as goal

pub returns : goal.returns
returns c = rw c.unwrap_or.ensures (text-run c.args.bytes.now c.memchr2.result c.memchr2.ensures)
