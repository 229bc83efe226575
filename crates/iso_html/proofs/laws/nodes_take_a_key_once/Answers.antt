use Rattle.iso_html.proofs.LockLemmas.{locks-taken}
use Rattle.iso_html.proofs.laws.nodes_take_a_key_once.Goals as goal

pub returns : goal.returns
returns c tree key n h = locks-taken tree key n h
