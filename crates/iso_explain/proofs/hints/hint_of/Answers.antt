use Rattle.iso_explain.specs.Mending.{table_hint, told_by}
use Rattle.iso_explain.specs.Rules.{first_rules}
use Rattle.iso_explain.proofs.RuleLemmas.{either-told}
use Rattle.iso_explain.proofs.hints.hint_of.Goals as goal

pub returns : goal.returns
returns c bytes at =
    let told = c.args.explained.now in
    either-told c.told_by.result c.table_hint.result c.or.result (told_by first_rules bytes told) (table_hint bytes told.fault)
    (c.told_by.ensures bytes at) (c.table_hint.ensures bytes at) c.or.ensures
