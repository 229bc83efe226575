use Rattle.std.proofs.Common.{◌≡◌, reverse, ap, sym, ◌∙◌}
use Rattle.std.proofs.lemmas.List.{reverse-reverse}
use Rattle.iso_explain_block.specs.Variables.{heads_of}
use Rattle.iso_plan.specs.NodeChains.{chain_classes}
use Rattle.iso_plan.specs.RowView.{tree_of}
use Rattle.iso_telling.proofs.ExplainedLemmas.{same-hints}
use Rattle.iso_telling.proofs.explained.hints_at.Goals as goal

pub returns-in-Row : goal.returns-in-Row
returns-in-Row c =
    let heads : heads_of c.chain.result.classes.now ≡ reverse (chain_classes (tree_of c.args.plan.now) c.args.node)
    = sym (reverse-reverse (heads_of c.chain.result.classes.now)) ∙ ap reverse c.chain.ensures.classes in
    let same = same-hints c.args.kind c.in-Row.block c.in-Row.row c.as_str.ensures heads c.chain.ensures.test c.name.ensures in
    rw c.in-Row.is (rw same at c.hints.ensures)
