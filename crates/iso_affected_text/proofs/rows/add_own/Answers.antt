use Rattle.std.proofs.Common.{◌≡◌, ◌∙◌, get_or}
use Rattle.iso_affected.specs.declared.affected.Fate.TheVariants.{Changed, New, Same}
use Rattle.iso_affected_text.proofs.ChangeLemmas.{fate-read, told-node}
use Rattle.iso_affected_text.proofs.rows.add_own.Goals as goal

pub add_told-requires-clause-namesake : goal.add_told-requires-clause-namesake
add_told-requires-clause-namesake c =
    let n = c.args.node in
    let is : get_or c.args.change.now.fates.now n New ≡ Changed c.in-Changed.namesake = fate-read c.args.change.now c.requires.change n (Same 0) c.requires.node.within ∙ c.in-Changed.is in
    told-node c.args.change.now c.requires.change c.nodes_are_a_tree.ensures n c.in-Changed.namesake c.requires.node.above c.requires.node.within is

pub returns-in-Changed : goal.returns-in-Changed
returns-in-Changed c =
    let n = c.args.node in
    let is : get_or c.args.change.now.fates.now n New ≡ Changed c.in-Changed.namesake = fate-read c.args.change.now c.requires.change n (Same 0) c.requires.node.within ∙ c.in-Changed.is in
    rw is c.add_told.ensures
