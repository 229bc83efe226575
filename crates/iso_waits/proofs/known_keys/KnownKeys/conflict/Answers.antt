use Rattle.std.proofs.Common.{ap, ◌∙◌, get_or, length, ◌<◌, arith}
use Rattle.std.specs.Option.{is_some}
use Rattle.iso_plan.specs.RowView.{tree_of}
use Rattle.iso_waits.proofs.HolderLemmas.{contended-is}
use Rattle.iso_waits.proofs.KnownLemmas.{conflict-turned, known-kept, place-within}
use Rattle.iso_waits.proofs.known_keys.KnownKeys.conflict.Goals as goal

pub index_mut-requires : goal.index_mut-requires
index_mut-requires c =
    let place : get_or c.args.self.now.firsts.items c.args.other 0 < length c.args.self.now.found.items =
    place-within (tree_of c.args.plan.now) c.args.self.now.firsts.items c.args.self.now.found.items c.args.other c.requires.known c.requires.other in
    omega (arith, place, c.first-place.ensures)

pub returns-clause-conflict : goal.returns-clause-conflict
returns-clause-conflict c =
    let tree = tree_of c.args.plan.now in
    c.is_some.ensures ∙ ap is_some c.key-key.ensures ∙ contended-is tree c.args.node c.args.other ∙ conflict-turned tree c.args.node c.args.other

pub returns-clause-known : goal.returns-clause-known
returns-clause-known c =
    known-kept (tree_of c.args.plan.now) c.args.self.now.firsts.items c.args.self.now.found.items c.args.node c.args.other c.first-of.result c.first-place.result c.key-key.result
    c.requires.known c.requires.node c.requires.other c.first-of.ensures c.first-place.ensures c.key-key.ensures
