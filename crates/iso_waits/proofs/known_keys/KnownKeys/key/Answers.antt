use Rattle.std.proofs.Common.{sym, get_or, ◌∙◌, ◌<◌, length, arith}
use Rattle.iso_plan.specs.RowView.{tree_of}
use Rattle.iso_waits.proofs.KnownLemmas.{known-key, place-within}
use Rattle.iso_waits.proofs.known_keys.KnownKeys.key.Goals as goal

pub index-requires : goal.index-requires
index-requires c =
    let place : get_or c.args.self.now.firsts.items c.args.other 0 < length c.args.self.now.found.items =
    place-within (tree_of c.args.plan.now) c.args.self.now.firsts.items c.args.self.now.found.items c.args.other c.requires.known c.requires.other in
    omega (arith, place, c.first-place.ensures)

pub returns-in-Some : goal.returns-in-Some
returns-in-Some c =
    let tree = tree_of c.args.plan.now in
    let firsts = c.args.self.now.firsts.items in
    let found = c.args.self.now.found.items in
    known-key tree firsts found c.args.node c.args.other c.first-place.result c.index.result.now c.in-Some.known c.requires.known c.requires.node c.requires.other c.first-place.ensures
    (sym c.index.ensures ∙ c.in-Some.is) (c.if-known-of.true ∙ c.first-of.ensures)
