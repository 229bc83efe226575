use Rattle.std.proofs.Common.{subst, sym, ◌∙◌}
use Rattle.iso_plan.specs.RowView.{tree_of}
use Rattle.iso_waits.proofs.WaitLemmas.{known-same, rivals-alike}
use Rattle.iso_waits.specs.KnownKeys.{IsTwin}
use Rattle.iso_waits.proofs.rivals.Rivals.find.Goals as goal

pub collect-requires-clause-node : goal.collect-requires-clause-node
collect-requires-clause-node c =
    let tree = tree_of c.args.plan.now in
    let twin : IsTwin tree c.args.node c.first-first.result = subst (IsTwin tree c.args.node) (sym c.first-first.ensures) (c.requires.keys.stand.each c.args.node c.requires.node) in
    twin.within

pub returns-then-is_that-clause-found : goal.returns-then-is_that-clause-found
returns-then-is_that-clause-found c =
    let tree = tree_of c.args.plan.now in
    let n = c.args.node in
    let twin : IsTwin tree n c.first-first.result = subst (IsTwin tree n) (sym c.first-first.ensures) (c.requires.keys.stand.each n c.requires.node) in
    known-same tree c.args.stays.now c.args.self.now.of c.args.self.now.stays.items c.first-first.result n c.requires.known (sym c.is_that.ensures ∙ c.if-is_that.true) twin

pub returns-clause-found : goal.returns-clause-found
returns-clause-found c =
    let tree = tree_of c.args.plan.now in
    let n = c.args.node in
    let first = c.first-first.result in
    let twin : IsTwin tree n first = subst (IsTwin tree n) (sym c.first-first.ensures) (c.requires.keys.stand.each n c.requires.node) in
    c.in_ok-collect.ensures.found ∙ rivals-alike tree c.args.stays.now first n twin.same
