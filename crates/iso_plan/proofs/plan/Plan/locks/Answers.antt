use Rattle.std.proofs.Common.{◌<◌, map, length, subst, ap, sym, ◌∙◌, arith}
use Rattle.std.specs.List.{All}
use Rattle.iso_plan.proofs.ColumnLemmas.{column-read, within-column}
use Rattle.iso_plan.proofs.LockLemmas.{locks-known}
use Rattle.iso_plan.specs.KeyTable.{keys}
use Rattle.iso_plan.specs.Locks.{locks}
use Rattle.iso_plan.specs.Planned.{Planned}
use Rattle.iso_plan.specs.RowView.{row_of, tree_of}
use Rattle.iso_plan.specs.declared.lock.Lock.{Lock}
use Rattle.iso_plan.proofs.plan.Plan.locks.Goals as goal

pub index-requires : goal.index-requires
index-requires c =
    let v = c.self.inside.locks in
    let tree = map row_of c.self.inside.rows.items in
    let here : c.args.node < length tree = rw (ap tree_of c.self.view_is) c.requires in
    let inside = within-column (locks tree) v.items (length tree) c.args.node c.self.invariant.taken_are here in
    omega (arith, v.ok.0)

pub returns-clause-locks : goal.returns-clause-locks
returns-clause-locks c =
    let v = c.self.inside.locks in
    let tree = map row_of c.self.inside.rows.items in
    let here : c.args.node < length tree = rw (ap tree_of c.self.view_is) c.requires in
    c.as_slice.ensures ∙ c.index.ensures ∙ column-read (locks tree) v.items (length tree) c.args.node c.index.result.now c.self.invariant.taken_are here
    ∙ ap (λ (p : Planned). locks (tree_of p) c.args.node) c.self.view_is

pub returns-clause-known : goal.returns-clause-known
returns-clause-known c =
    let tree = tree_of c.args.self.now in
    subst (All (λ (l : Lock). l.key < length (keys tree))) (sym (returns-clause-locks c)) (locks-known tree c.args.node)
