use Rattle.std.proofs.Common.{◌≡◌, ◌<◌, map, length, subst, ap, sym, ◌∙◌, arith}
use Rattle.std.proofs.lemmas.List.Elements.{All-from_recursion}
use Rattle.std.specs.List.{All}
use Rattle.iso_plan.proofs.ColumnLemmas.{column-read, within-column}
use Rattle.iso_plan.proofs.LeadLemmas.{leads-known, some-lists}
use Rattle.iso_plan.specs.KeyGroups.{lead_locks}
use Rattle.iso_plan.specs.KeyTable.{keys}
use Rattle.iso_plan.specs.Paths.{column}
use Rattle.iso_plan.specs.Planned.{Planned}
use Rattle.iso_plan.specs.RowView.{row_of, tree_of}
use Rattle.iso_plan.specs.declared.lock.Lock.{Lock}
use Rattle.iso_plan.proofs.plan.Plan.lead_locks.Goals as goal

pub index-requires : goal.index-requires
index-requires c =
    let v = c.in-Some.lists in
    let tree = map row_of c.self.inside.rows.items in
    let here : c.args.node < length tree = rw (ap tree_of c.self.view_is) c.requires in
    let are : v.items ≡ column (lead_locks tree) (length tree) = some-lists tree c.self.inside.lead_locks v c.in-Some.is c.self.invariant.lead_locks_are in
    let inside = within-column (lead_locks tree) v.items (length tree) c.args.node are here in
    omega (arith, v.ok.0)

pub returns-in-Some-clause-locks : goal.returns-in-Some-clause-locks
returns-in-Some-clause-locks c =
    let v = c.in-Some.lists in
    let tree = map row_of c.self.inside.rows.items in
    let here : c.args.node < length tree = rw (ap tree_of c.self.view_is) c.requires in
    let are : v.items ≡ column (lead_locks tree) (length tree) = some-lists tree c.self.inside.lead_locks v c.in-Some.is c.self.invariant.lead_locks_are in
    c.as_slice.ensures ∙ c.index.ensures ∙ column-read (lead_locks tree) v.items (length tree) c.args.node c.index.result.now are here
    ∙ ap (λ (p : Planned). lead_locks (tree_of p) c.args.node) c.self.view_is

pub returns-in-Some-clause-known : goal.returns-in-Some-clause-known
returns-in-Some-clause-known c =
    let tree = tree_of c.args.self.now in
    subst (All (λ (l : Lock). l.key < length (keys tree))) (sym (returns-in-Some-clause-locks c))
    (All-from_recursion (λ (l : Lock). l.key < length (keys tree)) (lead_locks tree c.args.node) (leads-known tree c.args.node))
