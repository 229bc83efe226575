use Rattle.std.proofs.Common.{◌≡◌, ℕ, List, [], length, map, None, cond, slice_index_or, ap, ap₂, sym, ◌∙◌}
use Rattle.iso_model.specs.Rights.{Rights, access_in, is_writable}
use Rattle.iso_model.specs.declared.access.Access.{Access}
use Rattle.iso_plan.specs.KeyTable.{keys}
use Rattle.iso_plan.specs.NodeChains.{node_rights}
use Rattle.iso_plan.specs.Paths.{column}
use Rattle.iso_plan.specs.RowView.{tree_of}
use Rattle.iso_plan.specs.Tree.{Row}
use Rattle.iso_settings.specs.Worlds.{Start}
use Rattle.iso_locks.specs.Kept.{kept_by}
use Rattle.iso_locks.specs.Slots.{Slots, slot}
use Rattle.iso_locks.specs.Trays.{SavepointView, TrayView, kept, marked, may_write, start_at}
use Rattle.iso_locks.specs.declared.starting.Starting.{Starting}
use Rattle.iso_locks.proofs.KeptLemmas.{nothing-kept}
use Rattle.iso_locks.proofs.TouchLemmas.{count-of, keys-of}
use Rattle.iso_locks.proofs.tray.Tray.mark.Goals as goal

kept-is : (tree : List Row) (world : Start) (starts found : List Starting) (rights : List (List ℕ × Access)) (values : Slots) (n : ℕ)
    → starts ≡ map (start_at world) (keys tree) → found ≡ starts → access_in rights ≡ node_rights tree n
    → kept_by rights found values ≡ kept tree n values
kept-is tree world starts found rights values n e same rights_are =
    ap₂ (λ (r : Rights) (ks : List (List ℕ)). column (λ i. cond (is_writable (r (slice_index_or ks i []))) (slot values i) None) (length values)) rights_are (keys-of tree world found (same ∙ e))

pub of-requires : goal.of-requires
of-requires c =
    ap length c.in_ok-starts.ensures ∙ count-of (tree_of c.self.inside.plan.now) c.self.inside.world.now c.self.inside.starts c.self.invariant.starts_are ∙ sym c.self.invariant.values_fit

pub returns-then-has_none : goal.returns-then-has_none
returns-then-has_none c =
    let tree = tree_of c.self.inside.plan.now in
    let n = c.args.node in
    let marks : Slots → SavepointView = λ vs. record { node = n; values = vs } in
    let none = c.has_none.ensures.0 c.if-has_none.true in
    ap marks (c.of-then.ensures ∙ nothing-kept c.self.inside.values (may_write tree n) none) ∙ ap (λ (t : TrayView). marked t n) c.self.view_is

pub returns : goal.returns
returns c =
    let tree = tree_of c.self.inside.plan.now in
    let is = kept-is tree c.self.inside.world.now c.self.inside.starts c.in_ok-starts.starts c.rights.result.now c.self.inside.values c.args.node c.self.invariant.starts_are
    c.in_ok-starts.ensures c.rights.ensures in
    let marks : Slots → SavepointView = λ vs. record { node = c.args.node; values = vs } in
    ap marks (c.in_ok-kept.ensures ∙ is) ∙ ap (λ (t : TrayView). marked t c.args.node) c.self.view_is
