use Rattle.std.proofs.Common.{◌≡◌, ◌-◌, ℕ, suc, drop, refl, subst, ◌∙◌, arith}
use Rattle.std.specs.List.{zip}
use Rattle.iso_places.proofs.Entries.{table-more, table-none}
use Rattle.iso_places.specs.Located.{FindsBy}
use Rattle.iso_places.proofs.table.sites_by_path.Goals as goal

pub nodes-init : goal.nodes-init
nodes-init c = table-none c.args.paths.now c.args.sites.now c.new-table.result c.min-node.result c.new-table.ensures.empty c.min-node.ensures

pub nodes-preserved : goal.nodes-preserved
nodes-preserved c =
    let paths = c.args.paths.now in
    let sites = c.args.sites.now in
    let j = c.nodes.node - 1 in
    let next : c.nodes.node ≡ suc j = omega arith in
    let before = subst (λ (n : ℕ). FindsBy c.nodes.table (drop n (zip paths sites))) next c.nodes.invariant in
    let count = c.min-node.ensures in
    table-more paths sites c.nodes.table c.insert.new.self j c.as_str.result.now _ _ _ (omega arith) (omega arith) (c.as_str.ensures ∙ c.index-paths-node.is) refl c.in_ok-insert.ensures.updates before
