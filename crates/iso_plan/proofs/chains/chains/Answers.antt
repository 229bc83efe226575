use Rattle.std.proofs.Common.{◌≡◌, [], ◌++◌, ◌<◌, length, map, get_or, ap, ap₂, sym, ◌∙◌, arith}
use Rattle.std.proofs.lemmas.List.{length-map, map_push}
use Rattle.std.specs.declared.alloc.Global.{Global}
use Rattle.std.specs.declared.sync.Arc.{Arc}
use Rattle.std.specs.declared.vec.Vec.{Vec}
use Rattle.iso_model.specs.ChainView.{innermost_first}
use Rattle.iso_model.specs.declared.heads.ClassHead.{ClassHead}
use Rattle.iso_plan.proofs.ColumnLemmas.{length-column, column-push, row-at, view-read}
use Rattle.iso_plan.proofs.PathLemmas.{path-root, chain-step}
use Rattle.iso_plan.specs.NodeChains.{chain_classes, class_heads, heads_on}
use Rattle.iso_plan.specs.Paths.{column, parent, row_at}
use Rattle.iso_plan.specs.RowView.{heads_in, kind_of, row_of}
use Rattle.iso_plan.specs.Tree as T
use Rattle.iso_plan.specs.declared.row.Row.{Row}
use Rattle.iso_plan.proofs.chains.chains.Goals as goal
use Rattle.iso_plan.proofs.chains.chains.Goals.{then-n-eq0+in_ok-chain, else-n-eq0+in_ok-chain-2}

pub index-requires : goal.index-requires
index-requires c =
    let rows = c.args.rows.now in
    let n = c.nodes.n in
    let v = c.nodes.chains in
    let count : length v.items ≡ n = sym (length-map v.items heads_in) ∙ ap length c.nodes.invariant ∙ length-column (chain_classes (map row_of rows)) n in
    let at : parent (map row_of rows) n ≡ (get_or rows n c.index-rows-n.result).parent = ap (λ r. r.parent) (row-at rows n c.index-rows-n.result (omega arith)) in
    let below : parent (map row_of rows) n < n = c.requires.below n (omega arith) in
    let same : c.index-rows-n.result.parent ≡ (get_or rows n c.index-rows-n.result).parent = ap (λ r. r.parent) c.index-rows-n.is in
    omega (arith, v.ok.0)

pub nodes-preserved : goal.nodes-preserved
nodes-preserved c =
    let rows = c.args.rows.now in
    let n = c.nodes.n in
    let v = c.nodes.chains in
    let r = c.index-rows-n.result in
    let tree = map row_of rows in
    let at = row-at rows n r (omega arith) in
    let this : heads_in c.if-n-eq0.chain ≡ chain_classes tree n =
    elim c.if-n-eq0.branch [
      | then-n-eq0+in_ok-chain w ↦ ap heads_in w.chain-is ∙ ap (λ (x : Vec (Arc ClassHead Global) Global). innermost_first x.items) w.in_ok-chain.ensures.ok ∙ ap innermost_first w.new.ensures.items
          ∙ sym (ap (chain_classes tree) w.if-n-eq0.true ∙ ap (heads_on tree) (path-root tree))
      | else-n-eq0+in_ok-chain-2 w ↦ let pos : 0 < n = omega arith in
          let p = r.parent in
          let up : p ≡ parent tree n = ap (λ (x : Row). x.parent) c.index-rows-n.is ∙ sym (ap (λ (x : T.Row). x.parent) at) in
          let below : parent tree n < n = c.requires.below n pos in
          let kind : kind_of r.kind ≡ (row_at tree n).kind = ap (λ (x : Row). kind_of x.kind) c.index-rows-n.is ∙ sym (ap (λ (x : T.Row). x.kind) at) in
          let above : heads_in w.index.result.now ≡ chain_classes tree (parent tree n) =
          ap heads_in w.index.ensures ∙ view-read heads_in (chain_classes tree) v.items n p w.index.result.now [] c.nodes.invariant (omega arith) ∙ ap (chain_classes tree) up in
          ap heads_in w.chain-is ∙ w.in_ok-chain-2.ensures ∙ ap₂ (λ k hs. class_heads k ++ hs) kind above ∙ sym (chain-step tree c.requires.below n pos)
    ] in
    ap (map heads_in) c.in_ok-push.ensures.items ∙ map_push heads_in v.items c.if-n-eq0.chain
    ∙ column-push (chain_classes tree) (map heads_in v.items) n (heads_in c.if-n-eq0.chain) c.nodes.invariant this

pub returns : goal.returns
returns c =
    let last : c.nodes.n ≡ length c.args.rows.now = omega arith in
    c.nodes.invariant ∙ ap (column (chain_classes (map row_of c.args.rows.now))) last
