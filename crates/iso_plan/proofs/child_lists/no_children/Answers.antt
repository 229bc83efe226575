use Rattle.std.proofs.Common.{◌≡◌, [], ℕ, List, map, ap, ◌∙◌, arith}
use Rattle.std.proofs.lemmas.List.{map_push}
use Rattle.std.specs.declared.alloc.Global.{Global}
use Rattle.std.specs.declared.vec.Vec.{Vec}
use Rattle.iso_plan.proofs.ColumnLemmas.{column-push}
use Rattle.iso_plan.specs.Paths.{column}
use Rattle.iso_plan.proofs.child_lists.no_children.Goals as goal

abbrev numbers : Vec ℕ Global → List ℕ
numbers v = v.items

abbrev none : ℕ → List ℕ
none n = []

pub nodes-init : goal.nodes-init
nodes-init c = ap (map numbers) c.in_ok-children.ensures.items

pub nodes-preserved : goal.nodes-preserved
nodes-preserved c =
    let v = c.nodes.children in
    ap (map numbers) c.in_ok-push.ensures.items ∙ map_push numbers v.items c.new.result
    ∙ column-push none (map numbers v.items) c.nodes._n (numbers c.new.result) c.nodes.invariant c.new.ensures.items

pub returns : goal.returns
returns c =
    let last : c.nodes._n ≡ c.args.count = omega arith in
    c.nodes.invariant ∙ ap (column none) last
