use Rattle.std.proofs.Common.{◌≡◌, [], ℕ, List, map, ap, ◌∙◌, arith}
use Rattle.std.proofs.lemmas.List.{map_push}
use Rattle.std.specs.declared.alloc.Global.{Global}
use Rattle.std.specs.declared.vec.Vec.{Vec}
use Rattle.iso_html.specs.declared.shape.Mark.{Mark}
use Rattle.iso_plan.proofs.ColumnLemmas.{column-push}
use Rattle.iso_plan.specs.Paths.{column}
use Rattle.iso_html.proofs.lists.empty.Goals as goal

abbrev marks : Vec Mark Global → List Mark
marks v = v.items

abbrev none : ℕ → List Mark
none n = []

pub lists-init : goal.lists-init
lists-init c = ap (map marks) c.in_ok-lists.ensures.items

pub lists-preserved : goal.lists-preserved
lists-preserved c =
    let v = c.lists.lists in
    ap (map marks) c.in_ok-push.ensures.items ∙ map_push marks v.items c.new.result
    ∙ column-push none (map marks v.items) c.lists._number (marks c.new.result) c.lists.invariant c.new.ensures.items

pub returns : goal.returns
returns c =
    let last : c.lists._number ≡ c.args.count = omega arith in
    c.lists.invariant ∙ ap (column none) last
