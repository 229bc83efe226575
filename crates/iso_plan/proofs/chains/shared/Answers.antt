use Rattle.std.proofs.Common.{[], ◌∷◌, ◌++◌, map, reverse, ap, ◌∙◌, arith}
use Rattle.std.proofs.lemmas.List.{map_push, take_all}
use Rattle.std.specs.Arc.{arc_value}
use Rattle.std.specs.declared.alloc.Global.{Global}
use Rattle.std.specs.declared.sync.Arc.{Arc}
use Rattle.iso_model.specs.Chains as C
use Rattle.iso_model.specs.ScriptView.{class_head_of}
use Rattle.iso_model.specs.declared.heads.ClassHead.{ClassHead}
use Rattle.iso_plan.proofs.Growth.{mapped-next}
use Rattle.iso_plan.proofs.chains.shared.Goals as goal

abbrev head : Arc ClassHead Global → C.ClassHead
head c = class_head_of (arc_value c)

pub heads-init : goal.heads-init
heads-init c = ap (map head) c.in_ok-chain.ensures.items

pub heads-preserved : goal.heads-preserved
heads-preserved c =
    let old = c.heads.chain.items in
    ap (map head) c.in_ok-push.ensures.items ∙ map_push head old c.in_ok-clone.field-0
    ∙ ap (λ (h : C.ClassHead). map head old ++ h ∷ []) (ap class_head_of c.in_ok-clone.ensures.cases)
    ∙ mapped-next head c.args.heads.now (map head old) c.heads.head-index c.head-item.result c.head-item.result (omega arith) c.head-item.is c.heads.invariant

pub returns : goal.returns
returns c = ap reverse (c.heads.invariant ∙ ap (map head) (take_all c.heads.head-index c.args.heads.now (omega arith)))
