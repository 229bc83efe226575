use Rattle.std.proofs.Common.{◌≡◌, ◌++◌, List, ℕ, take, append-nil, sym, ap, ap₂, ◌∙◌, ◌∷◌, [], arith}
use Rattle.std.proofs.lemmas.List.{take_all}
use Rattle.std.specs.declared.alloc.Global.{Global}
use Rattle.std.specs.declared.sync.Arc.{Arc}
use Rattle.std.specs.declared.vec.Vec.{Vec}
use Rattle.iso_model.specs.Layers.{declared_in}
use Rattle.iso_model.specs.Rights.{access_in}
use Rattle.iso_model.specs.declared.access.Access.{Access}
use Rattle.iso_model.specs.declared.rights.Layer.{Layer}
use Rattle.iso_model.proofs.LayerLemmas.{layers-more, none_declared}
use Rattle.iso_model.proofs.rights.Rights.within.Goals as goal
use Rattle.iso_model.proofs.rights.Rights.within.Goals.{then-not-is_empty+in_ok-new+in_ok-push, else-not-is_empty}

pub outer-init : goal.outer-init
outer-init c = sym (append-nil _)

pub outer-preserved : goal.outer-preserved
outer-preserved c =
    ap declared_in c.in_ok-push-2.ensures.items
    ∙ layers-more c.deref-outer-items.result.now c.outer.layers.items c.outer.outer-index c.outer-item.result c.in_ok-clone.field-0 (declared_in c.if-not-is_empty.layers.items) (omega arith)
    c.outer-item.is c.in_ok-clone.ensures.cases c.outer.invariant

pub returns : goal.returns
returns c = λ k.
    let outer = c.deref-outer-items.result.now in
    let mine = c.in_ok-layer.layer.entries in
    let own : declared_in c.if-not-is_empty.layers.items ≡ mine = elim c.if-not-is_empty.branch [
      | then-not-is_empty+in_ok-new+in_ok-push w ↦ ap (λ (v : Vec (Arc Layer Global) Global). declared_in v.items) w.layers-is
          ∙ ap declared_in (w.in_ok-push.ensures.items ∙ ap (λ (ls : List (Arc Layer Global)). ls ++ w.in_ok-new.field-0 ∷ []) c.in_ok-layers.ensures.items)
          ∙ append-nil _ ∙ ap (λ (l : Layer). l.entries) w.in_ok-new.ensures.ok
      | else-not-is_empty w ↦ ap (λ (v : Vec (Arc Layer Global) Global). declared_in v.items) w.layers-is
          ∙ ap declared_in c.in_ok-layers.ensures.items ∙ sym (none_declared mine c.is_empty.result c.is_empty.ensures w.if-not-is_empty.false)
    ] in
    let above : declared_in (take c.outer.outer-index outer) ≡ c.args.self.now =
    ap declared_in (take_all c.outer.outer-index outer (omega arith) ∙ c.deref-outer-items.ensures.value) ∙ c.self.view_is in
    ap (λ es. access_in es k) (c.outer.invariant ∙ ap₂ (λ (xs ys : List (List ℕ × Access)). xs ++ ys) own above) ∙ c.in_ok-layer.ensures k
