use Rattle.std.proofs.Common.{◌≡◌, [], ◌∷◌, ◌++◌, List, map, take, get_or, ap, ap₂, sym, ◌∙◌, arith}
use Rattle.std.proofs.lemmas.List.{map_push, take_all, take_more}
use Rattle.std.specs.declared.alloc.Global.{Global}
use Rattle.std.specs.declared.vec.Vec.{Vec}
use Rattle.iso_model.specs.declared.resource.Resource.{Resource}
use Rattle.iso_plan.specs.KeyTable.{keys}
use Rattle.iso_plan.specs.RowView.{tree_of}
use Rattle.iso_locks.specs.Trays.{start_at}
use Rattle.iso_locks.specs.declared.starting.Starting.{Starting}
use Rattle.iso_locks.proofs.starting.starts_of.Goals as goal

pub keys-preserved : goal.keys-preserved
keys-preserved c =
    let start = start_at c.args.world.now in
    let ks = keys (tree_of c.args.plan.now) in
    let n = c.keys.number in
    let key : c.in_ok-key.key ≡ get_or ks n [] = c.in_ok-key.ensures ∙ c.in_ok-copied.ensures ∙ c.key.ensures in
    let with_value : Resource → Starting = λ v. record { key = c.in_ok-key.key; value = v } in
    c.in_ok-push.ensures.items ∙ ap₂ (λ (ss : List Starting) (s : Starting). ss ++ s ∷ []) c.keys.invariant (ap with_value (c.new-value.ensures ∙ c.in_ok-share.ensures) ∙ ap start key)
    ∙ sym (map_push start (take n ks) (get_or ks n [])) ∙ ap (map start) (sym (take_more ks n [] (omega arith)))

pub returns : goal.returns
returns c =
    let ks = keys (tree_of c.args.plan.now) in
    let all = c.keys.invariant ∙ ap (map (start_at c.args.world.now)) (take_all c.keys.number ks (omega arith)) in
    ap (λ (v : Vec Starting Global). v.items) c.in_ok-new.ensures.ok ∙ all
