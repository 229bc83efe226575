use Rattle.std.proofs.Common.{◌≡◌, ◌<◌, length, Some, None, ap, sym, ◌∙◌, subst, arith}
use Rattle.iso_model.specs.ResourceKeys.{spelling}
use Rattle.iso_model.specs.Touch.{HasKind, answered, kind_of_ask}
use Rattle.iso_plan.specs.KeyTable.{keys}
use Rattle.iso_plan.specs.RowView.{tree_of}
use Rattle.iso_locks.specs.Trays.{TrayView, content, number_of, resources}
use Rattle.iso_locks.proofs.NumberLemmas.{number-within}
use Rattle.iso_locks.proofs.TouchLemmas.{count-of, look-nothing, look-start, look-value}
use Rattle.iso_locks.proofs.tray.TrayTouch.look.Goals as goal

pub get-requires : goal.get-requires
get-requires c =
    let tree = tree_of c.self.inside.plan.now in
    let k = spelling c.args.key in
    let i = c.in-Some.number in
    let at : number_of tree k ≡ Some i = sym c.in-Some.ensures in
    let less : i < length (keys tree) = number-within (keys tree) k (length (keys tree)) i at in
    let fits = c.self.invariant.values_fit in
    omega arith

pub get-requires-in-None-get : goal.get-requires-in-None-get
get-requires-in-None-get c =
    let tree = tree_of c.self.inside.plan.now in
    let k = spelling c.args.key in
    let i = c.in-Some.number in
    let at : number_of tree k ≡ Some i = sym c.in-Some.ensures in
    let less : i < length (keys tree) = number-within (keys tree) k (length (keys tree)) i at in
    let all = count-of tree c.self.inside.world.now c.self.inside.starts c.self.invariant.starts_are in
    omega arith

pub returns-in-Some-get : goal.returns-in-Some-get
returns-in-Some-get c =
    let tree = tree_of c.self.inside.plan.now in
    let k = spelling c.args.key in
    let i = c.in-Some.number in
    let at : number_of tree k ≡ Some i = sym c.in-Some.ensures in
    c.look.ensures
    ∙ look-value tree c.self.inside.world.now c.self.inside.lent.held c.self.inside.values k i c.in-Some-get.held.now c.args.ask at (sym c.in-Some-get.ensures)
    ∙ ap (λ (t : TrayView). answered (content t k) c.args.ask) c.self.view_is

pub returns-in-None-get : goal.returns-in-None-get
returns-in-None-get c =
    let tree = tree_of c.self.inside.plan.now in
    let k = spelling c.args.key in
    let i = c.in-Some.number in
    let at : number_of tree k ≡ Some i = sym c.in-Some.ensures in
    let P : TrayView → Type 0 = λ t. HasKind (content t k) (kind_of_ask c.args.ask) in
    let has : HasKind (resources tree c.self.inside.world.now c.self.inside.lent.held c.self.inside.values k) (kind_of_ask c.args.ask) = subst P (sym c.self.view_is) c.requires in
    c.look-in-None-get.ensures
    ∙ look-start tree c.self.inside.world.now c.self.inside.lent.held c.self.inside.values c.self.inside.starts k i c.get-in-None-get.result.now c.args.ask (kind_of_ask c.args.ask)
    c.self.invariant.starts_are at (sym c.in-None-get.ensures) c.get-in-None-get.ensures has
    ∙ ap (λ (t : TrayView). answered (content t k) c.args.ask) c.self.view_is

pub returns-in-None : goal.returns-in-None
returns-in-None c =
    let tree = tree_of c.self.inside.plan.now in
    let k = spelling c.args.key in
    let at : number_of tree k ≡ None = sym c.in-None.ensures in
    let P : TrayView → Type 0 = λ t. HasKind (content t k) (kind_of_ask c.args.ask) in
    let has : HasKind (resources tree c.self.inside.world.now c.self.inside.lent.held c.self.inside.values k) (kind_of_ask c.args.ask) = subst P (sym c.self.view_is) c.requires in
    absurd (look-nothing tree c.self.inside.world.now c.self.inside.lent.held c.self.inside.values k c.args.ask (kind_of_ask c.args.ask) at has)
