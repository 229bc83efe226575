use Rattle.std.proofs.Common.{◌≡◌, Some, length, arith}
use Rattle.std.specs.List.{slice_get}
use Rattle.iso_model.proofs.BindingLemmas.{index-is, length-layers-left, place-in-layer, place-past-layer}
use Rattle.iso_model.proofs.NameLemmas.{place_of-le}
use Rattle.iso_model.proofs.bindings.Bindings.place_of.Goals as goal

pub returns-then-place-len : goal.returns-then-place-len
returns-then-place-len c =
    let ls = c.deref-layer-items.result.now in
    let i = c.layers.layer-index in
    let l = c.layer-item.result in
    let x = c.args.name.now in
    let there : slice_get ls i ≡ Some l = index-is l ls i (omega arith) c.layer-item.is in
    let here = place-in-layer ls c.self.inside.own i l x there (omega (arith, c.place_of-place.ensures, c.len.ensures, c.if-place-len.true)) in
    omega (arith, here, c.layers.invariant.place, c.place_of-place.ensures)

pub overflow_add-before : goal.overflow_add-before
overflow_add-before c =
    let ls = c.deref-layer-items.result.now in
    let i = c.layers.layer-index in
    let l = c.layer-item.result in
    let there : slice_get ls i ≡ Some l = index-is l ls i (omega arith) c.layer-item.is in
    let left = length-layers-left ls i l there in
    omega (arith, left, place_of-le l c.args.name.now, c.layers.invariant.counted, c.self.invariant.fits, c.place_of-place.ensures)

pub layers-preserved : goal.layers-preserved
layers-preserved c =
    let ls = c.deref-layer-items.result.now in
    let i = c.layers.layer-index in
    let l = c.layer-item.result in
    let x = c.args.name.now in
    let there : slice_get ls i ≡ Some l = index-is l ls i (omega arith) c.layer-item.is in
    let le = place_of-le l x in
    let all : c.place_of-place.result ≡ length l = omega (arith, le, c.place_of-place.ensures, c.len.ensures, c.if-place-len.false) in
    let past = place-past-layer ls c.self.inside.own i l x there (omega (arith, all, c.place_of-place.ensures)) in
    let left = length-layers-left ls i l there in
    record { place = omega (arith, all, past, c.layers.invariant.place); counted = omega (arith, all, left, c.layers.invariant.counted) }

pub overflow_add-result-2 : goal.overflow_add-result-2
overflow_add-result-2 c = omega (arith, place_of-le c.self.inside.own c.args.name.now, c.place_of.ensures, c.layers.invariant.counted, c.self.invariant.fits)
