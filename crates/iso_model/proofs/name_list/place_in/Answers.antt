use Rattle.std.proofs.Common.{◌≤◌, length, bytes_eq, sym, ap, ◌∙◌, arith}
use Rattle.iso_model.proofs.PlaceLemmas.{place-absent, place-found, place-dropped, place-other}
use Rattle.iso_model.proofs.name_list.place_in.Goals as goal
use Rattle.iso_model.proofs.name_list.place_in.Goals.{else-place-bindings-via-then-place-bindings+else-eq, else-place-bindings-via-else-place-bindings}

pub returns-in_default : goal.returns-in_default
returns-in_default c = λ tells. place-absent c.args.places.now c.args.bindings.now c.args.name.now tells (sym c.in_default.ensures.value)

pub returns-then-eq : goal.returns-then-eq
returns-then-eq c = λ tells.
    let x = c.args.name.now in
    let b = c.index-bindings-place.result in
    let here = ap (bytes_eq x) (sym c.as_str.ensures) ∙ sym c.if-eq.ensures in
    place-found c.args.places.now c.args.bindings.now x c.in-Some.place.now b tells (sym c.in-Some.ensures.value) c.if-place-bindings.true here

pub returns : goal.returns
returns c = λ tells.
    let x = c.args.name.now in
    let found = sym c.in-Some.ensures.value in
    elim c.else-place-bindings.branch [
      | else-place-bindings-via-then-place-bindings+else-eq w ↦
          let b = w.index-bindings-place.result in
          let other = ap (bytes_eq x) (sym w.as_str.ensures) ∙ sym w.eq.ensures ∙ w.if-eq.false in
          place-other c.args.places.now c.args.bindings.now x c.in-Some.place.now b tells found other
      | else-place-bindings-via-else-place-bindings w ↦
          let past : length c.args.bindings.now ≤ c.in-Some.place.now = omega (arith, w.if-place-bindings.false) in
          place-dropped c.args.places.now c.args.bindings.now x c.in-Some.place.now tells found past
    ]
