use Rattle.std.proofs.Common.{◌≡◌, ◌<◌, length, string_bytes, sym, ap, ◌∙◌, arith}
use Rattle.iso_model.specs.Names.{place_of}
use Rattle.iso_model.proofs.NameLemmas.{place_of-le}
use Rattle.iso_model.proofs.PlaceLemmas.{tells-known, tells-put, tells-added}
use Rattle.iso_model.proofs.name_list.add_place.Goals as goal

pub returns-in_ok-insert-clause-same : goal.returns-in_ok-insert-clause-same
returns-in_ok-insert-clause-same c = λ tells.
    let bs = c.args.bindings.now in
    let x = string_bytes c.in_ok-from_str.field-0 in
    let new : place_of bs x ≡ length bs = ap (place_of bs) c.in_ok-from_str.ensures.ok ∙ sym (c.place_in.ensures tells) ∙ c.if-place_in-bindings.true in
    tells-put c.args.places.now c.insert.new.self bs x new c.in_ok-insert.ensures.updates tells

pub returns-in_ok-insert-clause-added : goal.returns-in_ok-insert-clause-added
returns-in_ok-insert-clause-added c = λ b e tells.
    let bs = c.args.bindings.now in
    let x = string_bytes c.in_ok-from_str.field-0 in
    let new : place_of bs x ≡ length bs = ap (place_of bs) c.in_ok-from_str.ensures.ok ∙ sym (c.place_in.ensures tells) ∙ c.if-place_in-bindings.true in
    tells-added c.args.places.now c.insert.new.self bs x new c.in_ok-insert.ensures.updates tells b (e ∙ sym c.in_ok-from_str.ensures.ok)

pub returns-else-place_in-bindings-clause-added : goal.returns-else-place_in-bindings-clause-added
returns-else-place_in-bindings-clause-added c = λ b e tells.
    let bs = c.args.bindings.now in
    let x = c.args.name.now in
    let known : place_of bs x < length bs = let at = c.place_in.ensures tells in omega (arith, at, place_of-le bs x, c.if-place_in-bindings.false) in
    tells-known c.args.places.now bs b x known e tells
