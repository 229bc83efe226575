use Rattle.std.proofs.Common.{List, ℕ, ◌++◌, map, sym, ap, ap₂, ◌∙◌, add-one}
use Rattle.iso_html.proofs.ListLemmas.{appended}
use Rattle.iso_html.specs.Pictures.{key_shapes, keys_below}
use Rattle.iso_html.specs.declared.shape.Mark.{Mark}
use Rattle.iso_html.specs.declared.usage.Usage.{Usage}
use Rattle.iso_html.proofs.picture.add_keys.Goals as goal

pub keys-preserved : goal.keys-preserved
keys-preserved c =
    let takers = map (λ v. v.items) c.args.takers.now in
    let start = c.args.shapes.now.items in
    let below = keys_below takers c.args.usages.now c.args.pixels c.args.span in
    let row = key_shapes c.args.pixels c.args.span c.keys.key in
    let next = appended start (below c.keys.key) (row c.usage_at-usage.result c.list_at.result.now) c.keys.shapes.items c.add_key.new.shapes.items c.in_ok-add_key.ensures c.keys.invariant in
    next
    ∙ ap₂ (λ (u : Usage) (ms : List Mark). start ++ (below c.keys.key ++ row u ms)) c.usage_at-usage.ensures c.list_at.ensures
    ∙ ap (λ (n : ℕ). start ++ below n) (sym (add-one c.keys.key))
