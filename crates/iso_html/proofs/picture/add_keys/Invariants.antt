use Rattle.std.proofs.Common.{◌≡◌, ◌++◌, map}
use Rattle.iso_html.specs.Pictures.{keys_below}
use Rattle.iso_html.proofs.picture.add_keys.Given as goal

abbrev pub invariant-keys : goal.invariant-keys
invariant-keys l = l.shapes.items ≡ l.fn.shapes.items ++ keys_below (map (λ v. v.items) l.takers) l.usages l.pixels l.span l.key
