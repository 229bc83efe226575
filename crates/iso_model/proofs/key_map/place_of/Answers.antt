use Rattle.std.proofs.Common.{rules, of_calls}
use Rattle.std.proofs.lemmas.Fn.{always_returns_same}
use Rattle.std.specs.Cmp.Lexicographic.{slice_cmp}
use Rattle.std.specs.Ordering.{nat_cmp}
use Rattle.iso_model.proofs.KeyMapLemmas.{place}
use Rattle.iso_model.proofs.key_map.place_of.Goals as goal

pub returns : goal.returns
returns g c =
    let found = c.binary_search_by.ensures.position (λ e. slice_cmp nat_cmp e.0 c.args.key.now) (always_returns_same _ _ _ (λ a r f k. search (rules, of_calls))) in
    place c.args.entries.now c.args.key.now c.binary_search_by.result c.requires c.binary_search_by.ensures.bound found
