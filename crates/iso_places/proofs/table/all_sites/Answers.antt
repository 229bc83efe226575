use Rattle.std.proofs.Common.{◌≡◌, ◌+◌, ◌++◌, ℕ, List, [], Vec, drop, get_or, map, ap, ap₂, sym, ◌∙◌, arith}
use Rattle.iso_places.proofs.SiteLemmas.{sites-more}
use Rattle.std.proofs.lemmas.List.{get_or-map, length-map}
use Rattle.std.specs.Global.{Global}
use Rattle.iso_places.specs.declared.site.Site.{Site}
use Rattle.iso_script.specs.declared.place.NodePlace.{NodePlace}
use Rattle.iso_places.specs.Sites.{places_in, site_in, sites_from}
use Rattle.iso_places.proofs.table.all_sites.Goals as goal

pub scripts-preserved : goal.scripts-preserved
scripts-preserved c =
    let lists = places_in c.args.places.now in
    let script = c.scripts.script in
    let own = c.index-places-script.result in
    let here : c.deref.result.now ≡ get_or lists script [] =
    c.deref.ensures.value ∙ ap (λ (v : Vec NodePlace Global). v.items) c.index-places-script.is
    ∙ sym (get_or-map (λ (v : Vec NodePlace Global). v.items) c.args.places.now script own [] (omega arith)) in
    ap (λ (sites : List Site). sites ++ sites_from (script + 1) (drop (script + 1) lists))
    (c.in_ok-add_sites.ensures ∙ ap₂ (λ (n : ℕ) (places : List NodePlace). c.scripts.sites.items ++ map (site_in n) places) c.in-Ok.ensures.1 here)
    ∙ sites-more c.scripts.sites.items lists script (omega (arith, length-map c.args.places.now (λ (v : Vec NodePlace Global). v.items))) ∙ c.scripts.invariant
