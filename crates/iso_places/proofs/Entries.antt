-- A table of sites by paths.
use Rattle.std.proofs.Common.{◌≡◌, ℕ, suc, ◌+◌, ◌<◌, List, [], ◌∷◌, ◌++◌, take, drop, length, map, get_or, min, cond, Bool, Option, Some, sym, ap, ap₂, ◌∙◌, arith}
use Rattle.std.proofs.Math.ListN.{drop_of_length-le}
use Rattle.std.proofs.Math.Seq.{drop-cons}
use Rattle.std.proofs.lemmas.Bool.Decides.{same_from_decides}
use Rattle.std.proofs.lemmas.List.{get_or_default, map-append, take_more}
use Rattle.std.proofs.lemmas.Map.Text.{btree_map_updates_str}
use Rattle.std.proofs.lemmas.Slice.Eq.{bytes_eq-Decides}
use Rattle.std.proofs.lemmas.Slice.Zip.{get_or-zip, length-zip}
use Rattle.std.specs.BTreeMap.{BTreeMap, IsEmpty, UpdatesBy, is_at}
use Rattle.std.specs.Borrow.{Bor}
use Rattle.std.specs.Cmp.Lexicographic.{slice_cmp}
use Rattle.std.specs.List.{zip}
use Rattle.std.specs.Map.{lookup}
use Rattle.std.specs.Ordering.{nat_cmp}
use Rattle.std.specs.Str.{bytes_eq}
use Rattle.iso_places.specs.Located.{FindsBy}
use Rattle.iso_places.specs.declared.site.Site.{Site}

bytes_eq-turned : (a b : List ℕ) → bytes_eq a b ≡ bytes_eq b a
bytes_eq-turned a b = same_from_decides (bytes_eq a b) (bytes_eq b a) (bytes_eq-Decides a b) (λ e. sym ((bytes_eq-Decides b a).0 e), λ e. (bytes_eq-Decides b a).1 (sym e))

module _ (paths : List (List ℕ)) (sites : List Site) where
  -- past the last entry there is none
  pub table-none : (table : BTreeMap (Bor (List ℕ)) Site) (count : ℕ) → IsEmpty table → count ≡ min (length paths) (length sites) → FindsBy table (drop count (zip paths sites))
  table-none table count empty is path =
      ap (lookup (is_at (λ (key : Bor (List ℕ)). slice_cmp nat_cmp path key.now))) empty
      ∙ sym (ap (lookup (bytes_eq path)) (drop_of_length-le (zip paths sites) (omega (arith, length-zip paths sites))))

  -- an entry before the others is found first
  pub table-more : (table new : BTreeMap (Bor (List ℕ)) Site) (j : ℕ) (key e : List ℕ) (site d : Site) → j < length paths → j < length sites → key ≡ get_or paths j e → site ≡ get_or sites j d
      → UpdatesBy (λ x y. slice_cmp nat_cmp x.now y.now) (λ k. slice_cmp nat_cmp key k.now) table new (Some site) → FindsBy table (drop (suc j) (zip paths sites))
      → FindsBy new (drop j (zip paths sites))
  table-more table new j key e site d h k own its updates finds path =
      let long : j < length (zip paths sites) = omega (arith, length-zip paths sites) in
      let its_site : get_or sites j site ≡ site = get_or_default sites j site d k ∙ sym its in
      let its_key : get_or paths j key ≡ key = get_or_default paths j key e h ∙ sym own in
      let first : get_or (zip paths sites) j (key, site) ≡ (key, site) = get_or-zip paths sites j (key, site) h k ∙ ap₂ (λ (a : List ℕ) (b : Site). (a, b)) its_key its_site in
      let whole : drop j (zip paths sites) ≡ (key, site) ∷ drop (suc j) (zip paths sites) =
      drop-cons (zip paths sites) j (key, site) long ∙ ap (λ (e : List ℕ × Site). e ∷ drop (suc j) (zip paths sites)) first in
      btree_map_updates_str key table new (Some site) updates path
      ∙ ap₂ (λ (b : Bool) (o : Option Site). cond b (Some site) o) (bytes_eq-turned key path) (finds path)
      ∙ sym (ap (lookup (bytes_eq path)) whole)

-- a site more is that of a path more
pub found-more : (f : List ℕ → Option Site) (sites : List Site) (site : Site) (paths : List (List ℕ)) (i : ℕ) (path : List ℕ) → i < length paths → path ≡ get_or paths i path → Some site ≡ f path
    → map Some sites ≡ map f (take i paths) → map Some (sites ++ site ∷ []) ≡ map f (take (i + 1) paths)
found-more f sites site paths i path h own is before =
    map-append Some sites (site ∷ []) ∙ ap₂ (λ (os : List (Option Site)) (o : Option Site). os ++ o ∷ []) before (is ∙ ap f own)
    ∙ sym (ap (map f) (take_more paths i path h) ∙ map-append f (take i paths) (get_or paths i path ∷ []))
