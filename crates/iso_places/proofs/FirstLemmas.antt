-- What is found by a path.
use Rattle.std.proofs.Common.{◌≡◌, ℕ, zero, suc, ◌+◌, ◌-◌, ◌<◌, List, [], ◌∷◌, length, get_or, Bool, true, false, cond, Some, None, refl, sym, ap, ◌∙◌, arith}
use Rattle.std.proofs.lemmas.List.FromFn.{get_or-map-range_with_len, length-map-range_with_len}
use Rattle.std.proofs.lemmas.List.{length-map}
use Rattle.std.proofs.lemmas.Option.{slice_get-get_or}
use Rattle.std.proofs.lemmas.Slice.Eq.{bytes_eq-Decides}
use Rattle.std.proofs.lemmas.Slice.Zip.{get_or-zip, length-zip}
use Rattle.std.specs.List.{zip}
use Rattle.std.specs.Map.{lookup}
use Rattle.std.specs.Str.{bytes_eq}
use Rattle.iso_places.specs.Located.{HasStranger, site_by_path}
use Rattle.iso_places.specs.Sites.{site_at}
use Rattle.iso_places.specs.declared.site.Site.{Site}
use Rattle.iso_plan.proofs.NumberLemmas.{those-are}
use Rattle.iso_plan.proofs.SelectionLemmas.{kept-closed, text-there}
use Rattle.iso_plan.specs.Paths.{IsTree, row_at}
use Rattle.iso_plan.specs.PathTexts.{path_text}
use Rattle.iso_plan.specs.KeptNodes.{is_kept_by, node_paths, number_among, renumbered, those_below, those_of}
use Rattle.iso_plan.specs.Tree.{Row}

some_site : (sites : List Site) (m : ℕ) → m < length sites → Site
some_site [] m h = absurd (omega arith)
some_site (s ∷ ss) m h = s

unlike : (a b : List ℕ) → (a ≡ b → ⊥) → bytes_eq b a ≡ false
unlike a b apart = elim (bytes_eq b a) as (λ (t : Bool). bytes_eq b a ≡ t → t ≡ false) [ true ↦ λ e. absurd (apart (sym ((bytes_eq-Decides b a).0 e))) | false ↦ λ e. refl ] refl

module _ (test : List ℕ → Bool) where
  -- the first entry that passes is found
  first_at : (es : List (List ℕ × Site)) (i : ℕ) (d : List ℕ × Site) → i < length es → test (get_or es i d).0 ≡ true
      → ((k : ℕ) → k < i → test (get_or es k d).0 ≡ false) → lookup test es ≡ Some (get_or es i d).1
  first_at [] i d h passes others = absurd (omega arith)
  first_at (e ∷ es) zero d h passes others = ap (λ (t : Bool). cond t (Some e.1) (lookup test es)) passes
  first_at (e ∷ es) (suc i) d h passes others =
      ap (λ (t : Bool). cond t (Some e.1) (lookup test es)) (others 0 (omega arith)) ∙ first_at es i d (omega arith) passes (λ k less. others (suc k) (omega arith))

  -- an entry that passes isn't missed
  some_by : (b : Bool) (e : List ℕ × Site) (es : List (List ℕ × Site)) → test e.0 ≡ b → cond (test e.0) (Some e.1) (lookup test es) ≡ None → (b ≡ false) × (lookup test es ≡ None)
  some_by true e es is h = let found = sym (ap (λ (t : Bool). cond t (Some e.1) (lookup test es)) is) ∙ h in absurd (cc)
  some_by false e es is h = (refl, sym (ap (λ (t : Bool). cond t (Some e.1) (lookup test es)) is) ∙ h)

  not_missed : (es : List (List ℕ × Site)) (i : ℕ) (d : List ℕ × Site) → i < length es → test (get_or es i d).0 ≡ true → lookup test es ≡ None → ⊥
  not_missed [] i d h passes none = absurd (omega arith)
  not_missed (e ∷ es) zero d h passes none = let other = (some_by (test e.0) e es refl none).0 in absurd (cc)
  not_missed (e ∷ es) (suc i) d h passes none = not_missed es i d (omega arith) passes (some_by (test e.0) e es refl none).1

module _ (nodes : List Row) (sites : List Site) (each : length nodes ≡ length sites + 1) where
  entry_at : (m : ℕ) (d : List ℕ × Site) → suc m < length nodes → get_or (zip (node_paths nodes) sites) m d ≡ (path_text nodes (suc m), get_or sites m d.1)
  entry_at m d h =
      let count = length-map-range_with_len (path_text nodes) 1 (length nodes - 1) in
      get_or-zip (node_paths nodes) sites m d (omega arith) (omega arith)
      ∙ ap (λ (p : List ℕ). (p, get_or sites m d.1)) (get_or-map-range_with_len (path_text nodes) 1 (length nodes - 1) m (suc m) d.0 (omega arith) (omega arith))

  long : (m : ℕ) → suc m < length nodes → m < length (zip (node_paths nodes) sites)
  long m h =
      let count = length-map-range_with_len (path_text nodes) 1 (length nodes - 1) in
      omega (arith, length-zip (node_paths nodes) sites)

  itself : (m : ℕ) (d : List ℕ × Site) → suc m < length nodes → bytes_eq (path_text nodes (suc m)) (get_or (zip (node_paths nodes) sites) m d).0 ≡ true
  itself m d h = (bytes_eq-Decides (path_text nodes (suc m)) (get_or (zip (node_paths nodes) sites) m d).0).1 (sym (ap (λ (e : List ℕ × Site). e.0) (entry_at m d h)))

  pub own_at : (n : ℕ) → 0 < n → n < length nodes → ((m : ℕ) → 0 < m → m < n → path_text nodes m ≡ path_text nodes n → ⊥) → site_by_path nodes sites (path_text nodes n) ≡ site_at sites n
  own_at zero pos h apart = absurd (omega arith)
  own_at (suc m) pos h apart =
      let within : m < length sites = omega arith in
      let d : List ℕ × Site = ([], some_site sites m within) in
      first_at (bytes_eq (path_text nodes (suc m))) (zip (node_paths nodes) sites) m d (long m h) (itself m d h)
      (λ k less.
      ap (bytes_eq (path_text nodes (suc m))) (ap (λ (e : List ℕ × Site). e.0) (entry_at k d (omega arith)))
      ∙ unlike (path_text nodes (suc k)) (path_text nodes (suc m)) (apart (suc k) (omega arith) (omega arith)))
      ∙ ap (λ (e : List ℕ × Site). Some e.1) (entry_at m d h) ∙ sym (slice_get-get_or sites m d.1 within)

  -- no node's path is unknown
  pub known : (n : ℕ) → 0 < n → n < length nodes → site_by_path nodes sites (path_text nodes n) ≡ None → ⊥
  known zero pos h none = absurd (omega arith)
  known (suc m) pos h none =
      let within : m < length sites = omega arith in
      let d : List ℕ × Site = ([], some_site sites m within) in
      not_missed (bytes_eq (path_text nodes (suc m))) (zip (node_paths nodes) sites) m d (long m h) (itself m d h) none

  pub all-known : HasStranger nodes sites nodes → ⊥
  all-known s = known s.node s.above s.within s.unknown

  module _ (t : IsTree nodes) (paths : List (List ℕ)) where
    abbrev passes : ℕ → Bool
    passes = is_kept_by nodes paths

    positive : (m n : ℕ) → number_among passes m ≡ n → 0 < n → 0 < m
    positive zero n is pos = absurd (omega arith)
    positive (suc m) n is pos = omega arith

    pub kept-known : HasStranger nodes sites (those_of passes nodes) → ⊥
    kept-known s =
        let left = those_of passes nodes in
        let count = length-map (those_below passes (length nodes)) (λ n. renumbered passes (row_at nodes n)) in
        let inside = s.within in
        let a = those-are passes (length nodes) s.node 0 (omega arith) in
        let m = get_or (those_below passes (length nodes)) s.node 0 in
        let same : path_text left s.node ≡ path_text nodes m =
        ap (path_text left) (sym a.number) ∙ text-there nodes t passes (kept-closed nodes t paths) m a.within a.passed in
        known m (positive m s.node a.number s.above) a.within (ap (site_by_path nodes sites) (sym same) ∙ s.unknown)
