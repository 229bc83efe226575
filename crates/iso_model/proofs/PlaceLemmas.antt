-- A map that tells where names stand goes on doing so as names are added, dropped and assigned.
use Rattle.std.proofs.Common.{◌≡◌, Box, Global, ℕ, zero, suc, ◌+◌, ◌<◌, ◌≤◌, List, [], ◌∷◌, ◌++◌, take, length, slice_index_or, slice_set, Option, Some, None, Bool, true, false, cond, bytes_eq, string_bytes, refl, sym, ap, ◌∙◌, arith, inl, inr, ◌⊎◌}
use Rattle.std.proofs.lemmas.Bool.{cases_Bool}
use Rattle.std.proofs.lemmas.List.{length-append, length-set}
use Rattle.std.proofs.lemmas.Map.Text.{btree_map_updates_text}
use Rattle.std.proofs.lemmas.Slice.Eq.{bytes_eq-Decides}
use Rattle.std.specs.BTreeMap.{UpdatesBy, get_by_text}
use Rattle.std.specs.Box.{box_value}
use Rattle.std.specs.Cmp.Lexicographic.{slice_cmp}
use Rattle.std.specs.Ordering.{nat_cmp}
use Rattle.std.specs.String.{string_cmp}
use Rattle.iso_model.specs.NamePlaces.{Places, Tells, TellsWhereMade}
use Rattle.iso_model.specs.Names.{place_of}
use Rattle.iso_model.specs.declared.data.Data.{Data}
use Rattle.iso_model.specs.declared.names.Binding.{Binding}
use Rattle.iso_model.proofs.NameLemmas.{place_of-le, with_value}

-- 0 at the name of a binding, and 1 at any other
abbrev beyond : Bool → ℕ
beyond t = cond t 0 1

split : (m n : ℕ) → m ≤ n → (m < n) ⊎ (m ≡ n)
split zero zero h = inr refl
split zero (suc n) h = inl (omega arith)
split (suc m) zero h = absurd (omega arith)
split (suc m) (suc n) h = elim (split m n (omega arith)) [ inl l ↦ inl (omega (arith, l)) | inr e ↦ inr (ap suc e) ]

-- a name stands at its place, and not before it
place_of-is : (bs : List Binding) (x : List ℕ) (d : Binding) → place_of bs x < length bs → bytes_eq x (slice_index_or bs (place_of bs x) d).name ≡ true
place_of-is [] x d h = absurd (omega arith)
place_of-is (b ∷ bs) x d h =
    elim (bytes_eq x b.name) as (λ t. bytes_eq x b.name ≡ t → cond t 0 (suc (place_of bs x)) < suc (length bs) → bytes_eq x (slice_index_or (b ∷ bs) (cond t 0 (suc (place_of bs x))) d).name ≡ true) [
      | true ↦ λ e k. e
      | false ↦ λ e k. place_of-is bs x d (omega arith)
    ] refl h

place_of-first : (bs : List Binding) (x : List ℕ) (i : ℕ) (d : Binding) → i < length bs → bytes_eq x (slice_index_or bs i d).name ≡ true → place_of bs x ≤ i
place_of-first [] x i d h e = absurd (omega arith)
place_of-first (b ∷ bs) x zero d h e = rw e (omega arith)
place_of-first (b ∷ bs) x (suc i) d h e =
    let rest = place_of-first bs x i d (omega arith) e in
    elim (bytes_eq x b.name) as (λ t. cond t 0 (suc (place_of bs x)) ≤ suc i) [ true ↦ omega arith | false ↦ omega (arith, rest) ]

place_of-take : (n : ℕ) (bs : List Binding) (x : List ℕ) → place_of (take n bs) x < length (take n bs) → (place_of bs x ≡ place_of (take n bs) x) × (place_of bs x < length bs)
place_of-take zero bs x h = absurd (omega arith)
place_of-take (suc n) [] x h = absurd (omega arith)
place_of-take (suc n) (b ∷ bs) x h =
    elim (bytes_eq x b.name) as (λ t. cond t 0 (suc (place_of (take n bs) x)) < suc (length (take n bs)) → (cond t 0 (suc (place_of bs x)) ≡ cond t 0 (suc (place_of (take n bs) x)))
    × (cond t 0 (suc (place_of bs x)) < suc (length bs))) [
      | true ↦ λ k. (refl, omega arith)
      | false ↦ λ k. let (same, within) = place_of-take n bs x (omega arith) in (ap suc same, omega (arith, within))
    ] h

place_of-append : (bs cs : List Binding) (x : List ℕ) → place_of bs x < length bs → place_of (bs ++ cs) x ≡ place_of bs x
place_of-append [] cs x h = absurd (omega arith)
place_of-append (b ∷ bs) cs x h =
    elim (bytes_eq x b.name) as (λ t. cond t 0 (suc (place_of bs x)) < suc (length bs) → cond t 0 (suc (place_of (bs ++ cs) x)) ≡ cond t 0 (suc (place_of bs x))) [
      | true ↦ λ k. refl
      | false ↦ λ k. ap suc (place_of-append bs cs x (omega arith))
    ] h

place_of-last : (bs : List Binding) (b : Binding) (x : List ℕ) → place_of bs x ≡ length bs → place_of (bs ++ b ∷ []) x ≡ length bs + beyond (bytes_eq x b.name)
place_of-last [] b x h = elim (bytes_eq x b.name) as (λ t. cond t 0 1 ≡ 0 + beyond t) [ true ↦ refl | false ↦ refl ]
place_of-last (c ∷ bs) b x h =
    elim (bytes_eq x c.name) as (λ t. cond t 0 (suc (place_of bs x)) ≡ suc (length bs) → cond t 0 (suc (place_of (bs ++ b ∷ []) x)) ≡ suc (length bs) + beyond (bytes_eq x b.name)) [
      | true ↦ λ k. absurd (omega arith)
      | false ↦ λ k. let rest = place_of-last bs b x (omega arith) in omega (arith, rest)
    ] h

place_of-set : (bs : List Binding) (i : ℕ) (c : Binding) (v : Data) (x : List ℕ) → i < length bs → c ≡ slice_index_or bs i c → place_of (slice_set bs i (with_value c v)) x ≡ place_of bs x
place_of-set [] i c v x h e = refl
place_of-set (b ∷ bs) zero c v x h e = ap (λ (d : Binding). cond (bytes_eq x d.name) 0 (suc (place_of bs x))) e
place_of-set (b ∷ bs) (suc i) c v x h e = ap (λ n. cond (bytes_eq x b.name) 0 (suc n)) (place_of-set bs i c v x (omega arith) e)

-- what the map answers, once it is looked whether the name stands there
pub place-absent : (m : Places) (bs : List Binding) (x : List ℕ) → Tells m bs → get_by_text m x ≡ None → length bs ≡ place_of bs x
place-absent m bs x tells absent =
    elim (split (place_of bs x) (length bs) (place_of-le bs x)) [
      | inl within ↦ let there : None ≡ Some (place_of bs x) = sym absent ∙ tells x within in absurd cc
      | inr all ↦ sym all
    ]

pub place-found : (m : Places) (bs : List Binding) (x : List ℕ) (i : ℕ) (d : Binding) → Tells m bs
    → get_by_text m x ≡ Some i → i < length bs → bytes_eq x (slice_index_or bs i d).name ≡ true → i ≡ place_of bs x
place-found m bs x i d tells found within here =
    let there : Some i ≡ Some (place_of bs x) = sym found ∙ tells x (let first = place_of-first bs x i d within here in omega (arith, first, within)) in
    cc

pub place-dropped : (m : Places) (bs : List Binding) (x : List ℕ) (i : ℕ) → Tells m bs → get_by_text m x ≡ Some i → length bs ≤ i → length bs ≡ place_of bs x
place-dropped m bs x i tells found past =
    elim (split (place_of bs x) (length bs) (place_of-le bs x)) [
      | inl within ↦
          let there : Some i ≡ Some (place_of bs x) = sym found ∙ tells x within in
          let same : i ≡ place_of bs x = cc in
          absurd (omega (arith, same, past, within))
      | inr all ↦ sym all
    ]

pub place-other : (m : Places) (bs : List Binding) (x : List ℕ) (i : ℕ) (d : Binding) → Tells m bs
    → get_by_text m x ≡ Some i → bytes_eq x (slice_index_or bs i d).name ≡ false → length bs ≡ place_of bs x
place-other m bs x i d tells found other =
    elim (split (place_of bs x) (length bs) (place_of-le bs x)) [
      | inl within ↦
          let there : Some i ≡ Some (place_of bs x) = sym found ∙ tells x within in
          let same : i ≡ place_of bs x = cc in
          let here : bytes_eq x (slice_index_or bs i d).name ≡ true = ap (λ j. bytes_eq x (slice_index_or bs j d).name) same ∙ place_of-is bs x d within in
          absurd cc
      | inr all ↦ sym all
    ]

-- fewer names
pub tells-take : (m : Places) (bs : List Binding) (n : ℕ) → Tells m bs → Tells m (take n bs)
tells-take m bs n tells x within = let (same, inside) = place_of-take n bs x within in tells x inside ∙ ap Some same

-- one with another value
pub tells-set : (m : Places) (bs : List Binding) (i : ℕ) (c : Binding) (v : Data) → i < length bs → c ≡ slice_index_or bs i c → Tells m bs → Tells m (slice_set bs i (with_value c v))
tells-set m bs i c v h e tells x within =
    let same = place_of-set bs i c v x h e in
    let all = length-set bs i (with_value c v) in
    tells x (omega (arith, same, all, within)) ∙ ap Some (sym same)

-- one name more, which stands among them already
pub tells-known : (m : Places) (bs : List Binding) (b : Binding) (x : List ℕ) → place_of bs x < length bs → b.name ≡ x → Tells m bs → Tells m (bs ++ b ∷ [])
tells-known m bs b x known e tells y within =
    elim (split (place_of bs y) (length bs) (place_of-le bs y)) [
      | inl inside ↦ tells y inside ∙ ap Some (sym (place_of-append bs (b ∷ []) y inside))
      | inr none ↦
          let last = place_of-last bs b y none in
          let all = length-append bs (b ∷ []) in
          elim (cases_Bool (bytes_eq y b.name)) [
            | inl same ↦
                let is : y ≡ x = (bytes_eq-Decides y b.name).0 same ∙ e in
                let at : place_of bs y ≡ place_of bs x = ap (place_of bs) is in
                absurd (omega (arith, at, known, none))
            | inr other ↦
                let one : beyond (bytes_eq y b.name) ≡ 1 = ap beyond other in
                absurd (omega (arith, last, one, all, within))
          ]
    ]

-- one name more, whose place was put into the map
module _ (m n : Places) (bs : List Binding) (x : List ℕ) (new : place_of bs x ≡ length bs) (updates : UpdatesBy string_cmp (λ k. slice_cmp nat_cmp x (string_bytes k)) m n (Some (length bs)))
    (tells : Tells m bs) where
  stays : (y : List ℕ) → place_of bs y < length bs → get_by_text n y ≡ Some (place_of bs y)
  stays y within =
      let now = btree_map_updates_text x m n (Some (length bs)) updates y in
      elim (cases_Bool (bytes_eq x y)) [
        | inl same ↦
            let at : place_of bs x ≡ place_of bs y = ap (place_of bs) ((bytes_eq-Decides x y).0 same) in
            absurd (omega (arith, at, new, within))
        | inr other ↦ now ∙ ap (λ t. cond t (Some (length bs)) (get_by_text m y)) other ∙ tells y within
      ]

  pub tells-put : Tells n bs
  tells-put = stays

  pub tells-added : (b : Binding) → b.name ≡ x → Tells n (bs ++ b ∷ [])
  tells-added b e y within =
      elim (split (place_of bs y) (length bs) (place_of-le bs y)) [
        | inl inside ↦ stays y inside ∙ ap Some (sym (place_of-append bs (b ∷ []) y inside))
        | inr none ↦
            let last = place_of-last bs b y none in
            let all = length-append bs (b ∷ []) in
            elim (cases_Bool (bytes_eq y b.name)) [
              | inl same ↦
                  let is : x ≡ y = sym e ∙ sym ((bytes_eq-Decides y b.name).0 same) in
                  let zero_ : beyond (bytes_eq y b.name) ≡ 0 = ap beyond same in
                  let there : length bs ≡ place_of (bs ++ b ∷ []) y = omega (arith, last, zero_) in
                  btree_map_updates_text x m n (Some (length bs)) updates y
                  ∙ ap (λ t. cond t (Some (length bs)) (get_by_text m y)) ((bytes_eq-Decides x y).1 is)
                  ∙ ap Some there
              | inr other ↦
                  let one : beyond (bytes_eq y b.name) ≡ 1 = ap beyond other in
                  absurd (omega (arith, last, one, all, within))
            ]
      ]

-- the same, if there is a map
pub made-take : (o : Option (Box Places Global)) (bs : List Binding) (n : ℕ) → TellsWhereMade o bs → TellsWhereMade o (take n bs)
made-take None bs n tells = tt
made-take (Some m) bs n tells = tells-take (box_value m) bs n tells

pub made-set : (o : Option (Box Places Global)) (bs : List Binding) (i : ℕ) (c : Binding) (v : Data) → i < length bs
    → c ≡ slice_index_or bs i c → TellsWhereMade o bs → TellsWhereMade o (slice_set bs i (with_value c v))
made-set None bs i c v h e tells = tt
made-set (Some m) bs i c v h e tells = tells-set (box_value m) bs i c v h e tells
