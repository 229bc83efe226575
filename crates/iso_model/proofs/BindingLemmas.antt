-- What stands in layers of names stands after the layers before it.
use Rattle.std.proofs.Common.{◌≡◌, ℕ, zero, suc, ◌+◌, ◌<◌, ◌≤◌, ◌-◌, List, [], ◌∷◌, ◌++◌, take, drop, length, slice_index_or, slice_set, Option, Some, None, Result, Ok, Err, OnOk, OnErr, true, false, cond, bytes_eq, Bor, refl, sym, ap, ◌∙◌, arith, append_assoc, append-nil, length-append, add-one}
use Rattle.std.proofs.lemmas.Option.{slice_get-get_or, slice_get_past}
use Rattle.std.specs.List.{slice_get, HoldsAt}
use Rattle.std.specs.Option.{option_copied, unwrap_or, MatchOption}
use Rattle.std.proofs.lemmas.Grind.{flat_map-append}
use Rattle.std.proofs.lemmas.List.{length-take-le, take-append-drop, take_all, take_at, drop_at}
use Rattle.iso_model.specs.NameLayers.{in_layers}
use Rattle.iso_model.specs.Names.{place_of, revalued}
use Rattle.iso_model.specs.declared.data.Data.{Data}
use Rattle.iso_model.specs.declared.names.Binding.{Binding}
use Rattle.iso_model.proofs.GivenLemmas.{length-revalued}

abbrev pub Bindings : Type 0
Bindings = List Binding

abbrev pub Layers : Type 0
Layers = List (List Binding)

get-front : (xs ys : Bindings) (j : ℕ) → j < length xs → slice_get (xs ++ ys) j ≡ slice_get xs j
get-front [] ys j h = absurd (omega arith)
get-front (x ∷ xs) ys zero h = refl
get-front (x ∷ xs) ys (suc j) h = get-front xs ys j (omega arith)

pub get-behind : (xs ys : Bindings) (n m : ℕ) → n ≡ length xs + m → slice_get (xs ++ ys) n ≡ slice_get ys m
get-behind [] ys n m e = let same : n ≡ m = omega arith in ap (slice_get ys) same
get-behind (x ∷ xs) ys zero m e = absurd (omega arith)
get-behind (x ∷ xs) ys (suc n) m e = get-behind xs ys n m (omega arith)

revalued-front : (xs ys : Bindings) (j : ℕ) (d : Data) → j < length xs → revalued (xs ++ ys) j d ≡ revalued xs j d ++ ys
revalued-front [] ys j d h = absurd (omega arith)
revalued-front (x ∷ xs) ys zero d h = refl
revalued-front (x ∷ xs) ys (suc j) d h = ap (λ (bs : Bindings). x ∷ bs) (revalued-front xs ys j d (omega arith))

pub revalued-behind : (xs ys : Bindings) (n m : ℕ) (d : Data) → n ≡ length xs + m → revalued (xs ++ ys) n d ≡ xs ++ revalued ys m d
revalued-behind [] ys n m d e = let same : n ≡ m = omega arith in ap (λ k. revalued ys k d) same
revalued-behind (x ∷ xs) ys zero m d e = absurd (omega arith)
revalued-behind (x ∷ xs) ys (suc n) m d e = ap (λ (bs : Bindings). x ∷ bs) (revalued-behind xs ys n m d (omega arith))

take-front : (xs ys : Bindings) (j : ℕ) → j ≤ length xs → take j (xs ++ ys) ≡ take j xs
take-front xs ys zero h = refl
take-front [] ys (suc j) h = absurd (omega arith)
take-front (x ∷ xs) ys (suc j) h = ap (λ (bs : Bindings). x ∷ bs) (take-front xs ys j (omega arith))

pub take-behind : (xs ys : Bindings) (n m : ℕ) → n ≡ length xs + m → take n (xs ++ ys) ≡ xs ++ take m ys
take-behind [] ys n m e = let same : n ≡ m = omega arith in ap (λ k. take k ys) same
take-behind (x ∷ xs) ys zero m e = absurd (omega arith)
take-behind (x ∷ xs) ys (suc n) m e = ap (λ (bs : Bindings). x ∷ bs) (take-behind xs ys n m (omega arith))

drop-behind : (xs ys : Bindings) (n m : ℕ) → n ≡ length xs + m → drop n (xs ++ ys) ≡ drop m ys
drop-behind [] ys n m e = let same : n ≡ m = omega arith in ap (λ k. drop k ys) same
drop-behind (x ∷ xs) ys zero m e = absurd (omega arith)
drop-behind (x ∷ xs) ys (suc n) m e = drop-behind xs ys n m (omega arith)

place_of-front : (xs ys : Bindings) (x : List ℕ) → place_of xs x < length xs → place_of (xs ++ ys) x ≡ place_of xs x
place_of-front [] ys x h = absurd (omega arith)
place_of-front (b ∷ bs) ys x h =
    elim (bytes_eq x b.name) as (λ t. cond t 0 (suc (place_of bs x)) < suc (length bs) → cond t 0 (suc (place_of (bs ++ ys) x)) ≡ cond t 0 (suc (place_of bs x))) [
      | true ↦ λ k. refl
      | false ↦ λ k. ap suc (place_of-front bs ys x (omega arith))
    ] h

place_of-behind : (xs ys : Bindings) (x : List ℕ) → length xs ≤ place_of xs x → place_of (xs ++ ys) x ≡ length xs + place_of ys x
place_of-behind [] ys x h = omega arith
place_of-behind (b ∷ bs) ys x h =
    elim (bytes_eq x b.name) as (λ t. suc (length bs) ≤ cond t 0 (suc (place_of bs x)) → cond t 0 (suc (place_of (bs ++ ys) x)) ≡ suc (length bs) + place_of ys x) [
      | true ↦ λ k. absurd (omega arith)
      | false ↦ λ k. let rest = place_of-behind bs ys x (omega arith) in omega (arith, rest)
    ] h

-- the layers from one on begin with its names
pub drop-layer : (ls : Layers) (i : ℕ) (l : Bindings) → slice_get ls i ≡ Some l → in_layers (drop i ls) ≡ l ++ in_layers (drop (suc i) ls)
drop-layer [] i l e = absurd (cc)
drop-layer (k ∷ ls) zero l e = let same : k ≡ l = cc in ap (λ (bs : Bindings). bs ++ in_layers ls) same
drop-layer (k ∷ ls) (suc i) l e = drop-layer ls i l e

pub split-layers : (ls : Layers) (i : ℕ) → in_layers ls ≡ in_layers (take i ls) ++ in_layers (drop i ls)
split-layers ls i = ap in_layers (sym (take-append-drop i ls)) ∙ flat_map-append (λ (bs : Bindings). bs) (take i ls) (drop i ls)

-- the names before a layer, those of the layer, and those behind it
parts : (ls : Layers) (own : Bindings) (i : ℕ) (l : Bindings) → slice_get ls i ≡ Some l → in_layers ls ++ own ≡ in_layers (take i ls) ++ (l ++ (in_layers (drop (suc i) ls) ++ own))
parts ls own i l e =
    ap (λ (bs : Bindings). bs ++ own) (split-layers ls i ∙ ap (λ (bs : Bindings). in_layers (take i ls) ++ bs) (drop-layer ls i l e))
    ∙ append_assoc (in_layers (take i ls)) (l ++ in_layers (drop (suc i) ls)) own
    ∙ ap (λ (bs : Bindings). in_layers (take i ls) ++ bs) (append_assoc l (in_layers (drop (suc i) ls)) own)

-- a place in a layer, and one past all layers
pub get-in_layer : (ls : Layers) (own : Bindings) (n i j : ℕ) (l : Bindings) → slice_get ls i ≡ Some l
    → j < length l → length (in_layers (take i ls)) + j ≡ n → slice_get (in_layers ls ++ own) n ≡ slice_get l j
get-in_layer ls own n i j l e h at =
    ap (λ (bs : Bindings). slice_get bs n) (parts ls own i l e)
    ∙ get-behind (in_layers (take i ls)) (l ++ (in_layers (drop (suc i) ls) ++ own)) n j (sym at)
    ∙ get-front l (in_layers (drop (suc i) ls) ++ own) j h

pub get-in-own : (ls : Layers) (own : Bindings) (n i j : ℕ) → length ls ≤ i → length (in_layers (take i ls)) + j ≡ n → slice_get (in_layers ls ++ own) n ≡ slice_get own j
get-in-own ls own n i j past at =
    let all : length (in_layers (take i ls)) ≡ length (in_layers ls) = ap (λ (ks : Layers). length (in_layers ks)) (take_all i ls past) in
    get-behind (in_layers ls) own n j (omega (arith, all, at))

-- another value for a name in a layer
set-layer : (ls : Layers) (i : ℕ) (l k : Bindings) → slice_get ls i ≡ Some l → in_layers (slice_set ls i k) ≡ in_layers (take i ls) ++ (k ++ in_layers (drop (suc i) ls))
set-layer [] i l k e = absurd (cc)
set-layer (m ∷ ls) zero l k e = refl
set-layer (m ∷ ls) (suc i) l k e = ap (λ (bs : Bindings). m ++ bs) (set-layer ls i l k e) ∙ sym (append_assoc m (in_layers (take i ls)) (k ++ in_layers (drop (suc i) ls)))

pub length-set-layer : (ls : Layers) (i : ℕ) (l k : Bindings) → slice_get ls i ≡ Some l → length k ≡ length l → length (in_layers (slice_set ls i k)) ≡ length (in_layers ls)
length-set-layer [] i l k e same = refl
length-set-layer (m ∷ ls) zero l k e same =
    let is : length m ≡ length l = ap (λ (o : Option Bindings). length (unwrap_or o [])) e in
    omega (arith, length-append k (in_layers ls), length-append m (in_layers ls), is, same)
length-set-layer (m ∷ ls) (suc i) l k e same =
    omega (arith, length-append m (in_layers (slice_set ls i k)), length-append m (in_layers ls), length-set-layer ls i l k e same)

pub revalued-in-layer : (ls : Layers) (own : Bindings) (n i j : ℕ) (l : Bindings) (d : Data) → slice_get ls i ≡ Some l → j < length l → length (in_layers (take i ls)) + j ≡ n
    → in_layers (slice_set ls i (revalued l j d)) ++ own ≡ revalued (in_layers ls ++ own) n d
revalued-in-layer ls own n i j l d e h at =
    let front = in_layers (take i ls) in
    let behind = in_layers (drop (suc i) ls) in
    ap (λ (bs : Bindings). bs ++ own) (set-layer ls i l (revalued l j d) e)
    ∙ append_assoc front (revalued l j d ++ behind) own
    ∙ ap (λ (bs : Bindings). front ++ bs) (append_assoc (revalued l j d) behind own ∙ sym (revalued-front l (behind ++ own) j d h))
    ∙ sym (ap (λ (bs : Bindings). revalued bs n d) (parts ls own i l e) ∙ revalued-behind front (l ++ (behind ++ own)) n j d (sym at))

pub revalued-in-own : (ls : Layers) (own : Bindings) (n i j : ℕ) (d : Data) → length ls ≤ i
    → length (in_layers (take i ls)) + j ≡ n → in_layers ls ++ revalued own j d ≡ revalued (in_layers ls ++ own) n d
revalued-in-own ls own n i j d past at =
    let all : length (in_layers (take i ls)) ≡ length (in_layers ls) = ap (λ (ks : Layers). length (in_layers ks)) (take_all i ls past) in
    sym (revalued-behind (in_layers ls) own n j d (omega (arith, all, at)))

-- the first so many names
shortened : (ls : Layers) (i : ℕ) (l k : Bindings) → slice_get ls i ≡ Some l → in_layers (take (i + 1) (slice_set ls i k)) ≡ in_layers (take i ls) ++ k
shortened ls i l k e = rw add-one (first ls i l k e)
  where
    first : (ls : Layers) (i : ℕ) (l k : Bindings) → slice_get ls i ≡ Some l → in_layers (take (suc i) (slice_set ls i k)) ≡ in_layers (take i ls) ++ k
    first [] i l k e = absurd (cc)
    first (m ∷ ls) zero l k e = append-nil k
    first (m ∷ ls) (suc i) l k e = ap (λ (bs : Bindings). m ++ bs) (first ls i l k e) ∙ sym (append_assoc m (in_layers (take i ls)) k)

pub take-in-layer : (ls : Layers) (own : Bindings) (n i j : ℕ) (l : Bindings) → slice_get ls i ≡ Some l → j < length l → length (in_layers (take i ls)) + j ≡ n
    → in_layers (take (i + 1) (slice_set ls i (take j l))) ++ [] ≡ take n (in_layers ls ++ own)
take-in-layer ls own n i j l e h at =
    let front = in_layers (take i ls) in
    let behind = in_layers (drop (suc i) ls) ++ own in
    append-nil (in_layers (take (i + 1) (slice_set ls i (take j l)))) ∙ shortened ls i l (take j l) e
    ∙ sym (ap (take n) (parts ls own i l e) ∙ take-behind front (l ++ behind) n j (sym at) ∙ ap (λ (bs : Bindings). front ++ bs) (take-front l behind j (omega (arith, h))))

pub length-taken : (ls : Layers) (n i j : ℕ) (l : Bindings) → slice_get ls i ≡ Some l → j < length l
    → length (in_layers (take i ls)) + j ≡ n → n ≡ length (in_layers (take (i + 1) (slice_set ls i (take j l))))
length-taken ls n i j l e h at =
    let all = ap (λ (bs : Bindings). length bs) (shortened ls i l (take j l) e) in
    let one = length-take-le j l (omega (arith, h)) in
    omega (arith, all, one, length-append (in_layers (take i ls)) (take j l), at)

pub take-in-own : (ls : Layers) (own : Bindings) (outer n : ℕ) → outer ≡ length (in_layers ls) → outer ≤ n → in_layers ls ++ take (n - outer) own ≡ take n (in_layers ls ++ own)
take-in-own ls own outer n counted h = sym (take-behind (in_layers ls) own n (n - outer) (omega (arith, counted, h)))

-- the layers before a place, and those behind it
pub take-layers : (ls : Layers) (own : Bindings) (n i : ℕ) → length (in_layers (take i ls)) + 0 ≡ n → in_layers (take i ls) ++ [] ≡ take n (in_layers ls ++ own)
take-layers ls own n i at =
    append-nil (in_layers (take i ls))
    ∙ sym (ap (take n) (ap (λ (bs : Bindings). bs ++ own) (split-layers ls i) ∙ append_assoc (in_layers (take i ls)) (in_layers (drop i ls)) own)
    ∙ take_at (in_layers (take i ls)) (in_layers (drop i ls) ++ own) n (omega (arith, at)))

pub drop-layers : (ls : Layers) (own : Bindings) (n i : ℕ) → length (in_layers (take i ls)) + 0 ≡ n → in_layers (drop i ls) ++ own ≡ drop n (in_layers ls ++ own)
drop-layers ls own n i at =
    sym (ap (drop n) (ap (λ (bs : Bindings). bs ++ own) (split-layers ls i) ∙ append_assoc (in_layers (take i ls)) (in_layers (drop i ls)) own)
    ∙ drop_at (in_layers (take i ls)) (in_layers (drop i ls) ++ own) n (omega (arith, at)))

pub length-layers : (ls : Layers) (i : ℕ) → length (in_layers ls) ≡ length (in_layers (take i ls)) + length (in_layers (drop i ls))
length-layers ls i = ap (λ (bs : Bindings). length bs) (split-layers ls i) ∙ length-append (in_layers (take i ls)) (in_layers (drop i ls))

-- a name that stands in the first of the layers that are left, and one that does not
pub place-in-layer : (ls : Layers) (own : Bindings) (i : ℕ) (l : Bindings) (x : List ℕ) → slice_get ls i ≡ Some l → place_of l x < length l → place_of (in_layers (drop i ls) ++ own) x ≡ place_of l x
place-in-layer ls own i l x e h =
    ap (λ (bs : Bindings). place_of (bs ++ own) x) (drop-layer ls i l e) ∙ ap (λ (bs : Bindings). place_of bs x) (append_assoc l (in_layers (drop (suc i) ls)) own)
    ∙ place_of-front l (in_layers (drop (suc i) ls) ++ own) x h

pub place-past-layer : (ls : Layers) (own : Bindings) (i : ℕ) (l : Bindings) (x : List ℕ) → slice_get ls i ≡ Some l
    → length l ≤ place_of l x → place_of (in_layers (drop i ls) ++ own) x ≡ length l + place_of (in_layers (drop (i + 1) ls) ++ own) x
place-past-layer ls own i l x e h =
    rw add-one (
    ap (λ (bs : Bindings). place_of (bs ++ own) x) (drop-layer ls i l e) ∙ ap (λ (bs : Bindings). place_of bs x) (append_assoc l (in_layers (drop (suc i) ls)) own)
    ∙ place_of-behind l (in_layers (drop (suc i) ls) ++ own) x h)

pub length-layers-left : (ls : Layers) (i : ℕ) (l : Bindings) → slice_get ls i ≡ Some l → length (in_layers (drop i ls)) ≡ length l + length (in_layers (drop (i + 1) ls))
length-layers-left ls i l e = rw add-one (ap (λ (bs : Bindings). length bs) (drop-layer ls i l e) ∙ length-append l (in_layers (drop (suc i) ls)))

-- what `get` and an index give of the layers
pub get-is : (r : Option (Bor Bindings)) (ls : Layers) (i : ℕ) → MatchOption r (length ls ≤ i) (λ x. (i < length ls) × HoldsAt (λ y. x.now ≡ y) ls i) → option_copied r ≡ slice_get ls i
get-is None ls i past = sym (slice_get_past ls i past)
get-is (Some x) ls i (within, here) = ap Some (here x.now) ∙ sym (slice_get-get_or ls i x.now within)

pub index-is : (l : Bindings) (ls : Layers) (i : ℕ) → i < length ls → l ≡ slice_index_or ls i l → slice_get ls i ≡ Some l
index-is l ls i within here = slice_get-get_or ls i l within ∙ ap Some (sym here)

-- one name more
pub take-next : (bs : Bindings) (i : ℕ) (b : Binding) → slice_get bs i ≡ Some b → take (i + 1) bs ≡ take i bs ++ b ∷ []
take-next bs i b e = rw add-one (next bs i b e)
  where
    next : (bs : Bindings) (i : ℕ) (b : Binding) → slice_get bs i ≡ Some b → take (suc i) bs ≡ take i bs ++ b ∷ []
    next [] i b e = absurd (cc)
    next (c ∷ bs) zero b e = let same : c ≡ b = cc in ap (λ (x : Binding). x ∷ []) same
    next (c ∷ bs) (suc i) b e = ap (λ (xs : Bindings). c ∷ xs) (next bs i b e)

pub drop-next : (bs : Bindings) (i : ℕ) (b : Binding) → slice_get bs i ≡ Some b → drop i bs ≡ b ∷ drop (i + 1) bs
drop-next bs i b e = rw add-one (next bs i b e)
  where
    next : (bs : Bindings) (i : ℕ) (b : Binding) → slice_get bs i ≡ Some b → drop i bs ≡ b ∷ drop (suc i) bs
    next [] i b e = absurd (cc)
    next (c ∷ bs) zero b e = let same : c ≡ b = cc in ap (λ (x : Binding). x ∷ bs) same
    next (c ∷ bs) (suc i) b e = next bs i b e

-- a place among the layers' names is in one of them
pub layer-within : (ls : Layers) (n i j : ℕ) → length (in_layers (take i ls)) + j ≡ n → n < length (in_layers ls) → i < length ls
layer-within [] n i j at h = absurd (omega arith)
layer-within (l ∷ ls) n zero j at h = omega arith
layer-within (l ∷ ls) n (suc i) j at h =
    let front = length-append l (in_layers (take i ls)) in
    let whole = length-append l (in_layers ls) in
    let inner = layer-within ls (length (in_layers (take i ls)) + j) i j refl (omega (arith, front, whole, at, h)) in
    omega (arith, inner)

-- another value leaves the number of names
pub length-valued : {E : Type 0} (r : Result (Unit {0}) E) (k l : Bindings) (j : ℕ) (d : Data) → OnOk r (k ≡ revalued l j d) → OnErr r (k ≡ l) → length k ≡ length l
length-valued (Ok x) k l j d ok err = ap (λ (bs : Bindings). length bs) ok ∙ length-revalued l j d
length-valued (Err x) k l j d ok err = ap (λ (bs : Bindings). length bs) err
