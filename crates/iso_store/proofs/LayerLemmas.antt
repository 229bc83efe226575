-- What layers have of a value, and how a place that is put changes it.
use Rattle.std.proofs.Common.{OnOk, Result, Ok, Err, ◌≡◌, ◌<◌, ◌+◌, ℕ, suc, List, [], ◌∷◌, ◌++◌, length, map, take, drop, drop-cons, slice_index_or, slice_set, Option, Some, None, Bool, true, false, cond, unwrap_or, bytes_eq, refl, sym, ap, ap₂, ◌∙◌, add-one, arith}
use Rattle.std.proofs.lemmas.List.{map-append, take_more}
use Rattle.std.proofs.lemmas.Cmp.{nat_list_cmp_total}
use Rattle.std.proofs.lemmas.Map.Text.{is_eq-slice_cmp}
use Rattle.std.specs.Arc.{arc_value, arc_with_value}
use Rattle.std.specs.FinMap.{empty, get, get-empty, get-insert, insert}
use Rattle.std.specs.Cmp.Lexicographic.{slice_cmp}
use Rattle.std.specs.Option.{option_or}
use Rattle.std.specs.Ordering.{nat_cmp}
use Rattle.std.specs.declared.alloc.Global.{Global}
use Rattle.std.specs.declared.sync.Arc.{Arc}
use Rattle.iso_model.specs.Properties.{Map}
use Rattle.iso_model.specs.Resources.{changed}
use Rattle.iso_model.specs.declared.resource.Change.{Change}
use Rattle.iso_model.specs.declared.resource.Resource.{Resource}
use Rattle.iso_model.specs.declared.resource.Resource.TheVariants.{Props}
use Rattle.iso_model.specs.declared.resource.Change.TheVariants.{SetProp, ClearProp}
use Rattle.iso_model.proofs.NameMapLemmas as name_maps
use Rattle.iso_store.proofs.PlaceLemmas.{same, get-given, get-overlaid, first_of_two}
use Rattle.iso_store.specs.Layers.{over, place_in, properties_over}
use Rattle.iso_store.specs.Places.{Places, given}

-- places that are shared, as they are kept
abbrev pub Shared : Type 0
Shared = List (Arc Places Global)

or-cond : (b : Bool) (x : Option (List ℕ)) (o r : Option (Option (List ℕ))) → option_or (cond b (Some x) o) r ≡ cond b (Some x) (option_or o r)
or-cond true x o r = refl
or-cond false x o r = refl

-- a place that is put into the newest layer
pub place-put : (p : Places) (ps : List Places) (k : List ℕ) (x : Option (List ℕ)) (q : List ℕ) → place_in (insert p k x ∷ ps) q ≡ cond (bytes_eq q k) (Some x) (place_in (p ∷ ps) q)
place-put p ps k x q =
    ap (λ (o : Option (Option (List ℕ))). option_or o (place_in ps q)) (get-insert nat_list_cmp_total p k x q ∙ ap (λ (b : Bool). cond b (Some x) (get p q)) (is_eq-slice_cmp q k))
    ∙ or-cond (bytes_eq q k) x (get p q) (place_in ps q)

-- a new layer with one place
pub place-new : (ps : List Places) (k : List ℕ) (x : Option (List ℕ)) (q : List ℕ) → place_in (insert empty k x ∷ ps) q ≡ cond (bytes_eq q k) (Some x) (place_in ps q)
place-new ps k x q = place-put empty ps k x q ∙ ap (λ (o : Option (Option (List ℕ))). cond (bytes_eq q k) (Some x) (option_or o (place_in ps q))) (get-empty (slice_cmp nat_cmp) q)

-- the newest of these layers, with a place put into it
pub place-first : (xs : Shared) (n : Arc Places Global) (v : Places) (k : List ℕ) (x : Option (List ℕ)) (q : List ℕ) → 0 < length xs → n ≡ slice_index_or xs 0 n
    → v ≡ insert (arc_value n) k x → place_in (map arc_value (slice_set xs 0 (arc_with_value n v))) q ≡ cond (bytes_eq q k) (Some x) (place_in (map arc_value xs) q)
place-first [] n v k x q there is put = absurd (omega (arith, there))
place-first (y ∷ ys) n v k x q there is put =
    ap (λ (p : Places). place_in (p ∷ map arc_value ys) q) put
    ∙ place-put (arc_value n) (map arc_value ys) k x q
    ∙ ap (λ (m : Arc Places Global). cond (bytes_eq q k) (Some x) (place_in (map arc_value (m ∷ ys)) q)) is

-- the newest of these layers, put where it stands
pub set-same : (xs : Shared) (n : Arc Places Global) → n ≡ slice_index_or xs 0 n → slice_set xs 0 n ≡ xs
set-same [] n is = refl
set-same (y ∷ ys) n is = ap (λ (m : Arc Places Global). m ∷ ys) is

-- the layers from one on
pub layers-next : (xs : Shared) (i : ℕ) (n : Arc Places Global) → i < length xs → n ≡ slice_index_or xs i n → map arc_value (drop i xs) ≡ arc_value n ∷ map arc_value (drop (i + 1) xs)
layers-next xs i n h e = rw add-one (ap (map arc_value) (drop-cons xs i n h ∙ ap (λ (d : Arc Places Global). d ∷ drop (suc i) xs) (sym e)))

-- a layer more is shared
pub layers-more : (xs ys : Shared) (i : ℕ) (n m : Arc Places Global) → i < length xs → n ≡ slice_index_or xs i n
    → arc_value m ≡ arc_value n → map arc_value ys ≡ map arc_value (take i xs) → map arc_value (ys ++ m ∷ []) ≡ map arc_value (take (i + 1) xs)
layers-more xs ys i n m h e same known =
    map-append arc_value ys (m ∷ [])
    ∙ ap₂ (λ (front back : List Places). front ++ back) known (ap (λ (p : Places). p ∷ []) same)
    ∙ sym (map-append arc_value (take i xs) (n ∷ []))
    ∙ ap (map arc_value) (ap (λ (d : Arc Places Global). take i xs ++ d ∷ []) e ∙ sym (take_more xs i n h))

or-unwrap : (o r : Option (Option (List ℕ))) (d : Option (List ℕ)) → unwrap_or o (unwrap_or r d) ≡ unwrap_or (option_or o r) d
or-unwrap None r d = refl
or-unwrap (Some x) r d = refl

-- a property has what is in its place, and else what it started with
pub get-properties_over : (ps : List Places) (m : Map) (q : List ℕ) → get (properties_over ps m) q ≡ unwrap_or (place_in ps q) (get m q)
get-properties_over [] m q = refl
get-properties_over (p ∷ ps) m q =
    get-overlaid (properties_over ps m) p q
    ∙ ap (λ (o : Option (List ℕ)). unwrap_or (get p q) o) (get-properties_over ps m q)
    ∙ or-unwrap (get p q) (place_in ps q) (get m q)

-- properties with a place more
pub properties-put : (ps ns : List Places) (m : Map) (k : List ℕ) (x : Option (List ℕ))
    → ((q : List ℕ) → place_in ns q ≡ cond (bytes_eq q k) (Some x) (place_in ps q)) → properties_over ns m ≡ given (properties_over ps m) k x
properties-put ps ns m k x put = name_maps.same _ _ (λ q.
    get-properties_over ns m q
    ∙ ap (λ (o : Option (Option (List ℕ))). unwrap_or o (get m q)) (put q ∙ ap (λ (b : Bool). cond b (Some x) (place_in ps q)) (sym (is_eq-slice_cmp q k)))
    ∙ sym (first_of_two (same q k) x (place_in ps q) (get m q))
    ∙ ap (λ (o : Option (List ℕ)). cond (same q k) x o) (sym (get-properties_over ps m q))
    ∙ sym (get-given (properties_over ps m) k x q))

-- a property that is set, and one that is cleared
pub over-set : (ns ps : List Places) (r : Resource) (m : Map) (change : Change) (k t : List ℕ) → r ≡ Props m → change ≡ SetProp k t
    → ((q : List ℕ) → place_in ns q ≡ cond (bytes_eq q k) (Some (Some t)) (place_in ps q)) → over ns r ≡ changed change (over ps r)
over-set ns ps r m change k t is what put = ap (over ns) is ∙ ap Props (properties-put ps ns m k (Some t) put) ∙ sym (ap₂ (λ (c : Change) (s : Resource). changed c (over ps s)) what is)

pub over-clear : (ns ps : List Places) (r : Resource) (m : Map) (change : Change) (k : List ℕ) → r ≡ Props m → change ≡ ClearProp k
    → ((q : List ℕ) → place_in ns q ≡ cond (bytes_eq q k) (Some None) (place_in ps q)) → over ns r ≡ changed change (over ps r)
over-clear ns ps r m change k is what put = ap (over ns) is ∙ ap Props (properties-put ps ns m k None put) ∙ sym (ap₂ (λ (c : Change) (s : Resource). changed c (over ps s)) what is)

-- what follows where a call is well
pub still_ok : {T E : Type 0} {A B : Type 0} (r : Result T E) → (A → B) → OnOk r A → OnOk r B
still_ok (Ok x) f a = f a
still_ok (Err e) f a = tt
