-- Names that were given other values since they were shared stand where they stood.
use Rattle.std.proofs.Common.{◌≡◌, ℕ, zero, suc, ◌+◌, ◌<◌, ◌≤◌, List, [], ◌∷◌, take, length, slice_index_or, slice_set, Option, Some, None, true, false, cond, bytes_eq, refl, sym, ap, ap₂, ◌∙◌, inl, inr, ◌⊎◌, arith}
use Rattle.std.proofs.lemmas.List.{length-take-le, take-take, take_all}
use Rattle.std.proofs.lemmas.Option.{slice_get_past}
use Rattle.std.specs.BTreeMap.{BTreeMap, Updates, is_at}
use Rattle.std.specs.Cmp.{nat_cmp_is}
use Rattle.std.specs.List.{slice_get}
use Rattle.std.specs.Map.{lookup}
use Rattle.std.specs.Option.{option_map}
use Rattle.std.specs.Ordering.{is_eq, nat_cmp}
use Rattle.std.specs.declared.cmp.Ordering.TheVariants.{Less, Greater}
use Rattle.iso_model.specs.NameLayers.{given_at, given_from, with_given}
use Rattle.iso_model.specs.Names.{bound, place_of, revalued}
use Rattle.iso_model.specs.declared.data.Data.{Data}
use Rattle.iso_model.specs.declared.names.Binding.{Binding}
use Rattle.iso_model.proofs.NameLemmas.{with_value}

abbrev Given : Type 0
Given = ℕ → Option Data

name-with_given : (o : Option Data) (b : Binding) → (with_given o b).name ≡ b.name
name-with_given None b = refl
name-with_given (Some d) b = refl

bound-with_given : (o : Option Data) (b : Binding) (d : Data) → bound b.sort b.name d ≡ bound (with_given o b).sort (with_given o b).name d
bound-with_given None b d = refl
bound-with_given (Some e) b d = refl

pub length-given_from : (f : Given) (i : ℕ) (bs : List Binding) → length (given_from f i bs) ≡ length bs
length-given_from f i [] = refl
length-given_from f i (b ∷ bs) = ap suc (length-given_from f (suc i) bs)

pub place_of-given_from : (f : Given) (i : ℕ) (bs : List Binding) (x : List ℕ) → place_of (given_from f i bs) x ≡ place_of bs x
place_of-given_from f i [] x = refl
place_of-given_from f i (b ∷ bs) x = ap₂ (λ (n : List ℕ) (k : ℕ). cond (bytes_eq x n) 0 (suc k)) (name-with_given (f i) b) (place_of-given_from f (suc i) bs x)

-- the first so many names
pub place_of-within : (n : ℕ) (bs : List Binding) (x : List ℕ) → place_of bs x < n → place_of (take n bs) x ≡ place_of bs x
place_of-within zero bs x h = absurd (omega arith)
place_of-within (suc n) [] x h = refl
place_of-within (suc n) (b ∷ bs) x h =
    elim (bytes_eq x b.name) as (λ t. cond t 0 (suc (place_of bs x)) < suc n → cond t 0 (suc (place_of (take n bs) x)) ≡ cond t 0 (suc (place_of bs x))) [
      | true ↦ λ k. refl
      | false ↦ λ k. ap suc (place_of-within n bs x (omega arith))
    ] h

pub place_of-cut : (n : ℕ) (bs : List Binding) (x : List ℕ) → n ≤ place_of bs x → place_of (take n bs) x ≡ n
place_of-cut zero bs x h = refl
place_of-cut (suc n) [] x h = absurd (omega arith)
place_of-cut (suc n) (b ∷ bs) x h =
    elim (bytes_eq x b.name) as (λ t. suc n ≤ cond t 0 (suc (place_of bs x)) → cond t 0 (suc (place_of (take n bs) x)) ≡ suc n) [
      | true ↦ λ k. absurd (omega arith)
      | false ↦ λ k. ap suc (place_of-cut n bs x (omega arith))
    ] h

slice_get-take : (n : ℕ) (bs : List Binding) (j : ℕ) → j < n → slice_get (take n bs) j ≡ slice_get bs j
slice_get-take zero bs j h = absurd (omega arith)
slice_get-take (suc n) [] j h = refl
slice_get-take (suc n) (b ∷ bs) zero h = refl
slice_get-take (suc n) (b ∷ bs) (suc j) h = slice_get-take n bs j (omega arith)

slice_get-given : (f : Given) (i : ℕ) (bs : List Binding) (j k : ℕ) → k ≡ i + j → slice_get (given_from f i bs) j ≡ option_map (with_given (f k)) (slice_get bs j)
slice_get-given f i [] j k e = refl
slice_get-given f i (b ∷ bs) zero k e = let same : i ≡ k = omega arith in ap (λ (n : ℕ). Some (with_given (f n) b)) same
slice_get-given f i (b ∷ bs) (suc j) k e = slice_get-given f (suc i) bs j k (omega arith)

-- the name at a place, with the value that it was given
pub slice_get-layer : (f : Given) (n : ℕ) (bs : List Binding) (j : ℕ) → j < n → slice_get (given_from f 0 (take n bs)) j ≡ option_map (with_given (f j)) (slice_get bs j)
slice_get-layer f n bs j h = slice_get-given f 0 (take n bs) j j (omega arith) ∙ ap (option_map (with_given (f j))) (slice_get-take n bs j h)

pub given_from-none : (f : Given) (i : ℕ) (bs : List Binding) → ((q : ℕ) → f q ≡ None) → given_from f i bs ≡ bs
given_from-none f i [] none = refl
given_from-none f i (b ∷ bs) none = ap₂ (λ (o : Option Data) (cs : List Binding). with_given o b ∷ cs) (none i) (given_from-none f (suc i) bs none)

pub given_from-take : (f : Given) (i n : ℕ) (bs : List Binding) → given_from f i (take n bs) ≡ take n (given_from f i bs)
given_from-take f i zero bs = refl
given_from-take f i (suc n) [] = refl
given_from-take f i (suc n) (b ∷ bs) = ap (λ (cs : List Binding). with_given (f i) b ∷ cs) (given_from-take f (suc i) n bs)

given_from-same : (f g : Given) (i : ℕ) (bs : List Binding) → ((q : ℕ) → i ≤ q → g q ≡ f q) → given_from g i bs ≡ given_from f i bs
given_from-same f g i [] same = refl
given_from-same f g i (b ∷ bs) same = ap₂ (λ (o : Option Data) (cs : List Binding). with_given o b ∷ cs) (same i (omega arith)) (given_from-same f g (suc i) bs (λ q h. same q (omega arith)))

-- one more value given
pub given_from-set : (f g : Given) (i : ℕ) (bs : List Binding) (j k : ℕ) (d : Data) → k ≡ i + j
    → g k ≡ Some d → ((q : ℕ) → (q ≡ k → ⊥) → g q ≡ f q) → given_from g i bs ≡ revalued (given_from f i bs) j d
given_from-set f g i [] j k d e here there = refl
given_from-set f g i (b ∷ bs) zero k d e here there =
    let same : i ≡ k = omega arith in
    ap₂ (λ (c : Binding) (cs : List Binding). c ∷ cs)
    (ap (λ (o : Option Data). with_given o b) (ap g same ∙ here) ∙ bound-with_given (f i) b d)
    (given_from-same f g (suc i) bs (λ q h. there q (λ is. absurd (omega arith))))
given_from-set f g i (b ∷ bs) (suc j) k d e here there =
    ap₂ (λ (o : Option Data) (cs : List Binding). with_given o b ∷ cs) (there i (λ is. absurd (omega arith)))
    (given_from-set f g (suc i) bs j k d (omega arith) here there)

-- another value for the name at a place of a list
pub revalued-set : (bs : List Binding) (i : ℕ) (c : Binding) (d : Data) → i < length bs → c ≡ slice_index_or bs i c → slice_set bs i (with_value c d) ≡ revalued bs i d
revalued-set [] i c d h e = refl
revalued-set (b ∷ bs) zero c d h e = ap (λ (x : Binding). with_value x d ∷ bs) e
revalued-set (b ∷ bs) (suc i) c d h e = ap (λ (cs : List Binding). b ∷ cs) (revalued-set bs i c d (omega arith) e)

pub revalued-past : (bs : List Binding) (i : ℕ) (d : Data) → length bs ≤ i → revalued bs i d ≡ bs
revalued-past [] i d h = refl
revalued-past (b ∷ bs) zero d h = absurd (omega arith)
revalued-past (b ∷ bs) (suc i) d h = ap (λ (cs : List Binding). b ∷ cs) (revalued-past bs i d (omega arith))

pub length-revalued : (bs : List Binding) (i : ℕ) (d : Data) → length (revalued bs i d) ≡ length bs
length-revalued [] i d = refl
length-revalued (b ∷ bs) zero d = refl
length-revalued (b ∷ bs) (suc i) d = ap suc (length-revalued bs i d)

-- what a layer has of the names that it shares
pub length-layer : (f : Given) (n : ℕ) (bs : List Binding) → n ≤ length bs → n ≡ length (given_from f 0 (take n bs))
length-layer f n bs h = sym (length-given_from f 0 (take n bs) ∙ length-take-le n bs h)

pub place-in-layer : (f : Given) (n : ℕ) (bs : List Binding) (x : List ℕ) → place_of bs x < n → place_of bs x ≡ place_of (given_from f 0 (take n bs)) x
place-in-layer f n bs x h = sym (place_of-given_from f 0 (take n bs) x ∙ place_of-within n bs x h)

pub place-past-layer : (f : Given) (n : ℕ) (bs : List Binding) (x : List ℕ) → n ≤ place_of bs x → n ≡ place_of (given_from f 0 (take n bs)) x
place-past-layer f n bs x h = sym (place_of-given_from f 0 (take n bs) x ∙ place_of-cut n bs x h)

pub take-layer-within : (f : Given) (m n : ℕ) (bs : List Binding) → m ≤ n → given_from f 0 (take m bs) ≡ take m (given_from f 0 (take n bs))
take-layer-within f m n bs h = ap (given_from f 0) (sym (take-take m n bs h)) ∙ given_from-take f 0 m (take n bs)

pub take-layer-past : (f : Given) (m n : ℕ) (bs : List Binding) → n ≤ m → n ≤ length bs → given_from f 0 (take n bs) ≡ take m (given_from f 0 (take n bs))
take-layer-past f m n bs h within = let count = length-layer f n bs within in sym (take_all m (given_from f 0 (take n bs)) (omega (arith, count, h)))

pub get-past-layer : (f : Given) (n : ℕ) (bs : List Binding) (j : ℕ) → n ≤ j → n ≤ length bs → None ≡ slice_get (given_from f 0 (take n bs)) j
get-past-layer f n bs j h within = let count = length-layer f n bs within in sym (slice_get_past (given_from f 0 (take n bs)) j (omega (arith, count, h)))

pub get-none-in-layer : (f : Given) (n : ℕ) (bs : List Binding) (j : ℕ) → j < n → None ≡ slice_get bs j → None ≡ slice_get (given_from f 0 (take n bs)) j
get-none-in-layer f n bs j h e = sym (slice_get-layer f n bs j h ∙ ap (option_map (with_given (f j))) (sym e))

pub get-kept-in-layer : (f : Given) (n : ℕ) (bs : List Binding) (j : ℕ) (b : Binding) → j < n → f j ≡ None → Some b ≡ slice_get bs j → Some b ≡ slice_get (given_from f 0 (take n bs)) j
get-kept-in-layer f n bs j b h none e = sym (slice_get-layer f n bs j h ∙ ap₂ (λ (o : Option Data) (p : Option Binding). option_map (with_given o) p) none (sym e))

pub get-given-in-layer : (f : Given) (n : ℕ) (bs : List Binding) (j : ℕ) (b : Binding) (d : Data) → j < n
    → f j ≡ Some d → Some b ≡ slice_get bs j → Some (with_value b d) ≡ slice_get (given_from f 0 (take n bs)) j
get-given-in-layer f n bs j b d h some e = sym (slice_get-layer f n bs j h ∙ ap₂ (λ (o : Option Data) (p : Option Binding). option_map (with_given o) p) some (sym e))

apart : (k q : ℕ) → (q ≡ k → ⊥) → (k < q) ⊎ (q < k)
apart zero zero ne = absurd (ne refl)
apart zero (suc q) ne = inl (omega arith)
apart (suc k) zero ne = inr (omega arith)
apart (suc k) (suc q) ne = elim (apart k q (λ e. ne (ap suc e))) [ inl h ↦ inl (omega (arith, h)) | inr h ↦ inr (omega (arith, h)) ]

not-at : (k q : ℕ) → (q ≡ k → ⊥) → is_eq (nat_cmp k q) ≡ false
not-at k q ne = elim (apart k q ne) [ inl h ↦ sym (ap is_eq (nat_cmp_is k q Less h)) | inr h ↦ sym (ap is_eq (nat_cmp_is k q Greater h)) ]

-- a value given to the name at a place of a layer
pub set-in-layer : (m g : BTreeMap ℕ Data) (n : ℕ) (bs : List Binding) (j : ℕ) (d : Data) → Updates nat_cmp m g j (Some d)
    → given_from (given_at g) 0 (take n bs) ≡ revalued (given_from (given_at m) 0 (take n bs)) j d
set-in-layer m g n bs j d updates = given_from-set (given_at m) (given_at g) 0 (take n bs) j j d (omega arith) updates.1 (λ q ne. updates.2 q (not-at j q ne))

pub set-past-layer : (f : Given) (n : ℕ) (bs : List Binding) (j : ℕ) (d : Data) → n ≤ j → n ≤ length bs → given_from f 0 (take n bs) ≡ revalued (given_from f 0 (take n bs)) j d
set-past-layer f n bs j d h within = let count = length-layer f n bs within in sym (revalued-past (given_from f 0 (take n bs)) j d (omega (arith, count, h)))

-- all names as they are, before any is given a value
pub new-layer : (m : BTreeMap ℕ Data) (n : ℕ) (bs : List Binding) → m.entries ≡ [] → n ≡ length bs → given_from (given_at m) 0 (take n bs) ≡ bs
new-layer m n bs empty all =
    given_from-none (given_at m) 0 (take n bs) (λ q. ap (lookup (is_at (nat_cmp q))) empty)
    ∙ take_all n bs (omega (arith, all))
