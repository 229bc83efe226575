-- A name stands for what is at the place where it stands first, and is assigned there.
use Rattle.std.proofs.Common.{◌≡◌, ℕ, zero, suc, ◌≤◌, List, [], ◌∷◌, length, Option, Some, None, Ok, Err, Bool, true, false, cond, bytes_eq, refl, sym, ap, ◌∙◌, subst, arith}
use Rattle.std.proofs.lemmas.Slice.Eq.{bytes_eq-Decides}
use Rattle.std.specs.List.{slice_get}
use Rattle.iso_model.specs.NamePlaces.{IsFirst}
use Rattle.iso_model.specs.Names.{bound, binding_of, rebound, revalued, is_frozen, assigned_to, assigned, place_of}
use Rattle.iso_model.specs.declared.data.Data.{Data}
use Rattle.iso_model.specs.declared.fault.Fault.TheVariants as F
use Rattle.iso_model.specs.declared.names.Binding.{Binding}

abbrev pub with_value : Binding → Data → Binding
with_value b v = bound b.sort b.name v

pub place_of-le : (bs : List Binding) (x : List ℕ) → place_of bs x ≤ length bs
place_of-le [] x = omega arith
place_of-le (b ∷ bs) x = elim (bytes_eq x b.name) as (λ t. cond t 0 (suc (place_of bs x)) ≤ suc (length bs)) [ true ↦ omega arith | false ↦ let h = place_of-le bs x in omega arith ]

-- what stands at the place of a name is what it stands for
pub slice_get-place : (bs : List Binding) (x : List ℕ) → slice_get bs (place_of bs x) ≡ binding_of bs x
slice_get-place [] x = refl
slice_get-place (b ∷ bs) x = elim (bytes_eq x b.name) as (λ t. slice_get (b ∷ bs) (cond t 0 (suc (place_of bs x))) ≡ cond t (Some b) (binding_of bs x)) [ true ↦ refl | false ↦ slice_get-place bs x ]

rebound-place : (bs : List Binding) (x : List ℕ) (v : Data) → rebound bs x v ≡ revalued bs (place_of bs x) v
rebound-place [] x v = refl
rebound-place (b ∷ bs) x v =
    elim (bytes_eq x b.name) as (λ t. cond t (bound b.sort b.name v ∷ bs) (b ∷ rebound bs x v) ≡ revalued (b ∷ bs) (cond t 0 (suc (place_of bs x))) v) [
      | true ↦ refl
      | false ↦ ap (λ (cs : List Binding). b ∷ cs) (rebound-place bs x v)
    ]

-- an unknown name
pub assigned-none : (bs : List Binding) (x : List ℕ) (v : Data) → None ≡ slice_get bs (place_of bs x) → assigned bs x v ≡ Err (F.UnknownName x)
assigned-none bs x v e = ap (λ (o : Option Binding). assigned_to o bs x v) (sym (e ∙ slice_get-place bs x))

-- a name that stands there, frozen or not
pub assigned-frozen : (bs : List Binding) (x : List ℕ) (v : Data) (b : Binding) → Some b ≡ slice_get bs (place_of bs x) → is_frozen b.sort ≡ true → assigned bs x v ≡ Err (F.Frozen x)
assigned-frozen bs x v b e frozen = ap (λ (o : Option Binding). assigned_to o bs x v) (sym (e ∙ slice_get-place bs x)) ∙ ap (λ (t : Bool). cond t (Err (F.Frozen x)) (Ok (rebound bs x v))) frozen

pub assigned-set : (bs : List Binding) (x : List ℕ) (v : Data) (b : Binding) → Some b ≡ slice_get bs (place_of bs x) → is_frozen b.sort ≡ false → assigned bs x v ≡ Ok (revalued bs (place_of bs x) v)
assigned-set bs x v b e free =
    ap (λ (o : Option Binding). assigned_to o bs x v) (sym (e ∙ slice_get-place bs x))
    ∙ ap (λ (t : Bool). cond t (Err (F.Frozen x)) (Ok (rebound bs x v))) free
    ∙ ap Ok (rebound-place bs x v)

-- what stands at the place of a name has that name
found-named : (bs : List Binding) (x : List ℕ) (b : Binding) → slice_get bs (place_of bs x) ≡ Some b → x ≡ b.name
found-named [] x b e = absurd cc
found-named (c ∷ bs) x b e =
    elim (bytes_eq x c.name) as (λ t. bytes_eq x c.name ≡ t → slice_get (c ∷ bs) (cond t 0 (suc (place_of bs x))) ≡ Some b → x ≡ b.name) [
      | true ↦ λ h k. let same : c ≡ b = cc in (bytes_eq-Decides x c.name).0 h ∙ ap (λ (d : Binding). d.name) same
      | false ↦ λ h k. found-named bs x b k
    ] refl e

-- a name that was found stands there first, and so does the first of all
pub is_first-found : (bs : List Binding) (x : List ℕ) → IsFirst bs (place_of bs x)
is_first-found bs x b e = ap (place_of bs) (sym (found-named bs x b e))

pub is_first-zero : (bs : List Binding) → IsFirst bs 0
is_first-zero [] b e = absurd cc
is_first-zero (c ∷ bs) b e =
    let same : b ≡ c = cc in
    ap (λ t. cond t 0 (suc (place_of bs b.name))) ((bytes_eq-Decides b.name c.name).1 (ap (λ (d : Binding). d.name) same))

-- another value leaves the places
place_of-revalued : (bs : List Binding) (i : ℕ) (v : Data) (x : List ℕ) → place_of (revalued bs i v) x ≡ place_of bs x
place_of-revalued [] i v x = refl
place_of-revalued (b ∷ bs) zero v x = refl
place_of-revalued (b ∷ bs) (suc i) v x = ap (λ n. cond (bytes_eq x b.name) 0 (suc n)) (place_of-revalued bs i v x)

pub is_first-revalued : (bs : List Binding) (x : List ℕ) (v : Data) (i : ℕ) → i ≡ place_of bs x → IsFirst (revalued bs i v) i
is_first-revalued bs x v i e = subst (IsFirst (revalued bs i v)) (place_of-revalued bs i v x ∙ sym e) (is_first-found (revalued bs i v) x)
