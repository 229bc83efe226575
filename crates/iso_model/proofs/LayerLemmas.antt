-- Keys that are declared in layers, the newest and innermost first.
use Rattle.std.proofs.Common.{inl, inr, ◌≡◌, ◌<◌, ◌+◌, ℕ, suc, List, [], ◌∷◌, ◌++◌, length, drop, drop-cons, take, slice_index_or, Option, Some, Bool, ◌==◌, arith, true, false, cond, bytes_eq, refl, sym, ap, ap₂, ◌∙◌, add-one, append_assoc}
use Rattle.std.proofs.lemmas.Bool.{cases_Bool}
use Rattle.std.proofs.lemmas.Grind.{common_steps, flat_map-append}
use Rattle.std.proofs.lemmas.List.{take_more}
use Rattle.std.proofs.lemmas.Slice.Eq.{bytes_eq-Decides}
use Rattle.std.specs.Arc.{arc_value}
use Rattle.std.specs.Option.{option_or}
use Rattle.std.specs.declared.alloc.Global.{Global}
use Rattle.std.specs.declared.sync.Arc.{Arc}
use Rattle.iso_model.specs.KeyMaps.{value_in}
use Rattle.iso_model.specs.Layers.{declared_in}
use Rattle.iso_model.specs.Rights.{access_in, declared_by, strongest}
use Rattle.iso_model.specs.declared.access.Access.{Access}
use Rattle.iso_model.specs.declared.heads.Mark.{Mark}
use Rattle.iso_model.specs.declared.rights.Layer.{Layer}

abbrev pub Entries : Type 0
Entries = List (List ℕ × Access)

-- what is declared in front counts, and else what is behind it
pub access-both : (es fs : Entries) (k : List ℕ) → access_in (es ++ fs) k ≡ option_or (access_in es k) (access_in fs k)
access-both [] fs k = refl
access-both (e ∷ es) fs k =
    elim (bytes_eq k e.0) as (λ t. cond t (Some e.1) (access_in (es ++ fs) k) ≡ option_or (cond t (Some e.1) (access_in es k)) (access_in fs k)) [
      | true ↦ refl
      | false ↦ access-both es fs k
    ]

-- where a key is declared for a mark, all keys have what the mark gives them besides
pub declared-next : (m : Mark) (es : Entries) (k : List ℕ) → strongest (Some m.access) (access_in es m.key) ≡ Some m.access
    → access_in ((m.key, m.access) ∷ es) k ≡ strongest (declared_by m k) (access_in es k)
declared-next m es k h =
    elim (cases_Bool (bytes_eq k m.key)) [
      | inl same ↦ let at : k ≡ m.key = (bytes_eq-Decides k m.key).0 same in rw same (sym (ap (λ q. strongest (Some m.access) (access_in es q)) at ∙ h))
      | inr other ↦ rw other refl
    ]

-- a mark that asks for no more than is known changes nothing
pub declared-known : (m : Mark) (es : Entries) (k : List ℕ) → strongest (Some m.access) (access_in es m.key) ≡ access_in es m.key → access_in es k ≡ strongest (declared_by m k) (access_in es k)
declared-known m es k h =
    elim (cases_Bool (bytes_eq k m.key)) [
      | inl same ↦ let at : k ≡ m.key = (bytes_eq-Decides k m.key).0 same in rw same (ap (access_in es) at ∙ sym h ∙ sym (ap (λ q. strongest (Some m.access) (access_in es q)) at))
      | inr other ↦ rw other refl
    ]

-- the access of a key is its value
pub access-value : (es : Entries) (k : List ℕ) → access_in es k ≡ value_in es k
access-value [] k = refl
access-value (e ∷ es) k = ap (cond (bytes_eq k e.0) (Some e.1)) (access-value es k)

-- where a key is declared for a mark in front of others, all keys have what the mark gives them besides
pub declared-set : (m : Mark) (old new outer : Entries) → ((k : List ℕ) → value_in new k ≡ cond (bytes_eq k m.key) (Some m.access) (value_in old k))
    → strongest (Some m.access) (access_in (old ++ outer) m.key) ≡ Some m.access
    → (k : List ℕ) → access_in (new ++ outer) k ≡ strongest (declared_by m k) (access_in (old ++ outer) k)
declared-set m old new outer set h k =
    access-both new outer k
    ∙ ap (λ (o : Option Access). option_or o (access_in outer k)) (access-value new k ∙ set k ∙ ap (cond (bytes_eq k m.key) (Some m.access)) (sym (access-value old k)))
    ∙ sym (access-both ((m.key, m.access) ∷ old) outer k)
    ∙ declared-next m (old ++ outer) k h

pub none_declared : (es : Entries) (b : Bool) → b ≡ (length es == 0) → b ≡ true → es ≡ []
none_declared [] b e f = refl
none_declared (x ∷ es) b e f = absurd (grind (arith, common_steps))

abbrev pub Layers : Type 0
Layers = List (Arc Layer Global)

abbrev entries : Arc Layer Global → Entries
entries l = (arc_value l).entries

-- the layers from one on
pub layers-next : (ls : Layers) (i : ℕ) (l : Arc Layer Global) → i < length ls → l ≡ slice_index_or ls i l → declared_in (drop i ls) ≡ (arc_value l).entries ++ declared_in (drop (i + 1) ls)
layers-next ls i l h e = rw add-one (ap declared_in (drop-cons ls i l h ∙ ap (λ (d : Arc Layer Global). d ∷ drop (suc i) ls) (sym e)))

-- a layer more behind others
pub layers-more : (ls ms : Layers) (i : ℕ) (l m : Arc Layer Global) (front : Entries) → i < length ls → l ≡ slice_index_or ls i l
    → arc_value m ≡ arc_value l → declared_in ms ≡ front ++ declared_in (take i ls) → declared_in (ms ++ m ∷ []) ≡ front ++ declared_in (take (i + 1) ls)
layers-more ls ms i l m front h e same known =
    flat_map-append entries ms (m ∷ []) ∙ ap₂ (λ (xs ys : Entries). xs ++ ys) known (ap (λ (x : Layer). x.entries ++ []) same)
    ∙ append_assoc front (declared_in (take i ls)) ((arc_value l).entries ++ [])
    ∙ ap (λ xs. front ++ xs) (sym (flat_map-append entries (take i ls) (l ∷ [])) ∙ ap declared_in (ap (λ (d : Arc Layer Global). take i ls ++ d ∷ []) e ∙ sym (take_more ls i l h)))
