-- A value is changed in the slot where its key stands first.
use Rattle.std.proofs.Common.{◌≡◌, ◌<◌, ℕ, suc, List, [], ◌∷◌, length, slice_set, slice_index_or, Option, Some, None, option_map, is_some, Bool, true, false, true≢false, cond, bytes_eq, refl, sym, ap, ◌∙◌, arith}
use Rattle.std.proofs.lemmas.Slice.Eq.{bytes_eq-Decides}
use Rattle.iso_model.specs.Memory.{slot_of, value_at}
use Rattle.iso_model.specs.Resources.{changed, changed_at}
use Rattle.iso_model.specs.Touch.{Kind, HasKind}
use Rattle.iso_model.specs.declared.resource.Change.{Change}
use Rattle.iso_model.specs.declared.resource.Resource.{Resource}

abbrev Slots : Type 0
Slots = List (List ℕ × Resource)

some_kind : (o : Option Resource) (kind : Kind) → HasKind o kind → (o ≡ None → ⊥)
some_kind None kind e = absurd (true≢false (sym (ap is_some e)))
some_kind (Some v) kind e = λ none. absurd (true≢false (ap is_some none))

-- a key with a value stands in a slot
slot_of-lt_at : (e : List ℕ × Resource) (es : Slots) (k : List ℕ) (b : Bool) → ((value_at es k ≡ None → ⊥) → slot_of es k < length es)
    → (cond b (Some e.1) (value_at es k) ≡ None → ⊥) → cond b 0 (suc (slot_of es k)) < suc (length es)
slot_of-lt_at e es k true ih some = omega arith
slot_of-lt_at e es k false ih some = let h = ih some in omega arith

slot_of-lt : (es : Slots) (k : List ℕ) → (value_at es k ≡ None → ⊥) → slot_of es k < length es
slot_of-lt [] k some = absurd (some refl)
slot_of-lt (e ∷ es) k some = slot_of-lt_at e es k (bytes_eq k e.0) (slot_of-lt es k) some

pub slot_of-kind : (es : Slots) (k : List ℕ) (kind : Kind) → HasKind (value_at es k) kind → slot_of es k < length es
slot_of-kind es k kind there = slot_of-lt es k (some_kind (value_at es k) kind there)

same_text : (q k : List ℕ) → bytes_eq q k ≡ true → q ≡ k
same_text q k e = (bytes_eq-Decides q k).0 e

text_same : (q : List ℕ) → bytes_eq q q ≡ true
text_same q = (bytes_eq-Decides q q).1 refl

here : (c : Change) (v : Resource) (o : Option Resource) (b : Bool) → cond b (Some (changed c v)) o ≡ cond b (option_map (changed c) (cond b (Some v) o)) (cond b (Some v) o)
here c v o true = refl
here c v o false = refl

later : (c : Change) (v : Resource) (o : Option Resource) (a b : Bool) → (a ≡ true → b ≡ true → ⊥)
    → cond a (Some v) (cond b (option_map (changed c) o) o) ≡ cond b (option_map (changed c) (cond a (Some v) o)) (cond a (Some v) o)
later c v o true true apart = absurd (apart refl refl)
later c v o true false apart = refl
later c v o false true apart = refl
later c v o false false apart = refl

-- the slot's value changed, at a first slot that may have the key
changed_in : (e : List ℕ × Resource) (es : Slots) (k : List ℕ) (c : Change) (d : List ℕ × Resource) (q : List ℕ) (b : Bool) → bytes_eq k e.0 ≡ b
    → value_at (slice_set es (slot_of es k) ((slice_index_or es (slot_of es k) d).0, changed c (slice_index_or es (slot_of es k) d).1)) q ≡ changed_at (value_at es) k c q
    → value_at (slice_set (e ∷ es) (cond b 0 (suc (slot_of es k)))
    ((slice_index_or (e ∷ es) (cond b 0 (suc (slot_of es k))) d).0, changed c (slice_index_or (e ∷ es) (cond b 0 (suc (slot_of es k))) d).1)) q ≡ changed_at (value_at (e ∷ es)) k c q
changed_in e es k c d q true is rest =
    here c e.1 (value_at es q) (bytes_eq q e.0)
    ∙ ap (λ (x : List ℕ). cond (bytes_eq q x) (option_map (changed c) (value_at (e ∷ es) q)) (value_at (e ∷ es) q)) (sym (same_text k e.0 is))
changed_in e es k c d q false is rest =
    ap (λ (o : Option Resource). cond (bytes_eq q e.0) (Some e.1) o) rest
    ∙ later c e.1 (value_at es q) (bytes_eq q e.0) (bytes_eq q k)
    (λ is_e is_k. true≢false (sym (text_same k) ∙ ap (λ (x : List ℕ). bytes_eq k x) (sym (same_text q k is_k) ∙ same_text q e.0 is_e) ∙ is))

pub changed_slot : (es : Slots) (k : List ℕ) (c : Change) (d : List ℕ × Resource) (q : List ℕ)
    → value_at (slice_set es (slot_of es k) ((slice_index_or es (slot_of es k) d).0, changed c (slice_index_or es (slot_of es k) d).1)) q ≡ changed_at (value_at es) k c q
changed_slot [] k c d q = let none : Option Resource = None in elim (bytes_eq q k) as (λ b. none ≡ cond b none none) [ true ↦ refl | false ↦ refl ]
changed_slot (e ∷ es) k c d q = changed_in e es k c d q (bytes_eq k e.0) refl (changed_slot es k c d q)
