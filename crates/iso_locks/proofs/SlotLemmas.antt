-- Which slots have changed values, as values are put in, taken out and changed.
use Rattle.std.proofs.Common.{◌≡◌, ◌≢◌, ℕ, ◌+◌, ◌<◌, ◌≤◌, ◌==◌, [], ◌∷◌, ◌++◌, length, Option, Some, None, Bool, true, false, not, cond, set, ap, sym, ◌∙◌, arith, refl, inl, inr}
use Rattle.std.proofs.lemmas.Bool.{cases_eq, cases_lt}
use Rattle.std.proofs.lemmas.List.{length-append, length-set, get_or_append_left, get_or_push, get_or_past, get_or-set_same, get_or-set_other}
use Rattle.iso_desk.proofs.BitLemmas.{eq_false, eq_true}
use Rattle.iso_store.specs.Histories.{History}
use Rattle.iso_locks.specs.KeySets.{holds}
use Rattle.iso_locks.specs.Slots.{AreNoted, Slots, has_changed, has_unchanged, slot}
use Rattle.iso_locks.specs.declared.key_set.KeySet.{KeySet}

-- what is noted of one slot, and else as before
noted-at : (f : Option History → Bool) (was is : ℕ → Bool) (xs ys : Slots) (n : ℕ) (x : Option History)
    → ((i : ℕ) → was i ≡ f (slot xs i)) → slot ys n ≡ x → ((i : ℕ) → i ≢ n → slot ys i ≡ slot xs i)
    → ((i : ℕ) → is i ≡ cond (i == n) (f x) (was i)) → (i : ℕ) → is i ≡ f (slot ys i)
noted-at f was is xs ys n x old here others new i = elim (cases_eq i n) [
  | inl same ↦ new i ∙ ap (λ (b : Bool). cond b (f x) (was i)) (eq_true i n same) ∙ ap f (sym here ∙ ap (slot ys) (sym same))
  | inr other ↦ new i ∙ ap (λ (b : Bool). cond b (f x) (was i)) (eq_false i n other) ∙ old i ∙ ap f (sym (others i other))
]

-- a slot with another value, or without one
pub noted-set : (u c v d : KeySet) (xs ys : Slots) (n : ℕ) (x : Option History) → AreNoted u c xs → n < length xs → ys ≡ set xs n x
    → ((i : ℕ) → holds v i ≡ cond (i == n) (has_unchanged x) (holds u i)) → ((i : ℕ) → holds d i ≡ cond (i == n) (has_changed x) (holds c i)) → AreNoted v d ys
noted-set u c v d xs ys n x noted within is new_u new_c =
    let few = noted.few in
    let here : slot ys n ≡ x = ap (λ (zs : Slots). slot zs n) is ∙ get_or-set_same xs n x None within in
    let others : (i : ℕ) → i ≢ n → slot ys i ≡ slot xs i = λ i o. ap (λ (zs : Slots). slot zs i) is ∙ get_or-set_other xs n i x None o in
    let count : length ys ≡ length xs = ap length is ∙ length-set xs n x in
    record {
      few = omega arith;
      unchanged_are = noted-at has_unchanged (holds u) (holds v) xs ys n x noted.unchanged_are here others new_u;
      changed_are = noted-at has_changed (holds c) (holds d) xs ys n x noted.changed_are here others new_c;
    }

-- a slot more
pub noted-push : (u c v d : KeySet) (xs ys : Slots) (x : Option History) → AreNoted u c xs → length xs < 256 → ys ≡ xs ++ x ∷ []
    → ((i : ℕ) → holds v i ≡ cond (i == length xs) (has_unchanged x) (holds u i)) → ((i : ℕ) → holds d i ≡ cond (i == length xs) (has_changed x) (holds c i)) → AreNoted v d ys
noted-push u c v d xs ys x noted room is new_u new_c =
    let n = length xs in
    let count : length ys ≡ n + 1 = ap length is ∙ length-append xs (x ∷ []) in
    let here : slot ys n ≡ x = ap (λ (zs : Slots). slot zs n) is ∙ get_or_push xs x None n refl in
    let others : (i : ℕ) → i ≢ n → slot ys i ≡ slot xs i = λ i o. elim (cases_lt i n) [
      | inl below ↦ ap (λ (zs : Slots). slot zs i) is ∙ get_or_append_left xs (x ∷ []) None i below
      | inr past ↦ get_or_past ys i None (omega arith) ∙ sym (get_or_past xs i None (omega arith))
    ] in
    record {
      few = omega arith;
      unchanged_are = noted-at has_unchanged (holds u) (holds v) xs ys n x noted.unchanged_are here others new_u;
      changed_are = noted-at has_changed (holds c) (holds d) xs ys n x noted.changed_are here others new_c;
    }

unchanged-none : (o : Option History) → has_unchanged o ≡ false → has_changed o ≡ false → o ≡ None
unchanged-none None u c = refl
unchanged-none (Some h) u c = let wrong : true ≡ false = ap not (sym u) ∙ c in absurd (cc)

-- slots without an unchanged value and without a changed one have none
pub noted-none : (u c : KeySet) (slots : Slots) → AreNoted u c slots → ((k : ℕ) → 0 ≤ k → holds u k ≡ false) → ((k : ℕ) → 0 ≤ k → holds c k ≡ false) → (i : ℕ) → slot slots i ≡ None
noted-none u c slots noted nu nc i = unchanged-none (slot slots i) (sym (noted.unchanged_are i) ∙ nu i (omega arith)) (sym (noted.changed_are i) ∙ nc i (omega arith))
