-- Marks that a tray can go back to, and further changes.
use Rattle.std.proofs.Common.{◌≡◌, ℕ, ◌<◌, ◌≤◌, [], ◌∷◌, length, Option, Some, None, Bool, true, false, cond, set, is_some, option_map, ap, sym, ◌∙◌, arith, refl, inl, inr, subst, Result, Ok, Err, OnOk, OnErr}
use Rattle.std.proofs.lemmas.Bool.{cases_eq, cases_lt}
use Rattle.std.proofs.lemmas.List.{get_or_past, get_or-set_same, get_or-set_other, length-set}
use Rattle.iso_model.specs.declared.resource.Change.{Change}
use Rattle.iso_plan.proofs.ColumnLemmas.{column-read, length-column}
use Rattle.iso_plan.specs.RowView.{tree_of}
use Rattle.iso_store.specs.Histories.{History, IsEarlier, after}
use Rattle.iso_locks.specs.Slots.{Slots, HasLater, slot}
use Rattle.iso_locks.specs.Onward.{earlier-self, later-further, on-further, on-still, onward-still}
use Rattle.iso_locks.specs.Trays.{CanUndo, GoesOn, IsOnward, SavepointView, TrayView, kept, marked, may_write, with_change}
use Rattle.iso_locks.proofs.TouchLemmas.{has-still}

earlier-after : (h : History) (change : Change) → IsEarlier h (after change h)
earlier-after h change = record { newer = (after change h).now ∷ []; is = refl }

kept_by : (b : Bool) (o : Option History) (h : History) → cond b o None ≡ Some h → o ≡ Some h
kept_by true o h e = e
kept_by false o h e = absurd (cc)

-- what was kept was there
was-there : (t : TrayView) (n i : ℕ) (h : History) → slot (kept (tree_of t.plan) n t.values) i ≡ Some h → slot t.values i ≡ Some h
was-there t n i h e =
    let tree = tree_of t.plan in
    let f : ℕ → Option History = λ j. cond (may_write tree n j) (slot t.values j) None in
    elim (cases_lt i (length t.values)) [
      | inl within ↦ kept_by (may_write tree n i) (slot t.values i) h (sym (column-read f (kept tree n t.values) (length t.values) i None refl within) ∙ e)
      | inr past ↦
          let count : length (kept tree n t.values) ≡ length t.values = length-column f (length t.values) in
          let beyond : slot (kept tree n t.values) i ≡ None = get_or_past (kept tree n t.values) i None (omega arith) in
          absurd (let nothing : None ≡ Some h = sym beyond ∙ e in cc)
    ]

pub own-mark : (t u : TrayView) (n : ℕ) → GoesOn t u → CanUndo (marked t n) u
own-mark t u n on = record {
  fits = length-column (λ j. cond (may_write (tree_of t.plan) n j) (slot t.values j) None) (length t.values) ∙ sym on.fits;
  later = λ i h e. on.later i h (was-there t n i h e);
}

pub other-mark : (t u : TrayView) (mark : SavepointView) → GoesOn t u → CanUndo mark t → CanUndo mark u
other-mark t u mark on can = record {
  fits = can.fits ∙ sym on.fits;
  later = λ i h e. later-further t.values u.values i h (can.later i h e) (on.later i);
}

changed-slot : (slots : Slots) (change : Change) (i j : ℕ) (h : History) → slot slots j ≡ Some h → HasLater (set slots i (option_map (after change) (slot slots i))) j h
changed-slot slots change i j h e =
    elim (cases_lt j (length slots)) [
      | inl within ↦ elim (cases_eq j i) [
        | inl same ↦
            let here : i < length slots = omega arith in
            let is : slot (set slots i (option_map (after change) (slot slots i))) j ≡ Some (after change h) =
            ap (slot (set slots i (option_map (after change) (slot slots i)))) same ∙ get_or-set_same slots i (option_map (after change) (slot slots i)) None here
            ∙ ap (λ (n : ℕ). option_map (after change) (slot slots n)) (sym same) ∙ ap (option_map (after change)) e in
            record { now = after change h; there = is; later = earlier-after h change }
        | inr other ↦ record { now = h; there = get_or-set_other slots i j (option_map (after change) (slot slots i)) None other ∙ e; later = earlier-self h }
      ]
      | inr past ↦ let beyond : slot slots j ≡ None = get_or_past slots j None past in absurd (let nothing : None ≡ Some h = sym beyond ∙ e in cc)
    ]

nothing-changed : (slots : Slots) (change : Change) (i j : ℕ) → slot slots j ≡ None → slot (set slots i (option_map (after change) (slot slots i))) j ≡ None
nothing-changed slots change i j e =
    elim (cases_lt j (length slots)) [
      | inl within ↦ elim (cases_eq j i) [
        | inl same ↦
            let here : i < length slots = omega arith in
            ap (slot (set slots i (option_map (after change) (slot slots i)))) same ∙ get_or-set_same slots i (option_map (after change) (slot slots i)) None here
            ∙ ap (λ (n : ℕ). option_map (after change) (slot slots n)) (sym same) ∙ ap (option_map (after change)) e
        | inr other ↦ get_or-set_other slots i j (option_map (after change) (slot slots i)) None other ∙ e
      ]
      | inr past ↦
          let more : length (set slots i (option_map (after change) (slot slots i))) ≤ j = rw (length-set slots i (option_map (after change) (slot slots i))) past in
          get_or_past (set slots i (option_map (after change) (slot slots i))) j None more
    ]

pub on-change : (t : TrayView) (i : ℕ) (change : Change) → GoesOn t (with_change change i t)
on-change t i change = record {
  fits = length-set t.values i (option_map (after change) (slot t.values i));
  only = λ j e. nothing-changed t.values change i j e;
  later = λ j h e. changed-slot t.values change i j h e;
}

-- a tray whose values were left as they were, or changed at one number
pub on-apply : {A B : Type 0} (r : Result A B) (t : TrayView) (next : Slots) (i : ℕ) (change : Change) → i < length t.values
    → OnOk r (next ≡ set t.values i (option_map (after change) (slot t.values i))) → OnErr r (next ≡ t.values) → IsOnward t (record t { values = next })
on-apply (Ok x) t next i change within ok err = record {
  plan = refl;
  world = refl;
  flat = refl;
  lent = refl;
  there = λ p q. has-still (tree_of t.plan) t.values next i change within ok q p;
  values = subst (λ (vs : Slots). GoesOn t (record t { values = vs })) (sym ok) (on-change t i change);
  frames = refl;
}
on-apply (Err e) t next i change within ok err = subst (λ (vs : Slots). IsOnward t (record t { values = vs })) (sym err) (onward-still t)

there-by : (o p : Option History) → (o ≡ None → p ≡ None) → ((h : History) → o ≡ Some h → is_some p ≡ true) → is_some p ≡ is_some o
there-by None p none some = ap is_some (none refl)
there-by (Some h) p none some = some h refl

-- after further changes the same values are there
pub on-there : (t u : TrayView) → GoesOn t u → (i : ℕ) → is_some (slot u.values i) ≡ is_some (slot t.values i)
on-there t u on i = there-by (slot t.values i) (slot u.values i) (on.only i) (λ h e. ap is_some (on.later i h e).there)

pub ruleset laws = (own-mark, other-mark, on-still, on-further, on-change)
