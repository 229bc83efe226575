-- What is looked at and changed in a tray.
use Rattle.std.proofs.Common.{◌≡◌, ◌≢◌, ℕ, ◌<◌, List, [], ◌∷◌, length, map, Option, Some, None, Bool, true, false, cond, bytes_eq, get_or, set, option_map, is_some, ap, sym, ◌∙◌, subst, refl, inl, inr}
use Rattle.std.proofs.lemmas.Bool.{cases_eq}
use Rattle.std.proofs.lemmas.List.{get_or-map, get_or-set_same, get_or-set_other, length-map}
use Rattle.std.proofs.lemmas.Slice.Eq.{bytes_eq-Decides}
use Rattle.iso_model.specs.Resources.{changed, changed_at}
use Rattle.iso_model.specs.Touch.{HasKind, Kind, answered}
use Rattle.iso_model.specs.declared.resource.Ask.{Ask}
use Rattle.iso_model.specs.declared.resource.Change.{Change}
use Rattle.iso_model.specs.declared.resource.Resource.{Resource}
use Rattle.iso_plan.specs.KeyTable.{keys}
use Rattle.iso_plan.specs.Tree.{Row}
use Rattle.iso_settings.specs.Worlds.{Start, starting_value_in}
use Rattle.iso_store.specs.Histories.{History, after}
use Rattle.iso_locks.specs.Slots.{Slots, slot}
use Rattle.iso_locks.specs.Trays.{has_at, is_open, number_of, resources, seen, seen_at, start_at}
use Rattle.iso_locks.specs.declared.starting.Starting.{Starting}
use Rattle.iso_locks.proofs.NumberLemmas.{number-spells, number-within, spelled}

-- the keys of starting values
keys-spelled : (world : Start) (ks : List (List ℕ)) → map spelled (map (start_at world) ks) ≡ ks
keys-spelled world [] = refl
keys-spelled world (k ∷ ks) = ap (λ (rest : List (List ℕ)). k ∷ rest) (keys-spelled world ks)

pub keys-of : (tree : List Row) (world : Start) (starts : List Starting) → starts ≡ map (start_at world) (keys tree) → map spelled starts ≡ keys tree
keys-of tree world starts e = ap (map spelled) e ∙ keys-spelled world (keys tree)

pub count-of : (tree : List Row) (world : Start) (starts : List Starting) → starts ≡ map (start_at world) (keys tree) → length starts ≡ length (keys tree)
count-of tree world starts e = ap length e ∙ length-map (keys tree) (start_at world)

-- a starting value by its key's number
started : (world : Start) (ks : List (List ℕ)) (starts : List Starting) (i : ℕ) (s : Starting)
    → starts ≡ map (start_at world) ks → i < length ks → s ≡ get_or starts i s → s ≡ start_at world (get_or ks i [])
started world ks starts i s e h is = is ∙ ap (λ (xs : List Starting). get_or xs i s) e ∙ get_or-map (start_at world) ks i [] s h

open_by : (shown : Bool) (start : Resource) (kind : Kind) → HasKind (seen None shown start) kind → seen None shown start ≡ Some start
open_by true start kind e = refl
open_by false start kind e = absurd (cc)

-- what is looked at in a value that was moved into the tray
pub look-value : (tree : List Row) (world : Start) (lent : List Bool) (values : Slots) (k : List ℕ) (i : ℕ) (h : History) (ask : Ask) → number_of tree k ≡ Some i → slot values i ≡ Some h
    → answered (Some h.now) ask ≡ answered (resources tree world lent values k) ask
look-value tree world lent values k i h ask e is =
    let at : resources tree world lent values k ≡ seen (slot values i) (is_open tree lent k) (starting_value_in world k) = ap (seen_at tree world lent values k) e in
    let now : resources tree world lent values k ≡ Some h.now = at ∙ ap (λ (o : Option History). seen o (is_open tree lent k) (starting_value_in world k)) is in
    ap (λ (v : Option Resource). answered v ask) (sym now)

-- what is looked at where the tray has no value
pub look-start : (tree : List Row) (world : Start) (lent : List Bool) (values : Slots) (starts : List Starting) (k : List ℕ) (i : ℕ) (s : Starting) (ask : Ask) (kind : Kind)
    → starts ≡ map (start_at world) (keys tree)
    → number_of tree k ≡ Some i → slot values i ≡ None → s ≡ get_or starts i s → HasKind (resources tree world lent values k) kind
    → answered (Some s.value) ask ≡ answered (resources tree world lent values k) ask
look-start tree world lent values starts k i s ask kind all e none is has =
    let all_keys = keys tree in
    let within : i < length all_keys = number-within all_keys k (length all_keys) i e in
    let at : resources tree world lent values k ≡ seen None (is_open tree lent k) (starting_value_in world k) = ap (seen_at tree world lent values k) e
    ∙ ap (λ (o : Option History). seen o (is_open tree lent k) (starting_value_in world k)) none in
    let P : Option Resource → Type 0 = λ v. HasKind v kind in
    let start : resources tree world lent values k ≡ Some (starting_value_in world k) = at ∙ open_by (is_open tree lent k) (starting_value_in world k) kind (subst P at has) in
    let key : get_or all_keys i [] ≡ k = number-spells all_keys k (length all_keys) i e in
    let value : s.value ≡ starting_value_in world k = ap (λ (x : Starting). x.value) (started world all_keys starts i s all within is) ∙ ap (starting_value_in world) key in
    ap (λ (v : Option Resource). answered v ask) (ap (λ (x : Resource). Some x) value ∙ sym start)

-- a key without a number has no value
pub look-nothing : (tree : List Row) (world : Start) (lent : List Bool) (values : Slots) (k : List ℕ) (ask : Ask) (kind : Kind)
    → number_of tree k ≡ None → HasKind (resources tree world lent values k) kind → ⊥
look-nothing tree world lent values k ask kind e has =
    let none : resources tree world lent values k ≡ None = ap (seen_at tree world lent values k) e in
    let P : Option Resource → Type 0 = λ v. HasKind v kind in
    let kinds : HasKind None kind = subst P none has in
    cc

some_of : (o : Option History) → is_some o ≡ true → (h : History) × (o ≡ Some h)
some_of (Some h) e = (h, refl)
some_of None e = absurd (cc)

-- a key whose value may be changed has a value in its slot
value-there : (values : Slots) (o : Option ℕ) (i : ℕ) → o ≡ Some i → has_at values o ≡ true → is_some (slot values i) ≡ true
value-there values o i e has = sym (ap (has_at values) e) ∙ has

pub nothing-there : (values : Slots) (o : Option ℕ) → o ≡ None → has_at values o ≡ true → ⊥
nothing-there values o e has = let nothing : false ≡ true = sym (ap (has_at values) e) ∙ has in cc

both_none : (b : Bool) (change : Change) → cond b (option_map (changed change) None) None ≡ None
both_none true change = refl
both_none false change = refl

changed_by : (b : Bool) (change : Change) (v : Option Resource) (w : Option Resource)
    → (b ≡ true → w ≡ option_map (changed change) v) → (b ≡ false → w ≡ v) → w ≡ cond b (option_map (changed change) v) v
changed_by true change v w here there = here refl
changed_by false change v w here there = there refl

-- the resources after a change in one slot, at a key with this number or without one
content-at : (tree : List Row) (world : Start) (lent : List Bool) (values next : Slots) (k q : List ℕ) (i : ℕ) (h : History) (change : Change) (o : Option ℕ)
    → number_of tree k ≡ Some i → number_of tree q ≡ o → slot values i ≡ Some h → i < length values → next ≡ set values i (Some (after change h))
    → seen_at tree world lent next q o ≡ cond (bytes_eq q k) (option_map (changed change) (seen_at tree world lent values q o)) (seen_at tree world lent values q o)
content-at tree world lent values next k q i h change None at at_q is within new = sym (both_none (bytes_eq q k) change)
content-at tree world lent values next k q i h change (Some j) at at_q is within new =
    let all = keys tree in
    let shown = is_open tree lent q in
    let start = starting_value_in world q in
    changed_by (bytes_eq q k) change (seen (slot values j) shown start) (seen (slot next j) shown start)
    (λ same.
    let text : q ≡ k = (bytes_eq-Decides q k).0 same in
    let number : Some j ≡ Some i = sym at_q ∙ ap (number_of tree) text ∙ at in
    let place : j ≡ i = cc in
    let written : slot next j ≡ Some (after change h) = ap (λ (vs : Slots). slot vs j) new ∙ ap (λ n. get_or (set values i (Some (after change h))) n None) place
    ∙ get_or-set_same values i (Some (after change h)) None within in
    let before : slot values j ≡ Some h = ap (slot values) place ∙ is in
    ap (λ (x : Option History). seen x shown start) written ∙ sym (ap (λ (x : Option History). option_map (changed change) (seen x shown start)) before))
    (λ apart.
    let other : j ≢ i = λ place.
    let one : get_or all j [] ≡ q = number-spells all q (length all) j at_q in
    let two : get_or all i [] ≡ k = number-spells all k (length all) i at in
    let text : q ≡ k = sym one ∙ ap (λ n. get_or all n []) place ∙ two in
    let equal : bytes_eq q k ≡ true = (bytes_eq-Decides q k).1 text in
    cc in
    ap (λ (x : Option History). seen x shown start) (ap (λ (vs : Slots). slot vs j) new ∙ get_or-set_other values i j (Some (after change h)) None other))

-- a change in the slot of a key's number changes the value at that key alone
pub changes : (tree : List Row) (world : Start) (lent : List Bool) (values next : Slots) (k : List ℕ) (i : ℕ) (change : Change)
    → number_of tree k ≡ Some i → has_at values (number_of tree k) ≡ true → i < length values → next ≡ set values i (option_map (after change) (slot values i))
    → resources tree world lent next ≡ changed_at (resources tree world lent values) k change
changes tree world lent values next k i change at has within new =
    let held = some_of (slot values i) (value-there values (number_of tree k) i at has) in
    let is : next ≡ set values i (Some (after change held.0)) = new ∙ ap (λ (o : Option History). set values i (option_map (after change) o)) held.1 in
    λ p q. content-at tree world lent values next k q i held.0 change (number_of tree q) at refl held.1 within is p

mapped : (change : Change) (o : Option History) → is_some (option_map (after change) o) ≡ is_some o
mapped change None = refl
mapped change (Some h) = refl

has-slot : (values next : Slots) (i : ℕ) (change : Change) (o : Option ℕ) → i < length values → next ≡ set values i (option_map (after change) (slot values i)) → has_at next o ≡ has_at values o
has-slot values next i change None within new = refl
has-slot values next i change (Some j) within new =
    elim (cases_eq j i) [
      | inl place ↦
          ap (λ (vs : Slots). is_some (slot vs j)) new ∙ ap (λ n. is_some (slot (set values i (option_map (after change) (slot values i))) n)) place
          ∙ ap is_some (get_or-set_same values i (option_map (after change) (slot values i)) None within) ∙ mapped change (slot values i) ∙ ap (λ n. is_some (slot values n)) (sym place)
      | inr other ↦ ap (λ (vs : Slots). is_some (slot vs j)) new ∙ ap is_some (get_or-set_other values i j (option_map (after change) (slot values i)) None other)
    ]

-- after a change the same values are there
pub has-still : (tree : List Row) (values next : Slots) (i : ℕ) (change : Change) → i < length values
    → next ≡ set values i (option_map (after change) (slot values i)) → (q : List ℕ) → has_at next (number_of tree q) ≡ has_at values (number_of tree q)
has-still tree values next i change within new q = has-slot values next i change (number_of tree q) within new
