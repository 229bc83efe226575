-- What a mark keeps of the values that were changed, one by one.
use Rattle.std.proofs.Common.{◌≡◌, ◌≢◌, ℕ, ◌+◌, ◌<◌, ◌≤◌, ◌==◌, ◌||◌, List, [], ◌∷◌, ◌++◌, length, map, Option, Some, None, Bool, true, false, cond, get_or, ap, sym, subst, ◌∙◌, arith, refl, inl, inr}
use Rattle.std.proofs.lemmas.Bool.{cases_eq, cases_lt}
use Rattle.std.proofs.lemmas.List.{get_or_default, get_or_past}
use Rattle.iso_desk.proofs.BitLemmas.{eq_false, eq_true}
use Rattle.iso_locks.proofs.OwnerLemmas.{column-slot}
use Rattle.iso_locks.specs.Kept.{AreOf, is_kept, kept_by}
use Rattle.iso_locks.specs.Slots.{Slots, has_changed, has_unchanged, slot}
use Rattle.iso_locks.specs.Trays.{kept_at}
use Rattle.iso_locks.specs.declared.kept.KeptMark.{KeptMark}
use Rattle.iso_locks.specs.declared.starting.Starting.{Starting}
use Rattle.iso_model.specs.Rights.{access_in, is_writable}
use Rattle.iso_model.specs.declared.access.Access.{Access}
use Rattle.iso_plan.proofs.ColumnLemmas.{column-from}
use Rattle.iso_plan.specs.Paths.{column}
use Rattle.iso_store.specs.Histories.{History}

or-right : (a b : Bool) → b ≡ true → (a || b) ≡ true
or-right true b e = refl
or-right false b e = e

or-none : (a b : Bool) → a ≡ false → b ≡ false → (a || b) ≡ false
or-none true b ea eb = ea
or-none false b ea eb = eb

or-left-none : (a b : Bool) → (a || b) ≡ false → a ≡ false
or-left-none true b e = e
or-left-none false b e = refl

or-right-none : (a b : Bool) → (a || b) ≡ false → b ≡ false
or-right-none true b e = absurd (cc)
or-right-none false b e = e

or-still : (b a c : Bool) → (a ≡ true → c ≡ true) → (b || a) ≡ true → (b || c) ≡ true
or-still true a c f e = refl
or-still false a c f e = f e

-- what is kept is still kept when one is put behind it
pub kept-still : (ks : List KeptMark) (k : KeptMark) (i : ℕ) → is_kept ks i ≡ true → is_kept (ks ++ k ∷ []) i ≡ true
kept-still [] k i e = absurd (cc)
kept-still (x ∷ xs) k i e = or-still (x.number == i) (is_kept xs i) (is_kept (xs ++ k ∷ []) i) (kept-still xs k i) e

pub kept-last : (ks : List KeptMark) (k : KeptMark) → is_kept (ks ++ k ∷ []) k.number ≡ true
kept-last [] k = ap (λ (b : Bool). b || false) (eq_true k.number k.number refl)
kept-last (x ∷ xs) k = or-right (x.number == k.number) (is_kept (xs ++ k ∷ []) k.number) (kept-last xs k)

-- nothing else is kept then
pub kept-else : (ks : List KeptMark) (k : KeptMark) (i : ℕ) → i ≢ k.number → is_kept ks i ≡ false → is_kept (ks ++ k ∷ []) i ≡ false
kept-else [] k i other e = or-none (k.number == i) false (eq_false k.number i (λ same. other (sym same))) refl
kept-else (x ∷ xs) k i other e =
    or-none (x.number == i) (is_kept (xs ++ k ∷ []) i) (or-left-none (x.number == i) (is_kept xs i) e) (kept-else xs k i other (or-right-none (x.number == i) (is_kept xs i) e))

pub of-push : (slots : Slots) (ks : List KeptMark) (k : KeptMark) → AreOf slots ks → slot slots k.number ≡ Some k.mark → AreOf slots (ks ++ k ∷ [])
of-push slots [] k all e = (e, tt)
of-push slots (x ∷ xs) k all e = (all.0, of-push slots xs k all.1 e)

pub of-front : (slots : Slots) (ks : List KeptMark) (k : KeptMark) → AreOf slots (ks ++ k ∷ []) → AreOf slots ks
of-front slots [] k all = tt
of-front slots (x ∷ xs) k all = (all.0, of-front slots xs k all.1)

pub of-last : (slots : Slots) (ks : List KeptMark) (k : KeptMark) → AreOf slots (ks ++ k ∷ []) → slot slots k.number ≡ Some k.mark
of-last slots [] k all = all.0
of-last slots (x ∷ xs) k all = of-last slots xs k all.1

none-of : (b : Bool) → cond {A = Option History} b None None ≡ None
none-of true = refl
none-of false = refl

changed-of : (b : Bool) (o : Option History) → has_changed (cond b o None) ≡ true → has_changed o ≡ true
changed-of true o e = e
changed-of false o e = absurd (cc)

module _ (rights : List (List ℕ × Access)) (ks : List (List ℕ)) (values : Slots) where
  abbrev all : Slots
  all = column (kept_at rights ks values) (length values)

  -- what rights let be changed of a slot
  pub kept-slot : (i : ℕ) → slot all i ≡ kept_at rights ks values i
  kept-slot i =
      let may = is_writable (access_in rights (get_or ks i [])) in
      column-slot (kept_at rights ks values) (length values) i (λ past. ap (λ (o : Option History). cond may o None) (get_or_past values i None past) ∙ none-of may)

  was-changed : (i : ℕ) → has_changed (slot all i) ≡ true → has_changed (slot values i) ≡ true
  was-changed i e = changed-of (is_writable (access_in rights (get_or ks i []))) (slot values i) (sym (ap has_changed (kept-slot i)) ∙ e)

  -- all that were changed up to a slot are kept, and none is between
  pub kept-next : (marks next : List KeptMark) (at n : ℕ) → ((i : ℕ) → at ≤ i → i < n → has_changed (slot values i) ≡ false)
      → ((i : ℕ) → i < at → has_changed (slot all i) ≡ true → is_kept marks i ≡ true) → ((i : ℕ) → is_kept marks i ≡ true → is_kept next i ≡ true)
      → (has_changed (slot all n) ≡ true → is_kept next n ≡ true) → (i : ℕ) → i < n + 1 → has_changed (slot all i) ≡ true → is_kept next i ≡ true
  kept-next marks next at n none old still this i below e = elim (cases_lt i at) [
    | inl before ↦ still i (old i before e)
    | inr after ↦ elim (cases_eq i n) [
      | inl same ↦ ap (is_kept next) same ∙ this (ap (λ (j : ℕ). has_changed (slot all j)) (sym same) ∙ e)
      | inr other ↦ let wrong : false ≡ true = sym (none i after (omega arith)) ∙ was-changed i e in absurd (cc)
    ]
  ]

  -- a slot whose value rights let be changed is put behind the others
  pub kept-with : (marks next : List KeptMark) (at n : ℕ) (m : History) → ((i : ℕ) → at ≤ i → i < n → has_changed (slot values i) ≡ false)
      → ((i : ℕ) → i < at → has_changed (slot all i) ≡ true → is_kept marks i ≡ true) → next ≡ marks ++ record { number = n; mark = m } ∷ []
      → (i : ℕ) → i < n + 1 → has_changed (slot all i) ≡ true → is_kept next i ≡ true
  kept-with marks next at n m none old is =
      let k : KeptMark = record { number = n; mark = m } in
      kept-next marks next at n none old (λ i e. ap (λ (ks : List KeptMark). is_kept ks i) is ∙ kept-still marks k i e) (λ e. ap (λ (ks : List KeptMark). is_kept ks n) is ∙ kept-last marks k)

  pub of-with : (marks next : List KeptMark) (n : ℕ) (m : History) → AreOf all marks → Some m ≡ kept_at rights ks values n → next ≡ marks ++ record { number = n; mark = m } ∷ [] → AreOf all next
  of-with marks next n m are this is = subst (AreOf all) (sym is) (of-push all marks (record { number = n; mark = m }) are (kept-slot n ∙ sym this))

  -- a slot whose value they don't let be changed
  pub kept-without : (marks next : List KeptMark) (at n : ℕ) → ((i : ℕ) → at ≤ i → i < n → has_changed (slot values i) ≡ false)
      → ((i : ℕ) → i < at → has_changed (slot all i) ≡ true → is_kept marks i ≡ true) → None ≡ kept_at rights ks values n → next ≡ marks
      → (i : ℕ) → i < n + 1 → has_changed (slot all i) ≡ true → is_kept next i ≡ true
  kept-without marks next at n none old this is =
      kept-next marks next at n none old (λ i e. ap (λ (ks : List KeptMark). is_kept ks i) is ∙ e)
      (λ e. let wrong : false ≡ true = ap has_changed (this ∙ sym (kept-slot n)) ∙ e in absurd (cc))

  pub kept-all : (marks : List KeptMark) (at : ℕ) → ((i : ℕ) → at ≤ i → has_changed (slot values i) ≡ false)
      → ((i : ℕ) → i < at → has_changed (slot all i) ≡ true → is_kept marks i ≡ true) → (i : ℕ) → has_changed (slot all i) ≡ true → is_kept marks i ≡ true
  kept-all marks at none old i e = elim (cases_lt i at) [
    | inl before ↦ old i before e
    | inr after ↦ let wrong : false ≡ true = sym (none i after) ∙ was-changed i e in absurd (cc)
  ]

-- of slots without a value nothing is kept
pub nothing-kept : (values : Slots) (may : ℕ → Bool) → ((i : ℕ) → slot values i ≡ None) → values ≡ column (λ i. cond (may i) (slot values i) None) (length values)
nothing-kept values may none =
    column-from (λ i. cond (may i) (slot values i) None) values (length values) refl
    (λ i d h. get_or_default values i d None h ∙ none i ∙ sym (none-of (may i)) ∙ ap (λ (o : Option History). cond (may i) o None) (sym (none i)))

-- rights that let the same of these values be changed keep the same
pub same-kept : (r s : List (List ℕ × Access)) (starts : List Starting) (values : Slots)
    → ((i : ℕ) (k : List ℕ) → cond (is_writable (access_in r k)) (slot values i) None ≡ cond (is_writable (access_in s k)) (slot values i) None) → kept_by r starts values ≡ kept_by s starts values
same-kept r s starts values same =
    ap (λ (f : ℕ → Option History). column f (length values)) (λ p i. same i (get_or (map (λ (t : Starting). t.key) starts) i []) p)

and-left : (b : Bool) (o : Option History) → has_unchanged o ≡ false → has_unchanged (cond b o None) ≡ false
and-left true o e = e
and-left false o e = refl

by-right : (b : Bool) (o : Option History) → has_unchanged o ≡ true → b ≡ has_unchanged (cond b o None)
by-right true o e = sym e
by-right false o e = refl

module _ (rights : List (List ℕ × Access)) (starts : List Starting) (values : Slots) (n : ℕ) where
  abbrev may : Bool
  may = is_writable (access_in rights (get_or (map (λ (s : Starting). s.key) starts) n []))

  at : slot (kept_by rights starts values) n ≡ cond may (slot values n) None
  at = kept-slot rights (map (λ (s : Starting). s.key) starts) values n

  -- what wasn't unchanged isn't kept so
  pub not-kept : has_unchanged (slot values n) ≡ false → false ≡ has_unchanged (slot (kept_by rights starts values) n)
  not-kept e = sym (ap has_unchanged at ∙ and-left may (slot values n) e)

  -- what was unchanged is kept so as far as the rights let it be changed
  pub kept-right : (k : List ℕ) → k ≡ get_or (map (λ (s : Starting). s.key) starts) n [] → has_unchanged (slot values n) ≡ true
      → is_writable (access_in rights k) ≡ has_unchanged (slot (kept_by rights starts values) n)
  kept-right k e u = ap (λ (q : List ℕ). is_writable (access_in rights q)) e ∙ by-right may (slot values n) u ∙ sym (ap has_unchanged at)
