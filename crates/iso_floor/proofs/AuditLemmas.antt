-- A comparison of receipts with a history goes on by one receipt, and what it has found at its end.
use Rattle.std.proofs.Common.{◌≡◌, ◌≢◌, ◌<◌, ◌≤◌, ◌⊎◌, inl, inr, ℕ, zero, suc, List, [], ◌∷◌, ◌++◌, length, replicate, min, set, Option, Some, None, Bool, true, false, refl, sym, ap, subst, ◌∙◌, arith, slice_get, get_or-set_same, get_or-set_other}
use Rattle.std.proofs.lemmas.Bool.{cases_eq, cases_lt}
use Rattle.std.proofs.lemmas.Option.{slice_get_within}
use Rattle.std.specs.Option.{IfSome}
use Rattle.iso_book.specs.Leaves.{ReceiptView}
use Rattle.iso_standing.specs.declared.event.Event.{Event}
use Rattle.iso_standing.specs.declared.event.Event.TheVariants.{Leave}
use Rattle.iso_floor.specs.Audits.{IsAstray, Foreign, Late, Twice, IsInOrder, Astray, Missing, IsLowest, IsReceipted, Stands, receipt_at}
use Rattle.iso_floor.specs.Auditing.{GoesOnBy, IsAbove, IsAudited, IsBefore, IsFirstUnmarked, IsNext, higher_of, is_marked, lower_of}

-- it is the receipt at this place of this seat's list
pub record IsThis (seat place : ℕ) (r : ReceiptView) (s p : ℕ) (q : ReceiptView) : Type 0 where
  pub seat_is : s ≡ seat
  pub place_is : p ≡ place
  pub receipt_is : q ≡ r

-- lists have one receipt more than others, the last of a seat's list
pub record HaveOneMore (old new : List (List ReceiptView)) (seat place : ℕ) (r : ReceiptView) : Type 0 where
  pub kept : (s p : ℕ) (q : ReceiptView) → receipt_at old s p ≡ Some q → receipt_at new s p ≡ Some q
  pub added : receipt_at new seat place ≡ Some r
  pub only : (s p : ℕ) (q : ReceiptView) → receipt_at new s p ≡ Some q → (receipt_at old s p ≡ Some q) ⊎ IsThis seat place r s p q
  pub before : (p : ℕ) (q : ReceiptView) → receipt_at old seat p ≡ Some q → p < place

pub get_push : (xs : List ReceiptView) (r : ReceiptView) (p : ℕ) (q : ReceiptView) → slice_get xs p ≡ Some q → slice_get (xs ++ r ∷ []) p ≡ Some q
get_push [] r p q e = cc
get_push (x ∷ xs) r zero q e = e
get_push (x ∷ xs) r (suc p) q e = get_push xs r p q e

pub get_pushed : (xs : List ReceiptView) (r : ReceiptView) → slice_get (xs ++ r ∷ []) (length xs) ≡ Some r
get_pushed [] r = refl
get_pushed (x ∷ xs) r = get_pushed xs r

get_only : (xs : List ReceiptView) (r : ReceiptView) (p : ℕ) (q : ReceiptView) → slice_get (xs ++ r ∷ []) p ≡ Some q → (slice_get xs p ≡ Some q) ⊎ ((p ≡ length xs) × (q ≡ r))
get_only [] r zero q e = inr (refl, cc)
get_only [] r (suc p) q e = inl e
get_only (x ∷ xs) r zero q e = inl e
get_only (x ∷ xs) r (suc p) q e = elim (get_only xs r p q e) [ inl a ↦ inl a | inr b ↦ inr (ap suc b.0, b.1) ]

get_before : (xs : List ReceiptView) (p : ℕ) (q : ReceiptView) → slice_get xs p ≡ Some q → p < length xs
get_before [] p q e = cc
get_before (x ∷ xs) zero q e = omega arith
get_before (x ∷ xs) (suc p) q e = let h : p < length xs = get_before xs p q e in omega arith

kept_by : (lists : List (List ReceiptView)) (xs : List ReceiptView) (r : ReceiptView) (s p : ℕ) (q : ReceiptView)
    → receipt_at (lists ++ xs ∷ []) s p ≡ Some q → receipt_at (lists ++ (xs ++ r ∷ []) ∷ []) s p ≡ Some q
kept_by [] xs r zero p q e = get_push xs r p q e
kept_by [] xs r (suc s) p q e = e
kept_by (l ∷ ls) xs r zero p q e = e
kept_by (l ∷ ls) xs r (suc s) p q e = kept_by ls xs r s p q e

added_to : (lists : List (List ReceiptView)) (xs : List ReceiptView) (r : ReceiptView) → receipt_at (lists ++ (xs ++ r ∷ []) ∷ []) (length lists) (length xs) ≡ Some r
added_to [] xs r = get_pushed xs r
added_to (l ∷ ls) xs r = added_to ls xs r

only_in : (lists : List (List ReceiptView)) (xs : List ReceiptView) (r : ReceiptView) (s p : ℕ) (q : ReceiptView)
    → receipt_at (lists ++ (xs ++ r ∷ []) ∷ []) s p ≡ Some q → (receipt_at (lists ++ xs ∷ []) s p ≡ Some q) ⊎ IsThis (length lists) (length xs) r s p q
only_in [] xs r zero p q e = elim (get_only xs r p q e) [ inl a ↦ inl a | inr b ↦ inr (record { seat_is = refl; place_is = b.0; receipt_is = b.1 }) ]
only_in [] xs r (suc s) p q e = inl e
only_in (l ∷ ls) xs r zero p q e = inl e
only_in (l ∷ ls) xs r (suc s) p q e =
    elim (only_in ls xs r s p q e) [ inl a ↦ inl a | inr b ↦ inr (record { seat_is = ap suc b.seat_is; place_is = b.place_is; receipt_is = b.receipt_is }) ]

pub last_list : (lists : List (List ReceiptView)) (xs : List ReceiptView) (p : ℕ) → receipt_at (lists ++ xs ∷ []) (length lists) p ≡ slice_get xs p
last_list [] xs p = refl
last_list (l ∷ ls) xs p = last_list ls xs p

pub one_more : (lists : List (List ReceiptView)) (xs : List ReceiptView) (r : ReceiptView) → HaveOneMore (lists ++ xs ∷ []) (lists ++ (xs ++ r ∷ []) ∷ []) (length lists) (length xs) r
one_more lists xs r = record {
  kept = kept_by lists xs r;
  added = added_to lists xs r;
  only = only_in lists xs r;
  before = λ p q e. get_before xs p q (sym (last_list lists xs p) ∙ e);
}

pub empty_list : (lists : List (List ReceiptView)) (s p : ℕ) → receipt_at (lists ++ [] ∷ []) s p ≡ receipt_at lists s p
empty_list [] zero p = refl
empty_list [] (suc s) p = refl
empty_list (l ∷ ls) zero p = refl
empty_list (l ∷ ls) (suc s) p = empty_list ls s p

-- a receipt that was astray is so with one more
astray_kept : (h : List Event) (old new : List (List ReceiptView)) (seat place : ℕ) (r : ReceiptView) (n : ℕ) → HaveOneMore old new seat place r → IsAstray h old n → IsAstray h new n
astray_kept h old new seat place r n more (Foreign s p q e is no_such) = Foreign s p q (more.kept s p q e) is no_such
astray_kept h old new seat place r n more (Late s i p q t lt a b is low) = Late s i p q t lt (more.kept s i q a) (more.kept s p t b) is low
astray_kept h old new seat place r n more (Twice s o p i q t ne a b is also) = Twice s o p i q t ne (more.kept s p q a) (more.kept o i t b) is also

receipted_kept : (old new : List (List ReceiptView)) (seat place : ℕ) (r : ReceiptView) (n : ℕ) → HaveOneMore old new seat place r → IsReceipted old n → IsReceipted new n
receipted_kept old new seat place r n more a = record { seat = a.seat; place = a.place; receipt = a.receipt; there = more.kept a.seat a.place a.receipt a.there; number = a.number }

-- below the lower of a number and another is below both
below_lower : (n k : ℕ) (lowest : Option ℕ) → k < lower_of n lowest → (k < n) × IsBefore k lowest
below_lower n k None h = (h, tt)
below_lower n k (Some m) h = (omega arith, omega arith)

-- the lower is one of both
lower_astray : (h : List Event) (lists : List (List ReceiptView)) (n : ℕ) (lowest : Option ℕ) → IsAstray h lists n → IfSome lowest (IsAstray h lists) → IsAstray h lists (lower_of n lowest)
lower_astray h lists n None a b = a
lower_astray h lists n (Some m) a b = elim (cases_lt m n) [ inl lt ↦ (let e : min n m ≡ m = omega arith in rw e b) | inr ge ↦ (let e : min n m ≡ n = omega arith in rw e a) ]

astray_if : (h : List Event) (old new : List (List ReceiptView)) (seat place : ℕ) (r : ReceiptView) (lowest : Option ℕ)
    → HaveOneMore old new seat place r → IfSome lowest (IsAstray h old) → IfSome lowest (IsAstray h new)
astray_if h old new seat place r None more a = tt
astray_if h old new seat place r (Some m) more a = astray_kept h old new seat place r m more a

not_this : (r : ReceiptView) (lowest : Option ℕ) (q : ReceiptView) → q.number < lower_of r.number lowest → q ≡ r → ⊥
not_this r lowest q lt is =
    let b : q.number < r.number = (below_lower r.number q.number lowest lt).0 in
    let e : q.number ≡ r.number = ap (λ (x : ReceiptView). x.number) is in
    omega arith

-- one receipt more is astray
pub step_lost : (h : List Event) (old new : List (List ReceiptView)) (marks : List Bool) (lowest : Option ℕ) (seat place : ℕ) (r : ReceiptView)
    → HaveOneMore old new seat place r → IsAudited h old marks lowest → IsAstray h new r.number → IsAudited h new marks (Some (lower_of r.number lowest))
step_lost h old new marks lowest seat place r more a lost = record {
  marked = λ n m. receipted_kept old new seat place r n more (a.marked n m);
  every = λ s p q e lt. elim (more.only s p q e) [
    | inl o ↦ a.every s p q o (below_lower r.number q.number lowest lt).1
    | inr this ↦ absurd (not_this r lowest q lt this.receipt_is)
  ];
  stands = λ s p q e lt. elim (more.only s p q e) [
    | inl o ↦ a.stands s p q o (below_lower r.number q.number lowest lt).1
    | inr this ↦ absurd (not_this r lowest q lt this.receipt_is)
  ];
  above = λ s i p q t lt eq et low. elim (more.only s p t et) [
    | inl o ↦ elim (more.only s i q eq) [
      | inl u ↦ a.above s i p q t lt u o (below_lower r.number t.number lowest low).1
      | inr this ↦ absurd (
          let at : receipt_at old seat p ≡ Some t = subst (λ (x : ℕ). receipt_at old x p ≡ Some t) this.seat_is o in
          let b : p < place = more.before p t at in
          let i_is : i ≡ place = this.place_is in
          omega arith
          )
    ]
    | inr this ↦ absurd (not_this r lowest t low this.receipt_is)
  ];
  once = λ s o p i q t eq et is low. elim (more.only s p q eq) [
    | inl u ↦ elim (more.only o i t et) [
      | inl v ↦ a.once s o p i q t u v is (below_lower r.number q.number lowest low).1
      | inr this ↦ absurd (not_this r lowest t (subst (λ (x : ℕ). x < lower_of r.number lowest) is low) this.receipt_is)
    ]
    | inr this ↦ absurd (not_this r lowest q low this.receipt_is)
  ];
  astray = lower_astray h new r.number lowest lost (astray_if h old new seat place r lowest more a.astray);
}

-- a mark more
mark_other : (marks : List Bool) (k n : ℕ) → n ≢ k → is_marked (set marks k true) n ≡ is_marked marks n
mark_other marks k n ne = get_or-set_other marks k n true false ne

mark_same : (marks : List Bool) (k n : ℕ) → k < length marks → n ≡ k → is_marked (set marks k true) n ≡ true
mark_same marks k n lt is = rw is (get_or-set_same marks k true false lt)

mark_kept : (marks : List Bool) (k n : ℕ) → k < length marks → is_marked marks n ≡ true → is_marked (set marks k true) n ≡ true
mark_kept marks k n lt m = elim (cases_eq n k) [ inl e ↦ mark_same marks k n lt e | inr ne ↦ mark_other marks k n ne ∙ m ]

not_marked : (marks : List Bool) (r q : ReceiptView) → is_marked marks r.number ≡ false → q.number ≡ r.number → is_marked marks q.number ≡ true → ⊥
not_marked marks r q fresh is m = let e : is_marked marks r.number ≡ true = subst (λ (x : ℕ). is_marked marks x ≡ true) is m in cc

-- one receipt more is in order
pub step_marked : (h : List Event) (old new : List (List ReceiptView)) (marks : List Bool) (lowest : Option ℕ) (seat place : ℕ) (r : ReceiptView)
    → HaveOneMore old new seat place r → IsAudited h old marks lowest → Stands h r → is_marked marks r.number ≡ false → r.number < length marks
    → ((p : ℕ) (q : ReceiptView) → receipt_at old seat p ≡ Some q → q.number < r.number) → IsAudited h new (set marks r.number true) lowest
step_marked h old new marks lowest seat place r more a stands fresh lt high = record {
  marked = λ n m. elim (cases_eq n r.number) [
    | inl e ↦ record { seat = seat; place = place; receipt = r; there = more.added; number = sym e }
    | inr ne ↦ receipted_kept old new seat place r n more (a.marked n (sym (mark_other marks r.number n ne) ∙ m))
  ];
  every = λ s p q e low. elim (more.only s p q e) [
    | inl o ↦ mark_kept marks r.number q.number lt (a.every s p q o low)
    | inr this ↦ mark_same marks r.number q.number lt (ap (λ (x : ReceiptView). x.number) this.receipt_is)
  ];
  stands = λ s p q e low. elim (more.only s p q e) [
    | inl o ↦ a.stands s p q o low
    | inr this ↦ subst (λ (x : ReceiptView). Stands h x) (sym this.receipt_is) stands
  ];
  above = λ s i p q t before eq et low. elim (more.only s i q eq) [
    | inl u ↦ elim (more.only s p t et) [
      | inl o ↦ a.above s i p q t before u o low
      | inr this ↦
          let at : receipt_at old seat i ≡ Some q = subst (λ (x : ℕ). receipt_at old x i ≡ Some q) this.seat_is u in
          let b : q.number < r.number = high i q at in
          subst (λ (x : ReceiptView). q.number < x.number) (sym this.receipt_is) b
    ]
    | inr this ↦ elim (more.only s p t et) [
      | inl o ↦ absurd (
          let at : receipt_at old seat p ≡ Some t = subst (λ (x : ℕ). receipt_at old x p ≡ Some t) this.seat_is o in
          let b : p < place = more.before p t at in
          let i_is : i ≡ place = this.place_is in
          omega arith
          )
      | inr that ↦ absurd (let i_is : i ≡ place = this.place_is in let p_is : p ≡ place = that.place_is in omega arith)
    ]
  ];
  once = λ s o p i q t eq et is low. elim (more.only s p q eq) [
    | inl u ↦ elim (more.only o i t et) [
      | inl v ↦ a.once s o p i q t u v is low
      | inr this ↦ absurd (not_marked marks r q fresh (is ∙ ap (λ (x : ReceiptView). x.number) this.receipt_is) (a.every s p q u low))
    ]
    | inr this ↦ elim (more.only o i t et) [
      | inl v ↦ absurd (not_marked marks r t fresh (sym is ∙ ap (λ (x : ReceiptView). x.number) this.receipt_is) (a.every o i t v (subst (λ (x : ℕ). IsBefore x lowest) is low)))
      | inr that ↦ this.seat_is ∙ sym that.seat_is
    ]
  ];
  astray = astray_if h old new seat place r lowest more a.astray;
}

-- a receipt of a list whose number isn't below this one
pub record HasAtLeast (xs : List ReceiptView) (n : ℕ) : Type 0 where
  pub place : ℕ
  pub receipt : ReceiptView
  pub there : slice_get xs place ≡ Some receipt
  pub high : n ≤ receipt.number

-- the number, if there is one, is the highest of a list's receipts
pub record IsHighest (xs : List ReceiptView) (highest : Option ℕ) : Type 0 where
  pub above : (n p : ℕ) (q : ReceiptView) → IsAbove n highest → slice_get xs p ≡ Some q → q.number < n
  pub one : (n : ℕ) → (IsAbove n highest → ⊥) → HasAtLeast xs n

none_there : (p : ℕ) (q : ReceiptView) → slice_get [] p ≡ Some q → ⊥
none_there p q e = cc

pub highest_first : IsHighest [] None
highest_first = record { above = λ n p q a e. absurd (none_there p q e); one = λ n no_above. absurd (no_above tt) }

higher_above : (n k : ℕ) (highest : Option ℕ) → higher_of n highest < k → (n < k) × IsAbove k highest
higher_above n k None h = (h, tt)
higher_above n k (Some m) h = (omega arith, omega arith)

not_above : (n k : ℕ) (highest : Option ℕ) → (higher_of n highest < k → ⊥) → n < k → IsAbove k highest → ⊥
not_above n k None no_less lt above = no_less lt
not_above n k (Some m) no_less lt above = no_less (omega arith)

has_kept : (xs : List ReceiptView) (r : ReceiptView) (n : ℕ) → HasAtLeast xs n → HasAtLeast (xs ++ r ∷ []) n
has_kept xs r n a = record { place = a.place; receipt = a.receipt; there = get_push xs r a.place a.receipt a.there; high = a.high }

pub highest_next : (xs : List ReceiptView) (highest : Option ℕ) (r : ReceiptView) → IsHighest xs highest → IsHighest (xs ++ r ∷ []) (Some (higher_of r.number highest))
highest_next xs highest r a = record {
  above = λ n p q high e. elim (get_only xs r p q e) [
    | inl o ↦ a.above n p q (higher_above r.number n highest high).1 o
    | inr b ↦ subst (λ (x : ReceiptView). x.number < n) (sym b.1) (higher_above r.number n highest high).0
  ];
  one = λ n no_above. elim (cases_lt r.number n) [
    | inl lt ↦ has_kept xs r n (a.one n (not_above r.number n highest no_above lt))
    | inr ge ↦ record { place = length xs; receipt = r; there = get_pushed xs r; high = ge }
  ];
}

is_above_or : (n : ℕ) (highest : Option ℕ) → IsAbove n highest ⊎ (IsAbove n highest → ⊥)
is_above_or n None = inl tt
is_above_or n (Some m) = elim (cases_lt m n) [ inl lt ↦ inl lt | inr ge ↦ inr (λ (lt : m < n). omega arith) ]

is_marked_or : (b : Bool) → (b ≡ true) ⊎ (b ≡ false)
is_marked_or true = inl refl
is_marked_or false = inr refl

-- below every receipt of the list so far
highs : (lists : List (List ReceiptView)) (xs : List ReceiptView) (highest : Option ℕ) (n : ℕ) → IsHighest xs highest
    → IsAbove n highest → (p : ℕ) (q : ReceiptView) → receipt_at (lists ++ xs ∷ []) (length lists) p ≡ Some q → q.number < n
highs lists xs highest n a above p q e = a.above n p q above (sym (last_list lists xs p) ∙ e)

-- a list goes on by a receipt that is in order
pub list_marked : (h : List Event) (marks_before : List Bool) (before : Option ℕ) (xs : List ReceiptView) (marks : List Bool) (lowest highest : Option ℕ) (r : ReceiptView)
    → GoesOnBy h marks_before before xs marks lowest → IsHighest xs highest → length h ≤ length marks
    → IsNext h r highest marks → GoesOnBy h marks_before before (xs ++ r ∷ []) (set marks r.number true) lowest
list_marked h marks_before before xs marks lowest highest r on high room next lists a =
    let within : r.number < length h = slice_get_within h r.number (Leave r.worker) next.0.0 in
    let inside : r.number < length marks = omega arith in
    step_marked h (lists ++ xs ∷ []) (lists ++ (xs ++ r ∷ []) ∷ []) marks lowest (length lists) (length xs) r (one_more lists xs r) (on lists a) next.0 next.2 inside
    (highs lists xs highest r.number high next.1)

late : (h : List Event) (lists : List (List ReceiptView)) (xs : List ReceiptView) (r : ReceiptView) → HasAtLeast xs r.number → IsAstray h (lists ++ (xs ++ r ∷ []) ∷ []) r.number
late h lists xs r a =
    Late (length lists) a.place (length xs) a.receipt r (get_before xs a.place a.receipt a.there) (last_list lists (xs ++ r ∷ []) a.place ∙ get_push xs r a.place a.receipt a.there)
    (one_more lists xs r).added refl a.high

twice : (h : List Event) (lists : List (List ReceiptView)) (xs : List ReceiptView) (highest : Option ℕ) (r : ReceiptView) → IsHighest xs highest
    → IsAbove r.number highest → IsReceipted (lists ++ xs ∷ []) r.number → IsAstray h (lists ++ (xs ++ r ∷ []) ∷ []) r.number
twice h lists xs highest r high above a =
    elim (cases_eq (length lists) a.seat) [
      | inl same ↦ absurd (
          let at : receipt_at (lists ++ xs ∷ []) (length lists) a.place ≡ Some a.receipt = subst (λ (x : ℕ). receipt_at (lists ++ xs ∷ []) x a.place ≡ Some a.receipt) (sym same) a.there in
          let lt : a.receipt.number < r.number = highs lists xs highest r.number high above a.place a.receipt at in
          let is : a.receipt.number ≡ r.number = a.number in
          omega arith
          )
      | inr apart ↦ Twice (length lists) a.seat (length xs) a.place r a.receipt apart (one_more lists xs r).added ((one_more lists xs r).kept a.seat a.place a.receipt a.there) refl a.number
    ]

-- why a receipt that isn't in order is astray
astray_by : (h : List Event) (lists : List (List ReceiptView)) (xs : List ReceiptView) (marks : List Bool) (lowest highest : Option ℕ) (r : ReceiptView)
    → IsAudited h (lists ++ xs ∷ []) marks lowest → IsHighest xs highest → (IsNext h r highest marks → ⊥) → IsAstray h (lists ++ (xs ++ r ∷ []) ∷ []) r.number
astray_by h lists xs marks lowest highest r a high no_next =
    elim (is_above_or r.number highest) [
      | inr low ↦ late h lists xs r (high.one r.number low)
      | inl above ↦ elim (is_marked_or (is_marked marks r.number)) [
        | inl m ↦ twice h lists xs highest r high above (a.marked r.number m)
        | inr fresh ↦ Foreign (length lists) (length xs) r (one_more lists xs r).added refl (λ stands. no_next (stands, above, fresh))
      ]
    ]

-- a list goes on by a receipt that isn't
pub list_refused : (h : List Event) (marks_before : List Bool) (before : Option ℕ) (xs : List ReceiptView) (marks : List Bool) (lowest highest : Option ℕ) (r : ReceiptView)
    → GoesOnBy h marks_before before xs marks lowest → IsHighest xs highest → (IsNext h r highest marks → ⊥) → GoesOnBy h marks_before before (xs ++ r ∷ []) marks (Some (lower_of r.number lowest))
list_refused h marks_before before xs marks lowest highest r on high no_next lists a =
    step_lost h (lists ++ xs ∷ []) (lists ++ (xs ++ r ∷ []) ∷ []) marks lowest (length lists) (length xs) r (one_more lists xs r) (on lists a)
    (astray_by h lists xs marks lowest highest r (on lists a) high no_next)

nowhere : (s p : ℕ) (r : ReceiptView) → receipt_at [] s p ≡ Some r → ⊥
nowhere s p r e = cc

-- no list, and then an empty one
pub audited_first : (h : List Event) (marks : List Bool) → ((n : ℕ) → is_marked marks n ≡ false) → IsAudited h [] marks None
audited_first h marks clear = record {
  marked = λ n m. absurd (let e : is_marked marks n ≡ false = clear n in cc);
  every = λ s p r e low. absurd (nowhere s p r e);
  stands = λ s p r e low. absurd (nowhere s p r e);
  above = λ s i p q r lt a b low. absurd (nowhere s p r b);
  once = λ s o p i r q a b is low. absurd (nowhere s p r a);
  astray = tt;
}

none_more : (lists : List (List ReceiptView)) (s p : ℕ) (r : ReceiptView) → receipt_at (lists ++ [] ∷ []) s p ≡ Some r → receipt_at lists s p ≡ Some r
none_more lists s p r e = sym (empty_list lists s p) ∙ e

none_less : (lists : List (List ReceiptView)) (s p : ℕ) (r : ReceiptView) → receipt_at lists s p ≡ Some r → receipt_at (lists ++ [] ∷ []) s p ≡ Some r
none_less lists s p r e = empty_list lists s p ∙ e

astray_still : (h : List Event) (lists : List (List ReceiptView)) (lowest : Option ℕ) → IfSome lowest (IsAstray h lists) → IfSome lowest (IsAstray h (lists ++ [] ∷ []))
astray_still h lists None a = tt
astray_still h lists (Some n) (Foreign s p q e is no_such) = Foreign s p q (none_less lists s p q e) is no_such
astray_still h lists (Some n) (Late s i p q t lt a b is low) = Late s i p q t lt (none_less lists s i q a) (none_less lists s p t b) is low
astray_still h lists (Some n) (Twice s o p i q t ne a b is also) = Twice s o p i q t ne (none_less lists s p q a) (none_less lists o i t b) is also

pub list_first : (h : List Event) (marks : List Bool) (lowest : Option ℕ) → GoesOnBy h marks lowest [] marks lowest
list_first h marks lowest lists a = record {
  marked = λ n m. let b = a.marked n m in record { seat = b.seat; place = b.place; receipt = b.receipt; there = none_less lists b.seat b.place b.receipt b.there; number = b.number };
  every = λ s p r e low. a.every s p r (none_more lists s p r e) low;
  stands = λ s p r e low. a.stands s p r (none_more lists s p r e) low;
  above = λ s i p q r lt x y low. a.above s i p q r lt (none_more lists s i q x) (none_more lists s p r y) low;
  once = λ s o p i r q x y is low. a.once s o p i r q (none_more lists s p r x) (none_more lists o i q y) is low;
  astray = astray_still h lists lowest a.astray;
}

-- what is in order below a number
in_order : (h : List Event) (lists : List (List ReceiptView)) (marks : List Bool) (lowest : Option ℕ) (n : ℕ) → IsAudited h lists marks lowest
    → IsBefore n lowest → ((w : ℕ) → slice_get h n ≡ Some (Leave w) → is_marked marks n ≡ true) → IsInOrder h lists n
in_order h lists marks lowest n a low every = record {
  stands = λ s p r e is. a.stands s p r e (subst (λ (x : ℕ). IsBefore x lowest) (sym is) low);
  above = λ s i p q r lt x y is. subst (λ (k : ℕ). q.number < k) is (a.above s i p q r lt x y (subst (λ (k : ℕ). IsBefore k lowest) (sym is) low));
  once = λ s o p i r q x y is also. a.once s o p i r q x y (is ∙ sym also) (subst (λ (k : ℕ). IsBefore k lowest) (sym is) low);
  receipted = λ w e. a.marked n (every w e);
}

-- a Leave that isn't marked, below all that is astray, has no receipt
missing : (h : List Event) (lists : List (List ReceiptView)) (marks : List Bool) (lowest : Option ℕ) (n : ℕ)
    → IsAudited h lists marks lowest → IsBefore n lowest → is_marked marks n ≡ false → IsReceipted lists n → ⊥
missing h lists marks lowest n a low fresh b =
    let m : is_marked marks b.receipt.number ≡ true = a.every b.seat b.place b.receipt b.there (subst (λ (k : ℕ). IsBefore k lowest) (sym b.number) low) in
    let e : is_marked marks n ≡ true = subst (λ (k : ℕ). is_marked marks k ≡ true) b.number m in
    cc

-- the lower of what was found first unmarked and of what is astray
abbrev pub lowest_of : Option ℕ → Option ℕ → Option ℕ
lowest_of None lowest = lowest
lowest_of (Some n) lowest = Some (lower_of n lowest)

pub lowest_is : (h : List Event) (lists : List (List ReceiptView)) (marks : List Bool) (lowest unmarked : Option ℕ)
    → IsAudited h lists marks lowest → IsFirstUnmarked h marks unmarked → IsLowest h lists (lowest_of unmarked lowest)
lowest_is h lists marks None None a every = λ n. in_order h lists marks None n a tt (every n)
lowest_is h lists marks (Some m) None a every = (Astray a.astray, λ n lt. in_order h lists marks (Some m) n a lt (every n))
lowest_is h lists marks None (Some u) a first = (Missing first.0.0 first.0.1 (missing h lists marks None u a tt first.1), λ n lt. in_order h lists marks None n a tt (λ w e. first.2 n w lt e))
lowest_is h lists marks (Some m) (Some u) a first =
    elim (cases_lt u m) [
      | inl lt ↦ (let e : min u m ≡ u = omega arith in rw e
          (Missing first.0.0 first.0.1 (missing h lists marks (Some m) u a lt first.1), λ n l. in_order h lists marks (Some m) n a (omega arith) (λ w k. first.2 n w l k)))
      | inr ge ↦ (let e : min u m ≡ m = omega arith in rw e (Astray a.astray, λ n l. in_order h lists marks (Some m) n a l (λ w k. first.2 n w (omega arith) k)))
    ]

none_marked : (count n : ℕ) → is_marked (replicate count false) n ≡ false
none_marked zero n = refl
none_marked (suc count) zero = refl
none_marked (suc count) (suc n) = none_marked count n

-- a table without a mark
pub unmarked : (marks : List Bool) (n : ℕ) → marks ≡ replicate (length marks) false → is_marked marks n ≡ false
unmarked marks n e = ap (λ (m : List Bool). is_marked m n) e ∙ none_marked (length marks) n
