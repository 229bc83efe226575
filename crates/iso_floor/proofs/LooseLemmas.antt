-- How many nodes are loose when one of them gets another place.
use Rattle.std.proofs.Common.{◌≡◌, ◌≢◌, ℕ, zero, suc, ◌+◌, ◌<◌, ◌≤◌, ◌==◌, ◌^◌, List, Some, length, replicate, set, Bool, true, false, ◌&&◌, not, cond, ap, ap₂, sym, ◌∙◌, inl, inr, arith, refl, subst}
use Rattle.std.proofs.lemmas.Bool.{cases_eq}
use Rattle.std.proofs.lemmas.List.{get_or-set_same, get_or-set_other, length-set}
use Rattle.iso_desk.specs.Places.{StandsIn, line_in, place_of}
use Rattle.iso_desk.specs.declared.line.Line.{Line}
use Rattle.iso_desk.specs.declared.place.Place.{Place}
use Rattle.iso_desk.specs.declared.place.Place.TheVariants.{Closed, InLine, Loose, Open, Over, With}
use Rattle.iso_floor.specs.Schedulers.{is_loose, loose_in}
use Rattle.iso_plan.proofs.HeldLemmas.{count-more, count-none, count-small}
use Rattle.iso_plan.proofs.PathLemmas.{eq_not, eq_same}
use Rattle.iso_plan.specs.HeldNodes.{count}

pub all-closed : (n m : ℕ) → place_of (replicate n Closed) m ≡ Closed
all-closed zero m = refl
all-closed (suc n) zero = refl
all-closed (suc n) (suc m) = all-closed n m

not-in-line : (p : Place) (l : Line) → line_in p ≡ Some l → is_loose p ≡ false
not-in-line (InLine s) l e = refl
not-in-line Closed l e = refl
not-in-line Loose l e = cc
not-in-line (With w) l e = refl
not-in-line Open l e = refl
not-in-line Over l e = refl

same-count : (p q : ℕ → Bool) (n : ℕ) → ((m : ℕ) → p m ≡ q m) → count p n ≡ count q n
same-count p q zero same = refl
same-count p q (suc n) same = ap₂ (λ (x : ℕ) (b : Bool). x + cond b 1 0) (same-count p q n same) (same n)

-- nodes whose places pass a test
module _ (test : Place → Bool) where
  abbrev pub passing : List Place → ℕ
  passing ps = count (λ n. test (place_of ps n)) (length ps)

  -- another node's does
  abbrev others : List Place → ℕ → ℕ → Bool
  others ps n m = not (m == n) && test (place_of ps m)

  not-itself : (ps : List Place) (n : ℕ) → others ps n n ≡ false
  not-itself ps n = rw (eq_same n) refl

  other : (ps : List Place) (n m : ℕ) → m ≢ n → others ps n m ≡ test (place_of ps m)
  other ps n m apart = rw (eq_not m n apart) refl

  pub split : (ps : List Place) (n : ℕ) → n < length ps → passing ps ≡ count (others ps n) (length ps) + cond (test (place_of ps n)) 1 0
  split ps n h = count-more (others ps n) (λ m. test (place_of ps m)) (length ps) n h (not-itself ps n) (other ps n)

  -- the others are the same
  others-stay : (ps : List Place) (n : ℕ) (p : Place) (m : ℕ) → others (set ps n p) n m ≡ others ps n m
  others-stay ps n p m =
      elim (cases_eq m n) [
        | inl same ↦ ap (others (set ps n p) n) same ∙ not-itself (set ps n p) n ∙ sym (ap (others ps n) same ∙ not-itself ps n)
        | inr apart ↦ ap (λ (q : Place). not (m == n) && test q) (get_or-set_other ps n m p Closed apart)
      ]

  -- a node gets another place
  pub count-moved : (ps : List Place) (n : ℕ) (p : Place) → n < length ps → passing (set ps n p) + cond (test (place_of ps n)) 1 0 ≡ passing ps + cond (test p) 1 0
  count-moved ps n p h =
      let more : n < length (set ps n p) = rw (length-set ps n p) h in
      let new : passing (set ps n p) ≡ count (others ps n) (length ps) + cond (test p) 1 0 =
      split (set ps n p) n more
      ∙ ap₂ (λ (x y : ℕ). x + y)
      (ap (count (others (set ps n p) n)) (length-set ps n p) ∙ same-count (others (set ps n p) n) (others ps n) (length ps) (others-stay ps n p))
      (ap (λ (q : Place). cond (test q) 1 0) (get_or-set_same ps n p Closed h)) in
      let old = split ps n h in
      omega arith

-- a node gets another place
pub loose-moved : (ps : List Place) (n : ℕ) (p : Place) → n < length ps
    → loose_in (set ps n p) + cond (is_loose (place_of ps n)) 1 0 ≡ loose_in ps + cond (is_loose p) 1 0
loose-moved = count-moved is_loose

-- the count that is kept when a node gets another place
pub recount : (ps : List Place) (n : ℕ) (p : Place) (loose r : ℕ) (was is : Bool) → n < length ps → loose ≡ loose_in ps → was ≡ is_loose (place_of ps n) → is ≡ is_loose p
    → r + cond was 1 0 ≡ loose + cond is 1 0 → r ≡ loose_in (set ps n p)
recount ps n p loose r was is h l w i e =
    let f : r + cond (is_loose (place_of ps n)) 1 0 ≡ loose + cond (is_loose p) 1 0 =
    subst (λ (b : Bool). r + cond (is_loose (place_of ps n)) 1 0 ≡ loose + cond b 1 0) i (subst (λ (b : Bool). r + cond b 1 0 ≡ loose + cond is 1 0) w e) in
    let m = loose-moved ps n p h in
    omega arith

-- who is loose is counted
pub was-counted : (ps : List Place) (n loose : ℕ) (was : Bool) → n < length ps → loose ≡ loose_in ps → was ≡ is_loose (place_of ps n) → cond was 1 0 ≤ loose
was-counted ps n loose was h l w =
    let e = split is_loose ps n h in
    subst (λ (b : Bool). cond b 1 0 ≤ loose) (sym w) (omega arith)

-- no more nodes are loose than there are
pub has-room : (ps : List Place) (n loose : ℕ) (p : Place) (was is : Bool) → n < length ps → length ps < 2 ^ 64 → loose ≡ loose_in ps → was ≡ is_loose (place_of ps n) → is ≡ is_loose p
    → loose + cond is 1 0 < 2 ^ 64 + cond was 1 0
has-room ps n loose p was is h few l w i =
    let m = loose-moved ps n p h in
    let long = length-set ps n p in
    let top : loose_in (set ps n p) ≤ length (set ps n p) = count-small (λ k. is_loose (place_of (set ps n p) k)) (length (set ps n p)) in
    subst (λ (b : Bool). loose + cond is 1 0 < 2 ^ 64 + cond b 1 0) (sym w)
    (subst (λ (b : Bool). loose + cond b 1 0 < 2 ^ 64 + cond (is_loose (place_of ps n)) 1 0) (sym i) (omega arith))

-- where all are closed, none is loose
pub none-loose : (n : ℕ) → loose_in (replicate n Closed) ≡ 0
none-loose n = count-none (λ k. is_loose (place_of (replicate n Closed) k)) (length (replicate n Closed)) (λ m h. ap is_loose (all-closed n m))

-- who leaves a line is counted as loose, and there is room for it
pub left-line : (ps : List Place) (n : ℕ) (l : Line) (loose r : ℕ) → n < length ps → StandsIn ps l n → loose ≡ loose_in ps → r + 0 ≡ loose + 1 → r ≡ loose_in (set ps n Loose)
left-line ps n l loose r h s e more = recount ps n Loose loose r false true h e (sym (not-in-line (place_of ps n) l s)) refl more

pub line-room : (ps : List Place) (n : ℕ) (l : Line) (loose : ℕ) → n < length ps → length ps < 2 ^ 64 → StandsIn ps l n → loose ≡ loose_in ps → loose + 1 < 2 ^ 64 + 0
line-room ps n l loose h few s e = has-room ps n loose Loose false true h few e (sym (not-in-line (place_of ps n) l s)) refl
