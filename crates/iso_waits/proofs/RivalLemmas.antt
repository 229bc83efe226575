-- The lowest of some stays is the lowest node that is in the way.
use Rattle.std.proofs.Common.{◌≡◌, ℕ, zero, suc, ◌+◌, ◌-◌, ◌<◌, ◌≤◌, List, [], ◌∷◌, length, Option, Some, None, Bool, true, false, ◌||◌, ◌&&◌, ◌==◌, cond, filter, min, unwrap_or, ap, ap₂, sym, ◌∙◌, refl, arith, inl, inr, ◌⊎◌}
use Rattle.std.proofs.lemmas.Bool.{cases_eq, cases_lt}
use Rattle.std.proofs.lemmas.List.Elements.{All-append, All-cons, All-filter, All-head, All-nil, All-tail}
use Rattle.std.proofs.lemmas.List.Folds.{list_any-append}
use Rattle.std.proofs.lemmas.List.Sorted.{list_any-IsPermutation, All-permutation}
use Rattle.std.specs.List.{All, list_any}
use Rattle.std.specs.List.Sorted.{IsPermutation}
use Rattle.std.specs.Option.{option_or}
use Rattle.iso_lifecycle.specs.declared.kind.BodyKind.TheVariants.{BeforeAll, AfterAll}
use Rattle.iso_plan.proofs.ConflictLemmas.{lowest-here, lowest-never, lowest-none, lowest-stays}
use Rattle.iso_plan.proofs.PathLemmas.{eq_not, eq_same}
use Rattle.iso_plan.specs.Conflicts.{is_in_the_way, lowest}
use Rattle.iso_plan.specs.Locks.{conflict}
use Rattle.iso_plan.specs.Tree.{Row}
use Rattle.iso_times.specs.declared.times.BodyTime.{BodyTime}
use Rattle.iso_waits.proofs.MomentLemmas.{lower-none}
use Rattle.iso_waits.specs.Moments.{all_of, goes_on, is_at, lower_of, lowest_at, waited, waits_within}
use Rattle.iso_waits.specs.Rivals.{IsAmong, is_rival, rivals}
use Rattle.iso_waits.specs.Stays.{body_time, holder, is_entered, is_within, listed_stay, stayed, stay_of, stays_below}
use Rattle.iso_waits.specs.declared.stay.Stay.{Stay}

-- two tests that agree have one lowest number
lowest-same : (f g : ℕ → Bool) (n : ℕ) → ((m : ℕ) → m < n → f m ≡ g m) → lowest f n ≡ lowest g n
lowest-same f g zero same = refl
lowest-same f g (suc n) same =
    ap₂ (λ (o : Option ℕ) (b : Bool). option_or o (cond b (Some n) None)) (lowest-same f g n (λ m h. same m (omega arith))) (same n (omega arith))

some_by : (o : Option ℕ) (b : Bool) (n m : ℕ) → option_or o (cond b (Some n) None) ≡ Some m → (o ≡ Some m) ⊎ ((b ≡ true) × (n ≡ m))
some_by None true n m e = inr (refl, cc)
some_by None false n m e = absurd (cc)
some_by (Some k) b n m e = inl e

-- the lowest number that passes is below the bound, and passes
pub lowest-is : (f : ℕ → Bool) (n m : ℕ) → lowest f n ≡ Some m → (m < n) × (f m ≡ true)
lowest-is f zero m e = absurd (cc)
lowest-is f (suc n) m e =
    elim (some_by (lowest f n) (f n) n m e) [
      | inl before ↦ let is = lowest-is f n m before in (omega (arith, is.0), is.1)
      | inr here ↦ (omega (arith, here.1), ap f (sym here.1) ∙ here.0)
    ]

-- a test that one number more passes
joined : Bool → ℕ → (ℕ → Bool) → ℕ → Bool
joined b k r m = (b && k == m) || r m

joined-other : (k : ℕ) (r : ℕ → Bool) (m : ℕ) → m < k → joined true k r m ≡ r m
unfolding joined
joined-other k r m h = let apart : (k == m) ≡ false = eq_not k m (λ same. omega arith) in rw apart refl

joined-here : (k : ℕ) (r : ℕ → Bool) → joined true k r k ≡ true
unfolding joined
joined-here k r = rw (eq_same k) refl

later-one : (k n : ℕ) (r : ℕ → Bool) (o : Option ℕ) → lowest r n ≡ o → lowest r k ≡ None → Some k ≡ lower_of (Some k) o
later-one k n r None e none = refl
later-one k n r (Some j) e none =
    let is = lowest-is r n j e in
    let passes : r j ≡ true = is.1 in
    let from : k ≤ j = elim (cases_lt j k) [ inl below ↦ absurd (let fails = lowest-none r k j none below in cc) | inr above ↦ above ] in
    ap (λ (x : ℕ). Some x) (let m : k ≡ min k j = omega arith in m)

found-by : (k n : ℕ) (r : ℕ → Bool) (o : Option ℕ) → k < n → lowest r k ≡ o → lowest (joined true k r) n ≡ lower_of (Some k) (lowest r n)
found-by k n r None h e =
    let none : lowest (joined true k r) k ≡ None = lowest-same (joined true k r) r k (joined-other k r) ∙ e in
    lowest-stays (joined true k r) (k + 1) n k (lowest-here (joined true k r) k none (joined-here k r)) (omega arith)
    ∙ later-one k n r (lowest r n) refl e
found-by k n r (Some j) h e =
    let is = lowest-is r k j e in
    let low : j ≡ min k j = omega (arith, is.0) in
    lowest-stays (joined true k r) k n j (lowest-same (joined true k r) r k (joined-other k r) ∙ e) (omega arith)
    ∙ ap (λ (x : ℕ). Some x) low
    ∙ sym (ap (lower_of (Some k)) (lowest-stays r k n j e (omega arith)))

joined-none : (k n : ℕ) (r : ℕ → Bool) (m : ℕ) → m < n → joined false k r m ≡ r m
unfolding joined
joined-none k n r m h = refl

lowest-joined : (b : Bool) (k n : ℕ) (r : ℕ → Bool) → k < n → lowest (joined b k r) n ≡ lower_of (cond b (Some k) None) (lowest r n)
lowest-joined true k n r h = found-by k n r (lowest r k) h refl
lowest-joined false k n r h = lowest-same (joined false k r) r n (joined-none k n r) ∙ sym (lower-none (lowest r n))

-- whether a node stands among some stays at a moment
abbrev stands : ℕ → List Stay → ℕ → Bool
stands t ss m = list_any (λ (s : Stay). is_at t s && s.node == m) ss

stands-more : (t : ℕ) (s : Stay) (ss : List Stay) (n m : ℕ) → m < n → stands t (s ∷ ss) m ≡ joined (is_at t s) s.node (stands t ss) m
unfolding joined
stands-more t s ss n m h = refl

-- the lowest of some stays is the lowest number that stands among them
lowest-stands : (t n : ℕ) (ss : List Stay) → All (λ (s : Stay). s.node < n) ss → lowest_at t ss ≡ lowest (stands t ss) n
lowest-stands t n [] all = sym (lowest-never (stands t []) (λ m. refl) n)
lowest-stands t n (s ∷ ss) all =
    ap (lower_of (cond (is_at t s) (Some s.node) None)) (lowest-stands t n ss (All-tail (λ (s : Stay). s.node < n) s ss all))
    ∙ sym (lowest-joined (is_at t s) s.node n (stands t ss) (All-head (λ (s : Stay). s.node < n) s ss all))
    ∙ sym (lowest-same (stands t (s ∷ ss)) (joined (is_at t s) s.node (stands t ss)) n (stands-more t s ss n))

kept : (p q : Stay → Bool) (s : Stay) (ss : List Stay) (b : Bool) → q s ≡ b → list_any p (filter q ss) ≡ list_any (λ (s : Stay). q s && p s) ss
    → list_any p (filter q (s ∷ ss)) ≡ (b && p s || list_any (λ (s : Stay). q s && p s) ss)
kept p q s ss true e h = rw e (ap (λ (b : Bool). p s || b) h)
kept p q s ss false e h = rw e h

any-filter : (p q : Stay → Bool) (ss : List Stay) → list_any p (filter q ss) ≡ list_any (λ (s : Stay). q s && p s) ss
any-filter p q [] = refl
any-filter p q (s ∷ ss) = kept p q s ss (q s) refl (any-filter p q ss)

turned : (x a e : Bool) → ((x && (a && e)) || false) ≡ (e && (a && x))
turned true true true = refl
turned true true false = refl
turned true false true = refl
turned true false false = refl
turned false true true = refl
turned false true false = refl
turned false false true = refl
turned false false false = refl

and-false : (a : Bool) → false ≡ (a && false)
and-false true = refl
and-false false = refl

or-false : (a : Bool) → (a || false) ≡ a
or-false true = refl
or-false false = refl

module _ (t : ℕ) (q : ℕ → Bool) (bodies : List (Option BodyTime)) where
  abbrev is_that : ℕ → Stay → Bool
  is_that m s = q s.node && (is_at t s && s.node == m)

  own : (n m : ℕ) (first last : Option BodyTime) → list_any (is_that m) (listed_stay (stay_of n first last)) ≡ ((n == m) && (is_within t (stay_of n first last) && q n))
  own n m None last = and-false (n == m)
  own n m (Some first) last = turned (q n) (is_within t (stay_of n (Some first) last)) (n == m)

  own-at : (n m : ℕ) → list_any (is_that m) (listed_stay (stayed bodies n)) ≡ ((n == m) && (is_entered bodies t n && q n))
  own-at n m = own n m (body_time bodies n BeforeAll) (body_time bodies n AfterAll)

  own-other : (n m : ℕ) → (n ≡ m → ⊥) → list_any (is_that m) (listed_stay (stayed bodies n)) ≡ false
  own-other n m apart = own-at n m ∙ ap (λ (e : Bool). e && (is_entered bodies t n && q n)) (eq_not n m apart)

  past : (n m : ℕ) → n ≤ m → list_any (is_that m) (stays_below bodies n) ≡ false
  past zero m h = refl
  past (suc n) m h =
      list_any-append (is_that m) (stays_below bodies n) (listed_stay (stayed bodies n))
      ∙ ap₂ (λ (a b : Bool). a || b) (past n m (omega arith)) (own-other n m (λ same. omega arith))

  here : (n m : ℕ) → m < n → list_any (is_that m) (stays_below bodies n) ≡ (is_entered bodies t m && q m)
  here zero m h = absurd (omega arith)
  here (suc n) m h =
      list_any-append (is_that m) (stays_below bodies n) (listed_stay (stayed bodies n))
      ∙ elim (cases_eq n m) [
        | inl same ↦
            ap₂ (λ (a b : Bool). a || b) (past n m (omega arith)) (own-at n m)
            ∙ ap₂ (λ (e : Bool) (k : ℕ). e && (is_entered bodies t k && q k)) (ap (λ (k : ℕ). k == m) same ∙ eq_same m) same
        | inr other ↦
            ap₂ (λ (a b : Bool). a || b) (here n m (omega arith)) (own-other n m other) ∙ or-false (is_entered bodies t m && q m)
      ]

-- the lowest of a node's rivals is who is in its way
pub rivals-holder : (tree : List Row) (bodies : List (Option BodyTime)) (stays : List Stay) (n t : ℕ)
    → IsPermutation (stays_below bodies (length tree)) stays → All (IsAmong tree) stays → lowest_at t (rivals tree stays n) ≡ holder tree bodies n t
rivals-holder tree bodies stays n t all among =
    let q : ℕ → Bool = λ m. conflict tree m n in
    lowest-stands t (length tree) (rivals tree stays n) (All-filter (is_rival tree n) (IsAmong tree) stays among)
    ∙ lowest-same (stands t (rivals tree stays n)) (is_in_the_way tree (is_entered bodies t) n) (length tree)
    (λ m h. any-filter (λ (s : Stay). is_at t s && s.node == m) (is_rival tree n) stays
    ∙ sym (list_any-IsPermutation (is_that t q bodies m) (stays_below bodies (length tree)) stays all)
    ∙ here t q bodies (length tree) m h)

-- what is waited for is told by who is in the way at each moment
waited-same : (f g : ℕ → Option ℕ) → ((t : ℕ) → f t ≡ g t) → (from n : ℕ) → waited f from n ≡ waited g from n
waited-same f g same from zero = refl
waited-same f g same from (suc n) = ap₂ (goes_on (from + n) (from + n + 1)) (same (from + n)) (waited-same f g same from n)

pub waits-same : (f g : ℕ → Option ℕ) → ((t : ℕ) → f t ≡ g t) → (from until : ℕ) → waits_within f from until ≡ waits_within g from until
waits-same f g same from until = ap all_of (waited-same f g same from (until - from))

-- the stays of nodes with a number below n are of such nodes
own-below : (n k : ℕ) (first last : Option BodyTime) → n < k → All (λ (s : Stay). s.node < k) (listed_stay (stay_of n first last))
own-below n k None last h = All-nil (λ (s : Stay). s.node < k)
own-below n k (Some first) last h = All-cons (λ (s : Stay). s.node < k) (record { node = n; begin = first.begin; end = (unwrap_or last first).end }) [] h (All-nil (λ (s : Stay). s.node < k))

all-below : (bodies : List (Option BodyTime)) (n k : ℕ) → n ≤ k → All (λ (s : Stay). s.node < k) (stays_below bodies n)
all-below bodies zero k h = All-nil (λ (s : Stay). s.node < k)
all-below bodies (suc n) k h =
    All-append (λ (s : Stay). s.node < k) (stays_below bodies n) (listed_stay (stayed bodies n)) (all-below bodies n k (omega arith))
    (own-below n k (body_time bodies n BeforeAll) (body_time bodies n AfterAll) (omega arith))

pub stays-among : (tree : List Row) (bodies : List (Option BodyTime)) (stays : List Stay) → IsPermutation (stays_below bodies (length tree)) stays → All (IsAmong tree) stays
stays-among tree bodies stays all = All-permutation (IsAmong tree) (stays_below bodies (length tree)) stays all (all-below bodies (length tree) (length tree) (omega arith))
