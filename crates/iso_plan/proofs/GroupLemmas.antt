-- Groups of keys that are taken alike: their leads, and what leads tell of all keys.
use Rattle.std.proofs.Common.{◌≡◌, ℕ, zero, suc, ◌<◌, ◌≤◌, List, [], ◌∷◌, ◌++◌, filter, get_or, Option, Some, None, Bool, true, false, ◌||◌, ◌&&◌, ◌==◌, cond, nat_lt, unwrap_or, ap, ap₂, sym, subst, ◌∙◌, inl, inr, arith, refl}
use Rattle.std.proofs.lemmas.Bool.{cases_eq}
use Rattle.std.proofs.lemmas.List.Folds.{list_all-append}
use Rattle.std.proofs.lemmas.Bool.Decides.{nat_tests}
use Rattle.std.specs.List.{AllByRecursion}
use Rattle.std.specs.Option.{option_or}
use Rattle.iso_model.specs.declared.access.Access.{Access}
use Rattle.iso_model.specs.declared.access.Access.TheVariants.{Read, Write}
use Rattle.iso_plan.proofs.ColumnLemmas.{column-read}
use Rattle.iso_plan.proofs.ConflictLemmas.{lowest-none}
use Rattle.iso_plan.proofs.HeldLemmas.{eq-comm, or-false, takes-above}
use Rattle.iso_plan.proofs.MergeLemmas.{rise-lower}
use Rattle.iso_plan.proofs.PathLemmas.{eq_from, eq_not, eq_same}
use Rattle.iso_plan.specs.Conflicts.{lowest}
use Rattle.iso_plan.specs.HeldNodes.{is_access, takes_in}
use Rattle.iso_plan.specs.KeyGroups.{access_on, all_alike, lead_in, split_lead, take_alike, way_of}
use Rattle.iso_plan.specs.Paths.{column}
use Rattle.iso_plan.specs.Rising.{Rise, RiseFrom}
use Rattle.iso_plan.specs.declared.lock.Lock.{Lock}

both : (a b : Bool) → a ≡ true → b ≡ true → (a && b) ≡ true
both a b p q = rw (p, q) refl

first_of : (a b : Bool) → (a && b) ≡ true → a ≡ true
first_of true b h = refl
first_of false b h = h

second_of : (a b : Bool) → (a && b) ≡ true → b ≡ true
second_of true b h = h
second_of false b h = absurd (cc)

-- being taken alike is an equivalence
pub alike-self : (lists : List (List Lock)) (i : ℕ) → all_alike lists i i ≡ true
alike-self [] i = refl
alike-self (ls ∷ rest) i = both (take_alike ls i i) (all_alike rest i i) (eq_same (way_of (access_on i ls))) (alike-self rest i)

pub alike-comm : (lists : List (List Lock)) (i j : ℕ) → all_alike lists i j ≡ all_alike lists j i
alike-comm [] i j = refl
alike-comm (ls ∷ rest) i j = ap₂ (λ (p q : Bool). p && q) (eq-comm (way_of (access_on i ls)) (way_of (access_on j ls))) (alike-comm rest i j)

pub alike-trans : (lists : List (List Lock)) (i j k : ℕ) → all_alike lists i j ≡ true → all_alike lists j k ≡ true → all_alike lists i k ≡ true
alike-trans [] i j k p q = refl
alike-trans (ls ∷ rest) i j k p q =
    let a = way_of (access_on i ls) in
    let b = way_of (access_on j ls) in
    let c = way_of (access_on k ls) in
    let ab : a ≡ b = eq_from a b (first_of (take_alike ls i j) (all_alike rest i j) p) in
    let bc : b ≡ c = eq_from b c (first_of (take_alike ls j k) (all_alike rest j k) q) in
    both (take_alike ls i k) (all_alike rest i k) (ap (λ (x : ℕ). x == c) (ab ∙ bc) ∙ eq_same c)
    (alike-trans rest i j k (second_of (take_alike ls i j) (all_alike rest i j) p) (second_of (take_alike ls j k) (all_alike rest j k) q))

-- the lowest number below n that passes
record IsFound (test : ℕ → Bool) (n m : ℕ) : Type 0 where
  pub below : m < n
  pub passes : test m ≡ true
  pub first : (j : ℕ) → j < m → test j ≡ false

none_by : (o : Option ℕ) (b : Bool) (n : ℕ) → option_or o (cond b (Some n) None) ≡ None → (o ≡ None) × (b ≡ false)
none_by None true n e = absurd (cc)
none_by None false n e = (refl, refl)
none_by (Some m) b n e = absurd (cc)

found_by : (test : ℕ → Bool) (n m : ℕ) (o : Option ℕ) (b : Bool) → lowest test n ≡ o → test n ≡ b → ((k : ℕ) → lowest test n ≡ Some k → IsFound test n k)
    → option_or o (cond b (Some n) None) ≡ Some m → IsFound test (suc n) m
found_by test n m None true e t ih h =
    let same : n ≡ m = ap (λ (x : Option ℕ). unwrap_or x 0) h in
    subst (IsFound test (suc n)) same (record { below = omega arith; passes = t; first = λ j l. lowest-none test n j e l })
found_by test n m None false e t ih h = absurd (cc)
found_by test n m (Some k) b e t ih h =
    let same : k ≡ m = ap (λ (x : Option ℕ). unwrap_or x 0) h in
    let before = ih k e in
    subst (IsFound test (suc n)) same (record { below = let l = before.below in omega arith; passes = before.passes; first = before.first })

lowest-found : (test : ℕ → Bool) (n m : ℕ) → lowest test n ≡ Some m → IsFound test n m
lowest-found test zero m e = absurd (cc)
lowest-found test (suc n) m e = found_by test n m (lowest test n) (test n) refl refl (lowest-found test n) e

pub lowest-same : (p q : ℕ → Bool) (n : ℕ) → ((m : ℕ) → m < n → p m ≡ q m) → lowest p n ≡ lowest q n
lowest-same p q zero f = refl
lowest-same p q (suc n) f = ap₂ option_or (lowest-same p q n (λ m h. f m (omega arith))) (ap (λ (b : Bool). cond b (Some n) None) (f n (omega arith)))

-- what the lead of a key is
pub record IsLead (lists : List (List Lock)) (k m : ℕ) : Type 0 where
  pub le : m ≤ k
  pub like : all_alike lists k m ≡ true
  pub first : (j : ℕ) → j < m → all_alike lists k j ≡ false

lead_by : (lists : List (List Lock)) (k : ℕ) (o : Option ℕ) → lowest (all_alike lists k) k ≡ o → IsLead lists k (unwrap_or o k)
lead_by lists k None e = record { le = omega arith; like = alike-self lists k; first = λ j l. lowest-none (all_alike lists k) k j e l }
lead_by lists k (Some m) e =
    let found = lowest-found (all_alike lists k) k m e in
    record { le = let l = found.below in omega arith; like = found.passes; first = found.first }

pub lead-is : (lists : List (List Lock)) (k : ℕ) → IsLead lists k (lead_in lists k)
lead-is lists k = lead_by lists k (lowest (all_alike lists k) k) refl

not-below : (r s : ℕ) → (r < s → ⊥) → s ≤ r
not-below r s f =
    elim (nat_lt r s) as (λ t. nat_lt r s ≡ t → s ≤ r) [
      | true ↦ λ e. absurd (f (grind (arith, nat_tests)))
      | false ↦ λ e. grind (arith, nat_tests)
    ] refl

-- a key that is alike to another one has no higher lead
lead-le : (lists : List (List Lock)) (k j : ℕ) → all_alike lists k j ≡ true → lead_in lists j ≤ lead_in lists k
lead-le lists k j e =
    not-below (lead_in lists k) (lead_in lists j)
    (λ less.
    let there : all_alike lists j (lead_in lists k) ≡ true = alike-trans lists j k (lead_in lists k) (alike-comm lists j k ∙ e) (lead-is lists k).like in
    let apart = (lead-is lists j).first (lead_in lists k) less in
    cc)

pub lead-same : (lists : List (List Lock)) (k j : ℕ) → all_alike lists k j ≡ true → lead_in lists k ≡ lead_in lists j
lead-same lists k j e =
    let down = lead-le lists k j e in
    let up = lead-le lists j k (alike-comm lists j k ∙ e) in
    omega arith

-- the lead of a key is its own lead
pub lead-lead : (lists : List (List Lock)) (k : ℕ) → lead_in lists (lead_in lists k) ≡ lead_in lists k
lead-lead lists k = sym (lead-same lists k (lead_in lists k) (lead-is lists k).like)

same_by : (lists : List (List Lock)) (j k : ℕ) (b : Bool) → all_alike lists k j ≡ b → (lead_in lists j == lead_in lists k) ≡ b
same_by lists j k true e = ap (λ (x : ℕ). lead_in lists j == x) (lead-same lists k j e) ∙ eq_same (lead_in lists j)
same_by lists j k false e =
    eq_not (lead_in lists j) (lead_in lists k)
    (λ same.
    let mine : all_alike lists k (lead_in lists j) ≡ true = ap (all_alike lists k) same ∙ (lead-is lists k).like in
    let alike : all_alike lists k j ≡ true = alike-trans lists k (lead_in lists j) j mine (alike-comm lists (lead_in lists j) j ∙ (lead-is lists j).like) in
    cc)

-- two keys have one lead where they are alike
pub group-is : (lists : List (List Lock)) (j k : ℕ) → (lead_in lists j == lead_in lists k) ≡ all_alike lists k j
group-is lists j k = same_by lists j k (all_alike lists k j) refl

and-true : (b : Bool) → (b && true) ≡ b
and-true true = refl
and-true false = refl

pub alike-more : (lists : List (List Lock)) (ls : List Lock) (i j : ℕ) → all_alike (lists ++ ls ∷ []) i j ≡ (all_alike lists i j && take_alike ls i j)
alike-more lists ls i j = list_all-append (λ (l : List Lock). take_alike l i j) lists (ls ∷ []) ∙ ap (λ (b : Bool). all_alike lists i j && b) (and-true (take_alike ls i j))

-- the leads of some lists of locks, split by one more, are the leads of all
pub split-is : (leads : List ℕ) (lists : List (List Lock)) (ls : List Lock) (n k : ℕ) → leads ≡ column (lead_in lists) n → k < n → split_lead leads ls k ≡ lead_in (lists ++ ls ∷ []) k
split-is leads lists ls n k e h =
    ap (λ (o : Option ℕ). unwrap_or o k) (lowest-same (λ j. get_or leads j 0 == get_or leads k 0 && way_of (access_on j ls) == way_of (access_on k ls)) (all_alike (lists ++ ls ∷ []) k) k
    (λ j l.
    ap₂ (λ (x y : ℕ). x == y && way_of (access_on j ls) == way_of (access_on k ls)) (column-read (lead_in lists) leads n j 0 e (omega arith)) (column-read (lead_in lists) leads n k 0 e h)
    ∙ ap₂ (λ (p q : Bool). p && q) (group-is lists j k) (eq-comm (way_of (access_on j ls)) (way_of (access_on k ls)))
    ∙ sym (alike-more lists ls k j)))

not-above : (n : ℕ) → (0 < n → ⊥) → n ≡ 0
not-above zero f = refl
not-above (suc n) f = absurd (f (omega arith))

-- where no node is looked at, all keys are alike
pub lead-none : (k : ℕ) → lead_in [] k ≡ 0
lead-none k = let like = (lead-is [] k).first in not-above (lead_in [] k) (λ h. let apart = like 0 h in cc)

-- how a key is taken tells in which access
way-from : (o p : Option Access) → way_of o ≡ way_of p → o ≡ p
way-from None None e = refl
way-from None (Some Read) e = absurd (cc)
way-from None (Some Write) e = absurd (cc)
way-from (Some Read) None e = absurd (cc)
way-from (Some Read) (Some Read) e = refl
way-from (Some Read) (Some Write) e = absurd (cc)
way-from (Some Write) None e = absurd (cc)
way-from (Some Write) (Some Read) e = absurd (cc)
way-from (Some Write) (Some Write) e = refl

-- whether an access is one
abbrev is_as : Access → Option Access → Bool
is_as a None = false
is_as a (Some b) = is_access a b

takes_first : (a : Access) (k : ℕ) (l : Lock) (ls : List Lock) (b : Bool) → (l.key == k) ≡ b → (b ≡ true → takes_in a k ls ≡ false) → takes_in a k ls ≡ is_as a (access_on k ls)
    → ((b && is_access a l.access) || takes_in a k ls) ≡ is_as a (cond b (Some l.access) (access_on k ls))
takes_first a k l ls true e none ih = ap (λ (x : Bool). is_access a l.access || x) (none refl) ∙ or-false (is_access a l.access)
takes_first a k l ls false e none ih = ih

-- of locks on different keys, the access on a key tells in which accesses it is taken
takes-is : (a : Access) (k j : ℕ) (ls : List Lock) → RiseFrom j ls → takes_in a k ls ≡ is_as a (access_on k ls)
takes-is a k j [] r = refl
takes-is a k j (l ∷ ls) r =
    takes_first a k l ls (l.key == k) refl (λ e. takes-above a k ls (suc l.key) (let same = eq_from l.key k e in omega arith) r.1) (takes-is a k (suc l.key) ls r.1)

-- keys that locks take alike are taken in the same accesses
pub takes-alike : (a : Access) (i k : ℕ) (ls : List Lock) → Rise ls → take_alike ls i k ≡ true → takes_in a i ls ≡ takes_in a k ls
takes-alike a i k ls r e =
    takes-is a i 0 ls r ∙ ap (is_as a) (way-from (access_on i ls) (access_on k ls) (eq_from (way_of (access_on i ls)) (way_of (access_on k ls)) e)) ∙ sym (takes-is a k 0 ls r)

-- locks that are left of some on different keys
pub filter-rise : (p : Lock → Bool) (ls : List Lock) (j : ℕ) → RiseFrom j ls → RiseFrom j (filter p ls)
filter-rise p [] j r = tt
filter-rise p (l ∷ ls) j r =
    elim (p l) as (λ b. RiseFrom j (cond b (l ∷ filter p ls) (filter p ls))) [
      | true ↦ (r.0, filter-rise p ls (suc l.key) r.1)
      | false ↦ rise-lower (filter p ls) j (suc l.key) (let low = r.0 in omega arith) (filter-rise p ls (suc l.key) r.1)
    ]

pub filter-each : (p : Lock → Bool) (P : Lock → Type 0) (ls : List Lock) → AllByRecursion P ls → AllByRecursion P (filter p ls)
filter-each p P [] h = tt
filter-each p P (l ∷ ls) h =
    elim (p l) as (λ b. AllByRecursion P (cond b (l ∷ filter p ls) (filter p ls))) [
      | true ↦ (h.0, filter-each p P ls h.1)
      | false ↦ filter-each p P ls h.1
    ]

pub filter-takes : (q : ℕ → Bool) (a : Access) (k : ℕ) (ls : List Lock) → q k ≡ true → takes_in a k (filter (λ (l : Lock). q l.key) ls) ≡ takes_in a k ls
filter-takes q a k [] e = refl
filter-takes q a k (l ∷ ls) e =
    elim (q l.key) as (λ b. q l.key ≡ b → takes_in a k (cond b (l ∷ filter (λ (m : Lock). q m.key) ls) (filter (λ (m : Lock). q m.key) ls)) ≡ takes_in a k (l ∷ ls)) [
      | true ↦ λ h. ap (λ (b : Bool). (l.key == k && is_access a l.access) || b) (filter-takes q a k ls e)
      | false ↦ λ h.
          let apart : (l.key == k) ≡ false = eq_not l.key k (λ same. let passes = ap q same in cc) in
          filter-takes q a k ls e ∙ ap (λ (b : Bool). (b && is_access a l.access) || takes_in a k ls) (sym apart)
    ] refl

pub filter-passed : (q : ℕ → Bool) (a : Access) (k : ℕ) (ls : List Lock) → takes_in a k (filter (λ (l : Lock). q l.key) ls) ≡ true → q k ≡ true
filter-passed q a k [] h = absurd (cc)
filter-passed q a k (l ∷ ls) h =
    elim (q l.key) as (λ b. q l.key ≡ b → takes_in a k (cond b (l ∷ filter (λ (m : Lock). q m.key) ls) (filter (λ (m : Lock). q m.key) ls)) ≡ true → q k ≡ true) [
      | true ↦ λ p t. elim (cases_eq l.key k) [
        | inl same ↦ sym (ap q same) ∙ p
        | inr other ↦ filter-passed q a k ls (ap (λ (b : Bool). (b && is_access a l.access) || takes_in a k (filter (λ (m : Lock). q m.key) ls)) (sym (eq_not l.key k other)) ∙ t)
      ]
      | false ↦ λ p t. filter-passed q a k ls t
    ] refl h
