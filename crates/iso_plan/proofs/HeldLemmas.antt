-- What is counted of held nodes: how many read and write each key, one node more and one less, and what that says of a node's locks.
use Rattle.std.proofs.Common.{◌≡◌, ℕ, zero, suc, ◌+◌, ◌-◌, ◌^◌, ◌<◌, ◌≤◌, ◌≢◌, List, [], ◌∷◌, length, set, Option, Some, None, Bool, true, false, ◌||◌, ◌&&◌, ◌==◌, not, cond, is_some, ap, ap₂, sym, subst, ◌∙◌, inl, inr, arith, refl}
use Rattle.std.proofs.lemmas.Bool.{cases_eq}
use Rattle.std.proofs.lemmas.List.{get_or-set_same, get_or-set_other, length-set}
use Rattle.std.specs.List.{AllByRecursion, list_any}
use Rattle.std.specs.Option.{option_or}
use Rattle.iso_model.specs.Rights.{is_writable}
use Rattle.iso_model.specs.declared.access.Access.{Access}
use Rattle.iso_model.specs.declared.access.Access.TheVariants.{Read, Write}
use Rattle.iso_plan.proofs.ConflictLemmas.{conflicts-is}
use Rattle.iso_plan.proofs.PathLemmas.{eq_not, eq_same}
use Rattle.iso_plan.specs.Conflicts.{conflicts, is_in_the_way, lowest, lowest_in_the_way, shares}
use Rattle.iso_plan.specs.HeldNodes.{AreCounted, CanAdd, CanRemove, added, any_excluded, count, counted, is_access, is_held, one_less, one_more, removed, takers, takes_in, unused, use_of}
use Rattle.iso_plan.specs.KeyTable.{keys}
use Rattle.iso_plan.specs.Locks.{conflict, exclude, is_write, locks, taken}
use Rattle.iso_plan.specs.Rising.{RiseFrom}
use Rattle.iso_plan.specs.Tree.{Row}
use Rattle.iso_plan.specs.declared.held_nodes.KeyUse.{KeyUse}
use Rattle.iso_plan.specs.declared.lock.Lock.{Lock}

same-access : (a : Access) → is_access a a ≡ true
same-access Read = refl
same-access Write = refl

pub or-false : (b : Bool) → (b || false) ≡ b
or-false true = refl
or-false false = refl

pub or-true : (b : Bool) → (b || true) ≡ true
or-true true = refl
or-true false = refl

or-comm : (a b : Bool) → (a || b) ≡ (b || a)
or-comm true b = sym (or-true b)
or-comm false b = sym (or-false b)

pub and-false : (a : Bool) → (a && false) ≡ false
and-false true = refl
and-false false = refl

pub eq-comm : (a b : ℕ) → (a == b) ≡ (b == a)
eq-comm a b = elim (cases_eq a b) [ inl same ↦ ap₂ (λ (x y : ℕ). x == y) same (sym same) | inr other ↦ eq_not a b other ∙ sym (eq_not b a (λ e. other (sym e))) ]

-- later locks aren't on an earlier key
pub takes-above : (a : Access) (k : ℕ) (ls : List Lock) (j : ℕ) → k < j → RiseFrom j ls → takes_in a k ls ≡ false
takes-above a k [] j h r = refl
takes-above a k (l ∷ ls) j h r =
    let low = r.0 in
    let apart : (l.key == k) ≡ false = eq_not l.key k (λ same. omega arith) in
    rw apart (takes-above a k ls (suc l.key) (omega arith) r.1)

more-is : (a b : Access) (u : KeyUse) → counted a (one_more b u) ≡ counted a u + cond (is_access a b) 1 0
more-is Read Read u = refl
more-is Read Write u = omega arith
more-is Write Read u = omega arith
more-is Write Write u = refl

less-is : (a b : Access) (u : KeyUse) → counted a (one_less b u) ≡ counted a u - cond (is_access a b) 1 0
less-is Read Read u = refl
less-is Read Write u = omega arith
less-is Write Read u = omega arith
less-is Write Write u = refl

-- what stands in the table after one key was set
set-other : (us : List KeyUse) (i k : ℕ) (u : KeyUse) → k ≢ i → use_of (set us i u) k ≡ use_of us k
set-other us i k u h = get_or-set_other us i k u unused h

set-same : (us : List KeyUse) (i : ℕ) (u : KeyUse) → i < length us → use_of (set us i u) i ≡ u
set-same us i u h = get_or-set_same us i u unused h

known-set : (us : List KeyUse) (i : ℕ) (u : KeyUse) (ls : List Lock) → AllByRecursion (λ (l : Lock). l.key < length us) ls → AllByRecursion (λ (l : Lock). l.key < length (set us i u)) ls
known-set us i u [] k = tt
known-set us i u (l ∷ ls) k = (let there = k.0 in let same = length-set us i u in omega arith, known-set us i u ls k.1)

pub added-length : (ls : List Lock) (us : List KeyUse) → length (added ls us) ≡ length us
added-length [] us = refl
added-length (l ∷ ls) us =
    let u = one_more l.access (use_of us l.key) in added-length ls (set us l.key u) ∙ length-set us l.key u

pub removed-length : (ls : List Lock) (us : List KeyUse) → length (removed ls us) ≡ length us
removed-length [] us = refl
removed-length (l ∷ ls) us =
    let u = one_less l.access (use_of us l.key) in removed-length ls (set us l.key u) ∙ length-set us l.key u

first-takes : (a : Access) (l : Lock) (ls : List Lock) → takes_in a l.key ls ≡ false → takes_in a l.key (l ∷ ls) ≡ is_access a l.access
first-takes a l ls none =
    ap₂ (λ (p q : Bool). (p && is_access a l.access) || q) (eq_same l.key) none ∙ or-false (is_access a l.access)

next-takes : (a : Access) (l : Lock) (ls : List Lock) (k : ℕ) → l.key ≢ k → takes_in a k (l ∷ ls) ≡ takes_in a k ls
next-takes a l ls k apart = ap (λ (p : Bool). (p && is_access a l.access) || takes_in a k ls) (eq_not l.key k apart)

-- the first of locks on different keys is on its own key
own-takes : (l : Lock) (ls : List Lock) (j : ℕ) → l.key < j → RiseFrom j ls → takes_in l.access l.key (l ∷ ls) ≡ true
own-takes l ls j h r = first-takes l.access l ls (takes-above l.access l.key ls j h r) ∙ same-access l.access

-- locks that are counted besides count once each
pub added-at : (a : Access) (ls : List Lock) (us : List KeyUse) (j k : ℕ) → RiseFrom j ls → AllByRecursion (λ (l : Lock). l.key < length us) ls
    → counted a (use_of (added ls us) k) ≡ counted a (use_of us k) + cond (takes_in a k ls) 1 0
added-at a [] us j k r known = omega arith
added-at a (l ∷ ls) us j k r known =
    let u = one_more l.access (use_of us l.key) in
    let rest = added-at a ls (set us l.key u) (suc l.key) k r.1 (known-set us l.key u ls known.1) in
    elim (cases_eq l.key k) [
      | inl same ↦
          let none : takes_in a l.key ls ≡ false = takes-above a l.key ls (suc l.key) (omega arith) r.1 in
          let there : counted a (use_of (added ls (set us l.key u)) l.key) ≡ counted a (use_of us l.key) + cond (takes_in a l.key (l ∷ ls)) 1 0 =
          added-at a ls (set us l.key u) (suc l.key) l.key r.1 (known-set us l.key u ls known.1)
          ∙ ap₂ (λ (v : KeyUse) (t : Bool). counted a v + cond t 1 0) (set-same us l.key u known.0) none
          ∙ (let z : counted a u + 0 ≡ counted a u = omega arith in z) ∙ more-is a l.access (use_of us l.key)
          ∙ ap (λ (t : Bool). counted a (use_of us l.key) + cond t 1 0) (sym (first-takes a l ls none)) in
          subst (λ (i : ℕ). counted a (use_of (added ls (set us l.key u)) i) ≡ counted a (use_of us i) + cond (takes_in a i (l ∷ ls)) 1 0) same there
      | inr other ↦
          rest ∙ ap₂ (λ (v : KeyUse) (t : Bool). counted a v + cond t 1 0) (set-other us l.key k u (λ same. other (sym same))) (sym (next-takes a l ls k other))
    ]

pub removed-at : (a : Access) (ls : List Lock) (us : List KeyUse) (j k : ℕ) → RiseFrom j ls → AllByRecursion (λ (l : Lock). l.key < length us) ls
    → counted a (use_of (removed ls us) k) ≡ counted a (use_of us k) - cond (takes_in a k ls) 1 0
removed-at a [] us j k r known = omega arith
removed-at a (l ∷ ls) us j k r known =
    let u = one_less l.access (use_of us l.key) in
    let rest = removed-at a ls (set us l.key u) (suc l.key) k r.1 (known-set us l.key u ls known.1) in
    elim (cases_eq l.key k) [
      | inl same ↦
          let none : takes_in a l.key ls ≡ false = takes-above a l.key ls (suc l.key) (omega arith) r.1 in
          let there : counted a (use_of (removed ls (set us l.key u)) l.key) ≡ counted a (use_of us l.key) - cond (takes_in a l.key (l ∷ ls)) 1 0 =
          removed-at a ls (set us l.key u) (suc l.key) l.key r.1 (known-set us l.key u ls known.1)
          ∙ ap₂ (λ (v : KeyUse) (t : Bool). counted a v - cond t 1 0) (set-same us l.key u known.0) none
          ∙ (let z : counted a u - 0 ≡ counted a u = omega arith in z) ∙ less-is a l.access (use_of us l.key)
          ∙ ap (λ (t : Bool). counted a (use_of us l.key) - cond t 1 0) (sym (first-takes a l ls none)) in
          subst (λ (i : ℕ). counted a (use_of (removed ls (set us l.key u)) i) ≡ counted a (use_of us i) - cond (takes_in a i (l ∷ ls)) 1 0) same there
      | inr other ↦
          rest ∙ ap₂ (λ (v : KeyUse) (t : Bool). counted a v - cond t 1 0) (set-other us l.key k u (λ same. other (sym same))) (sym (next-takes a l ls k other))
    ]

-- there is room for locks on different keys
pub can-add : (ls : List Lock) (us : List KeyUse) (j : ℕ) → RiseFrom j ls → AllByRecursion (λ (l : Lock). l.key < length us) ls
    → ((a : Access) (k : ℕ) → j ≤ k → k < length us → takes_in a k ls ≡ true → counted a (use_of us k) + 1 < 2 ^ 64) → CanAdd ls us
can-add [] us j r known room = tt
can-add (l ∷ ls) us j r known room =
    let u = one_more l.access (use_of us l.key) in
    let low = r.0 in
    let room_later : (a : Access) (k : ℕ) → suc l.key ≤ k → k < length (set us l.key u) → takes_in a k ls ≡ true → counted a (use_of (set us l.key u) k) + 1 < 2 ^ 64 =
    λ a k h w t.
    let same : counted a (use_of (set us l.key u) k) ≡ counted a (use_of us k) = ap (counted a) (set-other us l.key k u (λ e. omega arith)) in
    let fits = length-set us l.key u in
    let before = room a k (omega arith) (omega arith) (next-takes a l ls k (λ e. omega arith) ∙ t) in
    rw same before in
    (known.0, (room l.access l.key low known.0 (own-takes l ls (suc l.key) (omega arith) r.1), can-add ls (set us l.key u) (suc l.key) r.1 (known-set us l.key u ls known.1) room_later))

-- locks on different keys that are counted can be counted no longer
pub can-remove : (ls : List Lock) (us : List KeyUse) (j : ℕ) → RiseFrom j ls → AllByRecursion (λ (l : Lock). l.key < length us) ls
    → ((a : Access) (k : ℕ) → j ≤ k → k < length us → takes_in a k ls ≡ true → 0 < counted a (use_of us k)) → CanRemove ls us
can-remove [] us j r known there = tt
can-remove (l ∷ ls) us j r known there =
    let u = one_less l.access (use_of us l.key) in
    let low = r.0 in
    let later : (a : Access) (k : ℕ) → suc l.key ≤ k → k < length (set us l.key u) → takes_in a k ls ≡ true → 0 < counted a (use_of (set us l.key u) k) =
    λ a k h w t.
    let same : counted a (use_of (set us l.key u) k) ≡ counted a (use_of us k) = ap (counted a) (set-other us l.key k u (λ e. omega arith)) in
    let fits = length-set us l.key u in
    let before = there a k (omega arith) (omega arith) (next-takes a l ls k (λ e. omega arith) ∙ t) in
    rw same before in
    let own : takes_in l.access l.key (l ∷ ls) ≡ true = own-takes l ls (suc l.key) (omega arith) r.1 in
    (known.0, (there l.access l.key low known.0 own, can-remove ls (set us l.key u) (suc l.key) r.1 (known-set us l.key u ls known.1) later))

pub count-same : (p q : ℕ → Bool) (n : ℕ) → ((m : ℕ) → m < n → p m ≡ q m) → count p n ≡ count q n
count-same p q zero h = refl
count-same p q (suc n) h =
    ap₂ (λ (c : ℕ) (b : Bool). c + cond b 1 0) (count-same p q n (λ m l. h m (omega arith))) (h n (omega arith))

-- where one number more may pass, and no other changes
pub count-more : (p q : ℕ → Bool) (n i : ℕ) → i < n → p i ≡ false → ((m : ℕ) → m ≢ i → p m ≡ q m) → count q n ≡ count p n + cond (q i) 1 0
count-more p q zero i h f same = absurd (omega arith)
count-more p q (suc n) i h f same =
    elim (cases_eq i n) [
      | inl here ↦
          let below : count p n ≡ count q n = count-same p q n (λ m l. same m (λ e. omega arith)) in
          let own : p n ≡ false = sym (ap p here) ∙ f in
          let got : q n ≡ q i = sym (ap q here) in
          ap₂ (λ (c : ℕ) (b : Bool). c + cond b 1 0) (sym below) got
          ∙ (let z : count p n + cond (q i) 1 0 ≡ (count p n + 0) + cond (q i) 1 0 = omega arith in z)
          ∙ ap (λ (b : Bool). (count p n + cond b 1 0) + cond (q i) 1 0) (sym own)
      | inr other ↦
          let rest = count-more p q n i (omega arith) f same in
          let top : p n ≡ q n = same n (λ e. other (sym e)) in
          ap₂ (λ (c : ℕ) (b : Bool). c + cond b 1 0) rest (sym top)
          ∙ (let z : (count p n + cond (q i) 1 0) + cond (p n) 1 0 ≡ (count p n + cond (p n) 1 0) + cond (q i) 1 0 = omega arith in z)
    ]

bit-small : (b : Bool) → cond b 1 0 ≤ 1
bit-small true = omega arith
bit-small false = omega arith

pub count-small : (p : ℕ → Bool) (n : ℕ) → count p n ≤ n
count-small p zero = omega arith
count-small p (suc n) = let rest = count-small p n in let one = bit-small (p n) in omega arith

pub count-none : (p : ℕ → Bool) (n : ℕ) → ((m : ℕ) → m < n → p m ≡ false) → count p n ≡ 0
count-none p zero h = refl
count-none p (suc n) h = ap₂ (λ (c : ℕ) (b : Bool). c + cond b 1 0) (count-none p n (λ m l. h m (omega arith))) (h n (omega arith))

-- whether a number below n passes a test
abbrev some_below : (ℕ → Bool) → ℕ → Bool
some_below test zero = false
some_below test (suc n) = some_below test n || test n

found_by : (o : Option ℕ) (b : Bool) (n : ℕ) → is_some (option_or o (cond b (Some n) None)) ≡ (is_some o || b)
found_by None true n = refl
found_by None false n = refl
found_by (Some m) true n = refl
found_by (Some m) false n = refl

lowest-some : (test : ℕ → Bool) (n : ℕ) → is_some (lowest test n) ≡ some_below test n
lowest-some test zero = refl
lowest-some test (suc n) = found_by (lowest test n) (test n) n ∙ ap (λ (b : Bool). b || test n) (lowest-some test n)

counted_by : (c : ℕ) (b : Bool) → (not (c == 0) || b) ≡ not ((c + cond b 1 0) == 0)
counted_by zero true = refl
counted_by zero false = refl
counted_by (suc c) true = or-true (not (suc c == 0)) ∙ ap (λ (b : Bool). not b) (sym (eq_not (suc c + 1) 0 (λ e. omega arith)))
counted_by (suc c) false = or-false (not (suc c == 0)) ∙ ap (λ (x : ℕ). not (x == 0)) (let z : suc c ≡ suc c + 0 = omega arith in z)

some-counted : (test : ℕ → Bool) (n : ℕ) → some_below test n ≡ not (count test n == 0)
some-counted test zero = refl
some-counted test (suc n) = ap (λ (b : Bool). b || test n) (some-counted test n) ∙ counted_by (count test n) (test n)

or-swap : (a b c d : Bool) → ((a || b) || (c || d)) ≡ ((a || c) || (b || d))
or-swap true b c d = refl
or-swap false true true d = refl
or-swap false true false d = refl
or-swap false false c d = refl

some-or : (p q : ℕ → Bool) (n : ℕ) → some_below (λ m. p m || q m) n ≡ (some_below p n || some_below q n)
some-or p q zero = refl
some-or p q (suc n) = ap (λ (b : Bool). b || (p n || q n)) (some-or p q n) ∙ or-swap (some_below p n) (some_below q n) (p n) (q n)

some-same : (p q : ℕ → Bool) (n : ℕ) → ((m : ℕ) → p m ≡ q m) → some_below p n ≡ some_below q n
some-same p q zero h = refl
some-same p q (suc n) h = ap₂ (λ (a b : Bool). a || b) (some-same p q n h) (h n)

some-none : (p : ℕ → Bool) (n : ℕ) → ((m : ℕ) → p m ≡ false) → some_below p n ≡ false
some-none p zero h = refl
some-none p (suc n) h = ap₂ (λ (a b : Bool). a || b) (some-none p n h) (h n)

some-and : (w : Bool) (p : ℕ → Bool) (n : ℕ) → some_below (λ m. w && p m) n ≡ (w && some_below p n)
some-and true p n = refl
some-and false p n = some-none (λ m. false) n (λ m. refl)

-- a lock is shared with locks where they write its key, or read it and it is for READ_WRITE
share_by : (e own : Bool) (a : Access) (v r : Bool) → ((e && (own || is_writable (Some a))) || (v || (own && r))) ≡ (((e && is_access Write a) || v) || (own && ((e && is_access Read a) || r)))
share_by true true Read v r = sym (or-true v)
share_by true true Write v r = refl
share_by true false Read v r = refl
share_by true false Write v r = refl
share_by false own a v r = refl

shares-takes : (l : Lock) (ms : List Lock) → shares l ms ≡ (takes_in Write l.key ms || (is_write l && takes_in Read l.key ms))
shares-takes l [] = sym (and-false (is_write l))
shares-takes l (m ∷ ms) =
    ap₂ (λ (e s : Bool). (e && (is_write l || is_write m)) || s) (eq-comm l.key m.key) (shares-takes l ms)
    ∙ share_by (m.key == l.key) (is_write l) m.access (takes_in Write l.key ms) (takes_in Read l.key ms)

exclude-comm : (a b : Option Access) → exclude a b ≡ exclude b a
exclude-comm None None = refl
exclude-comm None (Some b) = refl
exclude-comm (Some a) None = refl
exclude-comm (Some a) (Some b) = or-comm (is_writable (Some a)) (is_writable (Some b))

any-comm : (f g : List ℕ → Option Access) (ks : List (List ℕ)) → list_any (λ k. exclude (f k) (g k)) ks ≡ list_any (λ k. exclude (g k) (f k)) ks
any-comm f g [] = refl
any-comm f g (k ∷ ks) = ap₂ (λ (p q : Bool). p || q) (exclude-comm (f k) (g k)) (any-comm f g ks)

conflict-comm : (tree : List Row) (m n : ℕ) → conflict tree m n ≡ conflict tree n m
conflict-comm tree m n = any-comm (taken tree m) (taken tree n) (keys tree)

and-or : (h a b : Bool) → (h && (a || b)) ≡ ((h && a) || (h && b))
and-or true a b = refl
and-or false a b = refl

and-swap : (h w r : Bool) → (h && (w && r)) ≡ (w && (h && r))
and-swap true true r = refl
and-swap true false r = refl
and-swap false true r = refl
and-swap false false r = refl

-- whether a held node takes a lock's key, one of the two for READ_WRITE
abbrev pub keeps-out : List Row → List Bool → Lock → Bool
keeps-out tree held l = not (takers tree held Write l.key == 0) || (is_write l && not (takers tree held Read l.key == 0))

-- a lock that a held node is in the way of
one_out : (tree : List Row) (held : List Bool) (l : Lock) → some_below (λ m. is_held held m && shares l (locks tree m)) (length tree) ≡ keeps-out tree held l
one_out tree held l =
    let writers : ℕ → Bool = λ m. is_held held m && takes_in Write l.key (locks tree m) in
    let readers : ℕ → Bool = λ m. is_held held m && takes_in Read l.key (locks tree m) in
    let w = is_write l in
    some-same (λ m. is_held held m && shares l (locks tree m)) (λ m. writers m || (w && readers m)) (length tree)
    (λ m. ap (λ (s : Bool). is_held held m && s) (shares-takes l (locks tree m))
    ∙ and-or (is_held held m) (takes_in Write l.key (locks tree m)) (w && takes_in Read l.key (locks tree m))
    ∙ ap (λ (s : Bool). writers m || s) (and-swap (is_held held m) w (takes_in Read l.key (locks tree m))))
    ∙ some-or writers (λ m. w && readers m) (length tree)
    ∙ ap (λ (s : Bool). some_below writers (length tree) || s) (some-and w readers (length tree))
    ∙ ap₂ (λ (p q : Bool). p || (w && q)) (some-counted writers (length tree)) (some-counted readers (length tree))

locks_out : (tree : List Row) (held : List Bool) (ls : List Lock)
    → some_below (λ m. is_held held m && conflicts ls (locks tree m)) (length tree) ≡ list_any (keeps-out tree held) ls
locks_out tree held [] = some-none (λ m. is_held held m && false) (length tree) (λ m. and-false (is_held held m))
locks_out tree held (l ∷ ls) =
    some-same (λ m. is_held held m && conflicts (l ∷ ls) (locks tree m)) (λ m. (is_held held m && shares l (locks tree m)) || (is_held held m && conflicts ls (locks tree m))) (length tree)
    (λ m. and-or (is_held held m) (shares l (locks tree m)) (conflicts ls (locks tree m)))
    ∙ some-or (λ m. is_held held m && shares l (locks tree m)) (λ m. is_held held m && conflicts ls (locks tree m)) (length tree)
    ∙ ap₂ (λ (p q : Bool). p || q) (one_out tree held l) (locks_out tree held ls)

-- a node's locks are kept out where a held node conflicts with it
pub kept-out : (tree : List Row) (held : List Bool) (n : ℕ) → list_any (keeps-out tree held) (locks tree n) ≡ is_some (lowest_in_the_way tree (is_held held) n)
kept-out tree held n =
    sym (locks_out tree held (locks tree n))
    ∙ some-same (λ m. is_held held m && conflicts (locks tree n) (locks tree m)) (is_in_the_way tree (is_held held) n) (length tree)
    (λ m. ap (λ (b : Bool). is_held held m && b) (conflicts-is tree n m ∙ conflict-comm tree n m))
    ∙ sym (lowest-some (is_in_the_way tree (is_held held) n) (length tree))

-- what is counted of keys excludes locks on them as the held nodes do
pub excluded-out : (tree : List Row) (held : List Bool) (uses : List KeyUse) (ls : List Lock)
    → AllByRecursion (λ (l : Lock). (a : Access) → counted a (use_of uses l.key) ≡ takers tree held a l.key) ls → any_excluded uses ls ≡ list_any (keeps-out tree held) ls
excluded-out tree held uses [] c = refl
excluded-out tree held uses (l ∷ ls) c =
    ap₂ (λ (p q : Bool). p || q) (ap₂ (λ (p q : ℕ). not (p == 0) || (is_write l && not (q == 0))) (c.0 Write) (c.0 Read)) (excluded-out tree held uses ls c.1)

counts_of : (tree : List Row) (held : List Bool) (uses : List KeyUse) (ls : List Lock) → AreCounted tree held uses → AllByRecursion (λ (l : Lock). l.key < length uses) ls
    → AllByRecursion (λ (l : Lock). (a : Access) → counted a (use_of uses l.key) ≡ takers tree held a l.key) ls
counts_of tree held uses [] c known = tt
counts_of tree held uses (l ∷ ls) c known = (λ a. c.counts a l.key known.0, counts_of tree held uses ls c known.1)

-- what is counted excludes a node's locks where a held node conflicts with it
pub excluded-is : (tree : List Row) (held : List Bool) (uses : List KeyUse) (n : ℕ) → AreCounted tree held uses → AllByRecursion (λ (l : Lock). l.key < length uses) (locks tree n)
    → any_excluded uses (locks tree n) ≡ is_some (lowest_in_the_way tree (is_held held) n)
excluded-is tree held uses n c known =
    excluded-out tree held uses (locks tree n) (counts_of tree held uses (locks tree n) c known) ∙ kept-out tree held n

-- one node more is held: it is counted besides
pub takers-less : (tree : List Row) (held : List Bool) (a : Access) (k n : ℕ) → n < length tree → length held ≡ length tree → is_held held n ≡ false
    → takers tree (set held n true) a k ≡ takers tree held a k + cond (takes_in a k (locks tree n)) 1 0
takers-less tree held a k n h fits free =
    let within : n < length held = omega arith in
    let own : is_held (set held n true) n ≡ true = get_or-set_same held n true false within in
    count-more (λ m. is_held held m && takes_in a k (locks tree m)) (λ m. is_held (set held n true) m && takes_in a k (locks tree m)) (length tree) n h
    (ap (λ (b : Bool). b && takes_in a k (locks tree n)) free)
    (λ m other. ap (λ (b : Bool). b && takes_in a k (locks tree m)) (sym (get_or-set_other held n m true false other)))
    ∙ ap (λ (b : Bool). takers tree held a k + cond (b && takes_in a k (locks tree n)) 1 0) own

-- one node less is held: it was counted
pub takers-more : (tree : List Row) (held : List Bool) (a : Access) (k n : ℕ) → n < length tree → length held ≡ length tree → is_held held n ≡ true
    → takers tree held a k ≡ takers tree (set held n false) a k + cond (takes_in a k (locks tree n)) 1 0
takers-more tree held a k n h fits there =
    let within : n < length held = omega arith in
    let own : is_held (set held n false) n ≡ false = get_or-set_same held n false false within in
    count-more (λ m. is_held (set held n false) m && takes_in a k (locks tree m)) (λ m. is_held held m && takes_in a k (locks tree m)) (length tree) n h
    (ap (λ (b : Bool). b && takes_in a k (locks tree n)) own)
    (λ m other. ap (λ (b : Bool). b && takes_in a k (locks tree m)) (get_or-set_other held n m false false other))
    ∙ ap (λ (b : Bool). takers tree (set held n false) a k + cond (b && takes_in a k (locks tree n)) 1 0) there
