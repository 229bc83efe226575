-- Moving values lock by lock.
use Rattle.std.proofs.Common.{◌≡◌, ◌≢◌, ℕ, zero, suc, ◌+◌, ◌<◌, ◌≤◌, List, [], ◌∷◌, ◌++◌, length, map, take, Option, Some, None, Bool, true, false, ◌||◌, ◌&&◌, ◌==◌, cond, get_or, set, ap, ap₂, sym, ◌∙◌, arith, refl}
use Rattle.std.specs.List.{list_any}
use Rattle.std.specs.Option.{option_or}
use Rattle.std.proofs.lemmas.List.{get_or_default, get_or-set_same, get_or-set_other, length-set, length-map, take_all, take_more}
use Rattle.iso_model.specs.Rights.{is_writable}
use Rattle.iso_model.specs.declared.access.Access.{Access}
use Rattle.iso_model.specs.declared.access.Access.TheVariants.{Read, Write}
use Rattle.iso_plan.proofs.ColumnLemmas.{column-from, length-column}
use Rattle.iso_plan.proofs.LeadLemmas.{lead-takes}
use Rattle.iso_plan.proofs.PathLemmas.{eq_from, eq_not, eq_same}
use Rattle.iso_plan.specs.HeldNodes.{is_access, takes_in}
use Rattle.iso_plan.specs.KeyTable.{keys}
use Rattle.iso_plan.specs.Locks.{is_write, locks, locks_from, taken}
use Rattle.iso_plan.specs.Tree.{Row}
use Rattle.iso_plan.specs.declared.lock.Lock.{Lock}
use Rattle.iso_store.specs.Histories.{History}
use Rattle.iso_locks.specs.Moves.{AreAllButFirst, AreWithin, BeginAtSecond, is_written, moved_away, moved_here, put_here, taken_away, writes_key}
use Rattle.iso_locks.specs.Slots.{Slots, slot}
use Rattle.iso_locks.specs.Vaults.{IsOneGroup}

or-push : (a b c : Bool) → (a || (b || c)) ≡ ((a || b) || c)
or-push true b c = refl
or-push false b c = refl

or-false : (a : Bool) → (a || false) ≡ a
or-false true = refl
or-false false = refl

written-push : (ls : List Lock) (l : Lock) (i : ℕ) → is_written (ls ++ l ∷ []) i ≡ (is_written ls i || writes_key l i)
written-push [] l i = or-false (writes_key l i)
written-push (m ∷ ms) l i = ap (λ (b : Bool). writes_key m i || b) (written-push ms l i) ∙ or-push (writes_key m i) (is_written ms i) (writes_key l i)

-- the slots when the first n locks were gone through
pub record Moving (there0 here0 : Slots) (ls : List Lock) (n : ℕ) (there here : Slots) : Type 0 where
  pub there_fits : length there ≡ length there0
  pub here_fits : length here ≡ length here0
  pub there_is : (i : ℕ) → slot there i ≡ cond (is_written (take n ls) i) None (slot there0 i)
  pub here_is : (i : ℕ) → slot here i ≡ cond (is_written (take n ls) i) (option_or (slot there0 i) (slot here0 i)) (slot here0 i)

pub moving-none : (there here : Slots) (ls : List Lock) → Moving there here ls 0 there here
moving-none there here ls = record { there_fits = refl; here_fits = refl; there_is = λ i. refl; here_is = λ i. refl }

pub moving-all : (there0 here0 : Slots) (ls : List Lock) (n : ℕ) (there here : Slots) → length ls ≤ n
    → Moving there0 here0 ls n there here → (there ≡ moved_away ls there0) × (here ≡ moved_here ls there0 here0)
moving-all there0 here0 ls n there here all m =
    let whole : take n ls ≡ ls = take_all n ls all in (
      column-from (λ i. cond (is_written ls i) None (slot there0 i)) there (length there0) m.there_fits
          (λ i d h. let within : i < length there = rw m.there_fits h in get_or_default there i d None within ∙ m.there_is i
          ∙ ap (λ (xs : List Lock). cond (is_written xs i) None (slot there0 i)) whole),
      column-from (λ i. cond (is_written ls i) (option_or (slot there0 i) (slot here0 i)) (slot here0 i)) here (length here0) m.here_fits
          (λ i d h. let within : i < length here = rw m.here_fits h in get_or_default here i d None within ∙ m.here_is i
          ∙ ap (λ (xs : List Lock). cond (is_written xs i) (option_or (slot there0 i) (slot here0 i)) (slot here0 i)) whole),
    )

neither : (k w any rest : Bool) → (w || any) ≡ false → (any ≡ false → rest ≡ false) → ((k && w) || rest) ≡ false
neither true false false rest e next = next refl
neither false false false rest e next = next refl
neither k true any rest e next = absurd (cc)
neither k false true rest e next = absurd (cc)

-- where no lock is for READ_WRITE nothing moves
none-written : (ls : List Lock) → list_any is_write ls ≡ false → (i : ℕ) → is_written ls i ≡ false
none-written [] e i = refl
none-written (l ∷ ls) e i = neither (l.key == i) (is_write l) (list_any is_write ls) (is_written ls i) e (λ rest. none-written ls rest i)

pub none-here : (ls : List Lock) (there here : Slots) → list_any is_write ls ≡ false → here ≡ moved_here ls there here
none-here ls there here e =
    column-from (λ i. cond (is_written ls i) (option_or (slot there i) (slot here i)) (slot here i)) here (length here) refl
    (λ i d h. get_or_default here i d None h ∙ ap (λ (b : Bool). cond b (option_or (slot there i) (slot here i)) (slot here i)) (sym (none-written ls e i)))

pub none-away : (ls : List Lock) (there : Slots) → list_any is_write ls ≡ false → there ≡ moved_away ls there
none-away ls there e =
    column-from (λ i. cond (is_written ls i) None (slot there i)) there (length there) refl
    (λ i d h. get_or_default there i d None h ∙ ap (λ (b : Bool). cond b None (slot there i)) (sym (none-written ls e i)))

there_by : (e p b : Bool) (t0 now next : Option History) → now ≡ cond b None t0 → (p ≡ true → e ≡ true → next ≡ None)
    → (p ≡ true → e ≡ false → next ≡ now) → (p ≡ false → next ≡ now) → next ≡ cond (b || (e && p)) None t0
there_by true true true t0 now next is hit miss idle = hit refl refl
there_by true true false t0 now next is hit miss idle = hit refl refl
there_by false true true t0 now next is hit miss idle = miss refl refl ∙ is
there_by false true false t0 now next is hit miss idle = miss refl refl ∙ is
there_by true false true t0 now next is hit miss idle = idle refl ∙ is
there_by true false false t0 now next is hit miss idle = idle refl ∙ is
there_by false false true t0 now next is hit miss idle = idle refl ∙ is
there_by false false false t0 now next is hit miss idle = idle refl ∙ is

here_by : (e p b : Bool) (t0 h0 there now next : Option History) → there ≡ cond b None t0 → now ≡ cond b (option_or t0 h0) h0
    → (p ≡ true → e ≡ true → next ≡ option_or there now) → (p ≡ true → e ≡ false → next ≡ now) → (p ≡ false → next ≡ now)
    → next ≡ cond (b || (e && p)) (option_or t0 h0) h0
here_by true true true t0 h0 there now next t is hit miss idle = hit refl refl ∙ ap₂ (λ (a b : Option History). option_or a b) t is
here_by true true false t0 h0 there now next t is hit miss idle = hit refl refl ∙ ap₂ (λ (a b : Option History). option_or a b) t is
here_by false true true t0 h0 there now next t is hit miss idle = miss refl refl ∙ is
here_by false true false t0 h0 there now next t is hit miss idle = miss refl refl ∙ is
here_by true false true t0 h0 there now next t is hit miss idle = idle refl ∙ is
here_by true false false t0 h0 there now next t is hit miss idle = idle refl ∙ is
here_by false false true t0 h0 there now next t is hit miss idle = idle refl ∙ is
here_by false false false t0 h0 there now next t is hit miss idle = idle refl ∙ is

apart : (k i : ℕ) → (k == i) ≡ false → i ≢ k
apart k i e same = let equal : (k == i) ≡ true = ap (λ j. k == j) same ∙ eq_same k in cc

cond-fits : (b : Bool) (xs ys : Slots) → length xs ≡ length ys → length (cond b xs ys) ≡ length ys
cond-fits true xs ys e = e
cond-fits false xs ys e = refl

pub moving-more : (there0 here0 : Slots) (ls : List Lock) (n : ℕ) (there here next_there next_here : Slots) (l : Lock) → n < length ls → l ≡ get_or ls n l → l.key < length there → l.key < length here
    → next_there ≡ taken_away l there → next_here ≡ put_here l there here → Moving there0 here0 ls n there here → Moving there0 here0 ls (n + 1) next_there next_here
moving-more there0 here0 ls n there here next_there next_here l within at in_there in_here new_there new_here m =
    let one : take (n + 1) ls ≡ take n ls ++ l ∷ [] = take_more ls n l within ∙ ap (λ (x : Lock). take n ls ++ x ∷ []) (sym at) in
    let value = option_or (slot there l.key) (slot here l.key) in
    let written : (i : ℕ) → is_written (take (n + 1) ls) i ≡ (is_written (take n ls) i || writes_key l i) = λ i. ap (λ (xs : List Lock). is_written xs i) one ∙ written-push (take n ls) l i in
    record {
      there_fits = ap length new_there ∙ cond-fits (is_write l) (set there l.key None) there (length-set there l.key None) ∙ m.there_fits;
      here_fits = ap length new_here ∙ cond-fits (is_write l) (set here l.key value) here (length-set here l.key value) ∙ m.here_fits;
      there_is = λ i.
          there_by (l.key == i) (is_write l) (is_written (take n ls) i) (slot there0 i) (slot there i) (slot next_there i) (m.there_is i)
          (λ p e. ap (λ (xs : Slots). slot xs i) (new_there ∙ ap (λ (b : Bool). cond b (set there l.key None) there) p) ∙ ap (slot (set there l.key None)) (sym (eq_from l.key i e))
          ∙ get_or-set_same there l.key None None in_there)
          (λ p e. ap (λ (xs : Slots). slot xs i) (new_there ∙ ap (λ (b : Bool). cond b (set there l.key None) there) p) ∙ get_or-set_other there l.key i None None (apart l.key i e))
          (λ p. ap (λ (xs : Slots). slot xs i) (new_there ∙ ap (λ (b : Bool). cond b (set there l.key None) there) p))
          ∙ ap (λ (b : Bool). cond b None (slot there0 i)) (sym (written i));
      here_is = λ i.
          here_by (l.key == i) (is_write l) (is_written (take n ls) i) (slot there0 i) (slot here0 i) (slot there i) (slot here i) (slot next_here i) (m.there_is i) (m.here_is i)
          (λ p e. ap (λ (xs : Slots). slot xs i) (new_here ∙ ap (λ (b : Bool). cond b (set here l.key value) here) p) ∙ ap (slot (set here l.key value)) (sym (eq_from l.key i e))
          ∙ get_or-set_same here l.key value None in_here
          ∙ ap (λ j. option_or (slot there j) (slot here j)) (eq_from l.key i e))
          (λ p e. ap (λ (xs : Slots). slot xs i) (new_here ∙ ap (λ (b : Bool). cond b (set here l.key value) here) p) ∙ get_or-set_other here l.key i value None (apart l.key i e))
          (λ p. ap (λ (xs : Slots). slot xs i) (new_here ∙ ap (λ (b : Bool). cond b (set here l.key value) here) p))
          ∙ ap (λ (b : Bool). cond b (option_or (slot there0 i) (slot here0 i)) (slot here0 i)) (sym (written i));
    }

-- a lock of locks on keys within n is on such a key
pub within-at : (n : ℕ) (ls : List Lock) (i : ℕ) (l : Lock) → AreWithin n ls → i < length ls → l ≡ get_or ls i l → l.key < n
within-at n [] i l w h at = absurd (omega arith)
within-at n (m ∷ ms) zero l w h at = rw (ap (λ (x : Lock). x.key) at) w.0
within-at n (m ∷ ms) (suc i) l w h at = let less : i < length ms = omega arith in within-at n ms i l w.1 less at

within_by : (j n : ℕ) (accesses : List (Option Access)) → j + length accesses ≤ n → AreWithin n (locks_from j accesses)
within_by j n [] h = tt
within_by j n (None ∷ rest) h = within_by (suc j) n rest (omega arith)
within_by j n (Some a ∷ rest) h = (omega arith, within_by (suc j) n rest (omega arith))

-- a node's locks are on keys of the plan
pub locks-within : (tree : List Row) (n : ℕ) → AreWithin (length (keys tree)) (locks tree n)
locks-within tree n =
    let count = length-map (keys tree) (taken tree n) in
    within_by 0 (length (keys tree)) (map (taken tree n) (keys tree)) (omega arith)

pub here-count : (ls : List Lock) (there here next : Slots) → next ≡ moved_here ls there here → length next ≡ length here
here-count ls there here next e = ap length e ∙ length-column (λ i. cond (is_written ls i) (option_or (slot there i) (slot here i)) (slot here i)) (length here)

pub there-count : (ls : List Lock) (there next : Slots) → next ≡ moved_away ls there → length next ≡ length there
there-count ls there next e = ap length e ∙ length-column (λ i. cond (is_written ls i) None (slot there i)) (length there)

and-left : (a b : Bool) → (a && b) ≡ true → a ≡ true
and-left true b e = refl
and-left false b e = absurd (cc)

or-right : (a b : Bool) → b ≡ true → (a || b) ≡ true
or-right true b e = refl
or-right false b e = e

-- what one of the locks is on is written
pub written-at : (ls : List Lock) (n i : ℕ) (l : Lock) → n < length ls → l ≡ get_or ls n l → writes_key l i ≡ true → is_written ls i ≡ true
written-at [] n i l h at e = absurd (omega arith)
written-at (m ∷ ms) zero i l h at e = ap (λ (x : Lock). writes_key x i || is_written ms i) (sym at) ∙ ap (λ (b : Bool). b || is_written ms i) e
written-at (m ∷ ms) (suc n) i l h at e = let less : n < length ms = omega arith in or-right (writes_key m i) (is_written ms i) (written-at ms n i l less at e)

by_all : (w : Bool) (t h : Option History) → w ≡ true → h ≡ None → t ≡ cond w (option_or t h) h
by_all true None h e none = sym none
by_all true (Some v) h e none = refl
by_all false t h e none = absurd (cc)

by_away : (w : Bool) (t : Option History) → w ≡ true → None ≡ cond w None t
by_away true t e = refl
by_away false t e = absurd (cc)

by_first : (w : Bool) (t h : Option History) → w ≡ false → h ≡ cond w (option_or t h) h
by_first true t h e = absurd (cc)
by_first false t h e = refl

by_kept : (w : Bool) (t : Option History) → w ≡ false → t ≡ cond w None t
by_kept true t e = absurd (cc)
by_kept false t e = refl

off-first : (i : ℕ) → suc i ≢ 0
off-first i same = omega arith

-- nothing is from the second slot on
abbrev NoneBehind : Slots → Type 0
NoneBehind xs = (i : ℕ) → 1 ≤ i → slot xs i ≡ None

here-at : (ls : List Lock) (there here : Slots) → NoneBehind here → AreAllButFirst (length there) ls → (i : ℕ) → i < length there
    → slot (set there 0 (slot here 0)) i ≡ cond (is_written ls i) (option_or (slot there i) (slot here i)) (slot here i)
here-at ls there here none all zero h = get_or-set_same there 0 (slot here 0) None h ∙ by_first (is_written ls 0) (slot there 0) (slot here 0) all.first
here-at ls there here none all (suc i) h =
    get_or-set_other there 0 (suc i) (slot here 0) None (off-first i)
    ∙ by_all (is_written ls (suc i)) (slot there (suc i)) (slot here (suc i)) (all.others (suc i) (omega arith) h) (none (suc i) (omega arith))

away-at : (ls : List Lock) (there here : Slots) → length there ≡ length here → NoneBehind here → AreAllButFirst (length there) ls → (i : ℕ) → i < length there
    → slot (set here 0 (slot there 0)) i ≡ cond (is_written ls i) None (slot there i)
away-at ls there here fits none all zero h =
    let some : 0 < length here = omega (arith, fits, h) in
    get_or-set_same here 0 (slot there 0) None some ∙ by_kept (is_written ls 0) (slot there 0) all.first
away-at ls there here fits none all (suc i) h =
    get_or-set_other here 0 (suc i) (slot there 0) None (off-first i) ∙ none (suc i) (omega arith)
    ∙ by_away (is_written ls (suc i)) (slot there (suc i)) (all.others (suc i) (omega arith) h)

-- all values but the first move to where none is but a first
pub all-here : (ls : List Lock) (there here : Slots) → length there ≡ length here → NoneBehind here → AreAllButFirst (length there) ls → set there 0 (slot here 0) ≡ moved_here ls there here
all-here ls there here fits none all =
    column-from (λ i. cond (is_written ls i) (option_or (slot there i) (slot here i)) (slot here i)) (set there 0 (slot here 0)) (length here) (length-set there 0 (slot here 0) ∙ fits)
    (λ i d h.
    let within : i < length there = omega (arith, fits, h) in
    let inside : i < length (set there 0 (slot here 0)) = rw (length-set there 0 (slot here 0)) within in
    get_or_default (set there 0 (slot here 0)) i d None inside ∙ here-at ls there here none all i within)

pub all-away : (ls : List Lock) (there here : Slots) → length there ≡ length here → NoneBehind here → AreAllButFirst (length there) ls → set here 0 (slot there 0) ≡ moved_away ls there
all-away ls there here fits none all =
    column-from (λ i. cond (is_written ls i) None (slot there i)) (set here 0 (slot there 0)) (length there) (length-set here 0 (slot there 0) ∙ sym fits)
    (λ i d h.
    let within : i < length here = omega (arith, fits, h) in
    let inside : i < length (set here 0 (slot there 0)) = rw (length-set here 0 (slot there 0)) within in
    get_or_default (set here 0 (slot there 0)) i d None inside ∙ away-at ls there here fits none all i h)

-- a first value that is taken and put again
pub set-twice : (xs : Slots) (a b : Option History) → set (set xs 0 a) 0 b ≡ set xs 0 b
set-twice [] a b = refl
set-twice (x ∷ xs) a b = refl

write-access : (a : Access) → is_access Write a ≡ is_writable (Some a)
write-access Read = refl
write-access Write = refl

written-takes : (ls : List Lock) (i : ℕ) → takes_in Write i ls ≡ is_written ls i
written-takes [] i = refl
written-takes (l ∷ ls) i = ap₂ (λ (a b : Bool). (l.key == i && a) || b) (write-access l.access) (written-takes ls i)

-- locks on keys behind a first one are on none before
none-before : (j : ℕ) (accesses : List (Option Access)) → is_written (locks_from (suc j) accesses) 0 ≡ false
none-before j [] = refl
none-before j (None ∷ rest) = none-before (suc j) rest
none-before j (Some a ∷ rest) =
    let apart : (suc j == 0) ≡ false = eq_not (suc j) 0 (off-first j) in
    ap (λ (b : Bool). (b && is_writable (Some a)) || is_written (locks_from (suc (suc j)) rest) 0) apart ∙ none-before (suc j) rest

second-of : (l : Lock) (ls : List Lock) → BeginAtSecond (l ∷ ls) → l.key ≡ 1
second-of l ls e = eq_from l.key 1 (and-left (l.key == 1) (is_write l) e)

first-off : (accesses : List (Option Access)) → BeginAtSecond (locks_from 0 accesses) → is_written (locks_from 0 accesses) 0 ≡ false
first-off [] e = absurd e
first-off (None ∷ rest) e = none-before 0 rest
first-off (Some a ∷ rest) e = absurd (off-first 0 (sym (second-of (record { key = 0; access = a }) (locks_from 1 rest) e)))

second-written : (ls : List Lock) → BeginAtSecond ls → is_written ls 1 ≡ true
second-written [] e = absurd e
second-written (l ∷ ls) e = ap (λ (b : Bool). b || is_written ls 1) e

second-within : (n : ℕ) (ls : List Lock) → BeginAtSecond ls → AreWithin n ls → 0 < n
second-within n [] e w = absurd e
second-within n (l ∷ ls) e w = let same : l.key ≡ 1 = second-of l ls e in let below : l.key < n = w.0 in omega arith

-- a node that takes the second key of one group for READ_WRITE before any other takes all keys so but the first
pub all-written : (tree : List Row) (n : ℕ) → n < length tree → IsOneGroup tree → BeginAtSecond (locks tree n) → AreAllButFirst (length (keys tree)) (locks tree n)
all-written tree n h one begins =
    record {
      some = second-within (length (keys tree)) (locks tree n) begins (locks-within tree n);
      first = first-off (map (taken tree n) (keys tree)) begins;
      others = λ i above below.
          sym (written-takes (locks tree n) i) ∙ lead-takes tree n i Write h ∙ ap (λ (k : ℕ). takes_in Write k (locks tree n)) (one i above below) ∙ written-takes (locks tree n) 1
          ∙ second-written (locks tree n) begins;
    }
