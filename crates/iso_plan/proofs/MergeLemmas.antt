-- Locks stand in the order of their keys, so those of two nodes are compared side by side.
use Rattle.std.proofs.Common.{◌≡◌, ℕ, zero, suc, ◌+◌, ◌<◌, ◌≤◌, List, [], ◌∷◌, length, map, drop, get_or, Option, Some, None, Bool, true, false, ◌||◌, ◌==◌, ap, ap₂, sym, subst, ◌∙◌, arith, refl}
use Rattle.std.proofs.lemmas.List.{drop_all, drop_more}
use Rattle.iso_model.specs.declared.access.Access.{Access}
use Rattle.iso_plan.proofs.PathLemmas.{eq_not}
use Rattle.iso_plan.specs.Conflicts.{conflicts, excludes, shares}
use Rattle.iso_plan.specs.KeyTable.{keys}
use Rattle.iso_plan.specs.Locks.{locks, locks_from, taken}
use Rattle.iso_plan.specs.Rising.{Rise, RiseFrom}
use Rattle.iso_plan.specs.Tree.{Row}
use Rattle.iso_plan.specs.declared.lock.Lock.{Lock}

pub rise-lower : (ls : List Lock) (i j : ℕ) → i ≤ j → RiseFrom j ls → RiseFrom i ls
rise-lower [] i j h r = tt
rise-lower (l ∷ ls) i j h r = (let low = r.0 in omega arith, r.1)

rise-from : (i : ℕ) (accesses : List (Option Access)) → RiseFrom i (locks_from i accesses)
rise-from i [] = tt
rise-from i (None ∷ rest) = rise-lower (locks_from (suc i) rest) i (suc i) (omega arith) (rise-from (suc i) rest)
rise-from i (Some a ∷ rest) = (omega arith, rise-from (suc i) rest)

-- the locks of a node stand in the order of their keys
pub locks-rise : (tree : List Row) (n : ℕ) → Rise (locks tree n)
locks-rise tree n = rise-from 0 (map (taken tree n) (keys tree))

-- so do those that are left of them
pub rise-drop : (ls : List Lock) (i j : ℕ) → RiseFrom j ls → RiseFrom j (drop i ls)
rise-drop ls zero j r = r
rise-drop [] (suc i) j r = tt
rise-drop (l ∷ ls) (suc i) j r = rise-lower (drop i ls) j (suc l.key) (let low = r.0 in omega arith) (rise-drop ls i (suc l.key) r.1)

-- a lock is shared with none on later keys
pub shares-later : (l : Lock) (ms : List Lock) (j : ℕ) → l.key < j → RiseFrom j ms → shares l ms ≡ false
shares-later l [] j h r = refl
shares-later l (m ∷ ms) j h r =
    let low = r.0 in
    let apart : (l.key == m.key) ≡ false = eq_not l.key m.key (λ same. omega arith) in
    rw apart (shares-later l ms (suc m.key) (omega arith) r.1)

-- a lock on an earlier key than all of some others is passed over
pub pass-first : (l : Lock) (ls ms : List Lock) (j : ℕ) → l.key < j → RiseFrom j ms → conflicts (l ∷ ls) ms ≡ conflicts ls ms
pass-first l ls ms j h r = ap (λ (b : Bool). b || conflicts ls ms) (shares-later l ms j h r)

past_earlier : (ls : List Lock) (m : Lock) (ms : List Lock) (j : ℕ) → m.key < j → RiseFrom j ls → conflicts ls (m ∷ ms) ≡ conflicts ls ms
past_earlier [] m ms j h r = refl
past_earlier (l ∷ ls) m ms j h r =
    let low = r.0 in
    let apart : (l.key == m.key) ≡ false = eq_not l.key m.key (λ same. omega arith) in
    let first : shares l (m ∷ ms) ≡ shares l ms = rw apart refl in
    ap₂ (λ (p q : Bool). p || q) first (past_earlier ls m ms (suc l.key) (omega arith) r.1)

-- one that the first of some locks doesn't exclude, on its key or an earlier one, is passed over
pub pass-other : (l : Lock) (ls : List Lock) (m : Lock) (ms : List Lock) → m.key ≤ l.key → RiseFrom (suc l.key) ls → excludes l m ≡ false → conflicts (l ∷ ls) (m ∷ ms) ≡ conflicts (l ∷ ls) ms
pass-other l ls m ms h r e =
    let first : shares l (m ∷ ms) ≡ shares l ms = ap (λ (b : Bool). b || shares l ms) e in
    ap₂ (λ (p q : Bool). p || q) first (past_earlier ls m ms (suc l.key) (omega arith) r)

-- no locks conflict with none
pub conflicts-none : (ls : List Lock) → conflicts ls [] ≡ false
conflicts-none [] = refl
conflicts-none (l ∷ ls) = conflicts-none ls

-- two locks that exclude each other make those that begin with them conflict
pub first-excludes : (l : Lock) (ls : List Lock) (m : Lock) (ms : List Lock) → excludes l m ≡ true → conflicts (l ∷ ls) (m ∷ ms) ≡ true
first-excludes l ls m ms e = ap (λ (b : Bool). (b || shares l ms) || conflicts ls (m ∷ ms)) e

-- the first lock that is left of some is on an earlier key than all that are left of the others
pub pass-lock : (some others : List Lock) (i j : ℕ) (d e : Lock) → Rise others → i < length some → j < length others → (get_or some i d).key < (get_or others j e).key
    → conflicts (drop (i + 1) some) (drop j others) ≡ conflicts (drop i some) (drop j others)
pass-lock some others i j d e r h k earlier =
    let l = get_or some i d in
    let m = get_or others j e in
    let left : RiseFrom 0 (m ∷ drop (j + 1) others) = subst (RiseFrom 0) (drop_more others j e k) (rise-drop others j 0 r) in
    let later : RiseFrom m.key (m ∷ drop (j + 1) others) = (omega arith, left.1) in
    sym (ap₂ conflicts (drop_more some i d h) (drop_more others j e k)
    ∙ pass-first l (drop (i + 1) some) (m ∷ drop (j + 1) others) m.key earlier later
    ∙ ap (conflicts (drop (i + 1) some)) (sym (drop_more others j e k)))

-- the first lock that is left of the others is on no later key than all that are left of some, and the first of these doesn't exclude it
pub pass-beside : (some others : List Lock) (i j : ℕ) (d e : Lock) → Rise some → i < length some → j < length others → (get_or others j e).key ≤ (get_or some i d).key
    → excludes (get_or some i d) (get_or others j e) ≡ false → conflicts (drop i some) (drop (j + 1) others) ≡ conflicts (drop i some) (drop j others)
pass-beside some others i j d e r h k no_later apart =
    let l = get_or some i d in
    let m = get_or others j e in
    let left : RiseFrom 0 (l ∷ drop (i + 1) some) = subst (RiseFrom 0) (drop_more some i d h) (rise-drop some i 0 r) in
    sym (ap₂ conflicts (drop_more some i d h) (drop_more others j e k)
    ∙ pass-other l (drop (i + 1) some) m (drop (j + 1) others) no_later left.1 apart
    ∙ ap (λ (ls : List Lock). conflicts ls (drop (j + 1) others)) (sym (drop_more some i d h)))

-- where the first locks that are left exclude each other, there is a conflict
pub found : (some others : List Lock) (i j : ℕ) (d e : Lock) → i < length some → j < length others
    → excludes (get_or some i d) (get_or others j e) ≡ true → conflicts (drop i some) (drop j others) ≡ true
found some others i j d e h k both =
    ap₂ conflicts (drop_more some i d h) (drop_more others j e k) ∙ first-excludes (get_or some i d) (drop (i + 1) some) (get_or others j e) (drop (j + 1) others) both

-- where no lock is left of the others, there is none
pub others-end : (some others : List Lock) (i j : ℕ) → length others ≤ j → conflicts (drop i some) (drop j others) ≡ false
others-end some others i j h = ap (conflicts (drop i some)) (drop_all j others h) ∙ conflicts-none (drop i some)
