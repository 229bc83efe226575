-- The lowest key on which two nodes conflict, found side by side, and kept for nodes that take the same keys.
use Rattle.std.proofs.Common.{◌≡◌, ℕ, suc, ◌+◌, ◌<◌, ◌≤◌, List, [], ◌∷◌, length, drop, get_or, Option, Some, None, Bool, true, false, ◌||◌, ◌==◌, cond, ap, ap₂, sym, subst, ◌∙◌, arith, refl}
use Rattle.std.proofs.lemmas.List.{drop_all, drop_more}
use Rattle.iso_plan.proofs.MergeLemmas.{rise-drop, shares-later}
use Rattle.iso_plan.proofs.PathLemmas.{eq_not}
use Rattle.iso_plan.specs.Conflicts.{excludes, shares}
use Rattle.iso_plan.specs.Rising.{Rise, RiseFrom}
use Rattle.iso_plan.specs.declared.lock.Lock.{Lock}
use Rattle.iso_waits.specs.ContendedKeys.{first_shared}

-- a lock on an earlier key than all of some others is passed over
first-passed : (l : Lock) (ls ms : List Lock) (j : ℕ) → l.key < j → RiseFrom j ms → first_shared (l ∷ ls) ms ≡ first_shared ls ms
first-passed l ls ms j h r = ap (λ (b : Bool). cond b (Some l.key) (first_shared ls ms)) (shares-later l ms j h r)

earlier-passed : (ls : List Lock) (m : Lock) (ms : List Lock) (j : ℕ) → m.key < j → RiseFrom j ls → first_shared ls (m ∷ ms) ≡ first_shared ls ms
earlier-passed [] m ms j h r = refl
earlier-passed (l ∷ ls) m ms j h r =
    let low = r.0 in
    let apart : (l.key == m.key) ≡ false = eq_not l.key m.key (λ same. omega arith) in
    let first : shares l (m ∷ ms) ≡ shares l ms = rw apart refl in
    ap₂ (λ (b : Bool) (rest : Option ℕ). cond b (Some l.key) rest) first (earlier-passed ls m ms (suc l.key) (omega arith) r.1)

-- one that the first of some locks doesn't exclude, on its key or an earlier one, is passed over
other-passed : (l : Lock) (ls : List Lock) (m : Lock) (ms : List Lock) → m.key ≤ l.key → RiseFrom (suc l.key) ls → excludes l m ≡ false → first_shared (l ∷ ls) (m ∷ ms) ≡ first_shared (l ∷ ls) ms
other-passed l ls m ms h r e =
    ap₂ (λ (b : Bool) (rest : Option ℕ). cond b (Some l.key) rest) (ap (λ (b : Bool). b || shares l ms) e) (earlier-passed ls m ms (suc l.key) (omega arith) r)

none-shared : (ls : List Lock) → first_shared ls [] ≡ None
none-shared [] = refl
none-shared (l ∷ ls) = none-shared ls

-- the first lock that is left of some is on an earlier key than all that are left of the others
pub pass-lock : (some others : List Lock) (i j : ℕ) (d e : Lock) → Rise others → i < length some → j < length others → (get_or some i d).key < (get_or others j e).key
    → first_shared (drop (i + 1) some) (drop j others) ≡ first_shared (drop i some) (drop j others)
pass-lock some others i j d e r h k earlier =
    let l = get_or some i d in
    let m = get_or others j e in
    let left : RiseFrom 0 (m ∷ drop (j + 1) others) = subst (RiseFrom 0) (drop_more others j e k) (rise-drop others j 0 r) in
    let later : RiseFrom m.key (m ∷ drop (j + 1) others) = (omega arith, left.1) in
    sym (ap₂ first_shared (drop_more some i d h) (drop_more others j e k)
    ∙ first-passed l (drop (i + 1) some) (m ∷ drop (j + 1) others) m.key earlier later
    ∙ ap (first_shared (drop (i + 1) some)) (sym (drop_more others j e k)))

-- the first lock that is left of the others is on no later key than all that are left of some, and the first of these doesn't exclude it
pub pass-beside : (some others : List Lock) (i j : ℕ) (d e : Lock) → Rise some → i < length some → j < length others → (get_or others j e).key ≤ (get_or some i d).key
    → excludes (get_or some i d) (get_or others j e) ≡ false → first_shared (drop i some) (drop (j + 1) others) ≡ first_shared (drop i some) (drop j others)
pass-beside some others i j d e r h k no_later apart =
    let l = get_or some i d in
    let m = get_or others j e in
    let left : RiseFrom 0 (l ∷ drop (i + 1) some) = subst (RiseFrom 0) (drop_more some i d h) (rise-drop some i 0 r) in
    sym (ap₂ first_shared (drop_more some i d h) (drop_more others j e k)
    ∙ other-passed l (drop (i + 1) some) m (drop (j + 1) others) no_later left.1 apart
    ∙ ap (λ (ls : List Lock). first_shared ls (drop (j + 1) others)) (sym (drop_more some i d h)))

-- where the first locks that are left exclude each other, that is their key
pub shared-here : (some others : List Lock) (i j : ℕ) (d e : Lock) → i < length some → j < length others
    → excludes (get_or some i d) (get_or others j e) ≡ true → first_shared (drop i some) (drop j others) ≡ Some (get_or some i d).key
shared-here some others i j d e h k both =
    let l = get_or some i d in
    let m = get_or others j e in
    ap₂ first_shared (drop_more some i d h) (drop_more others j e k)
    ∙ ap (λ (b : Bool). cond (b || shares l (drop (j + 1) others)) (Some l.key) (first_shared (drop (i + 1) some) (m ∷ drop (j + 1) others))) both

-- where no lock is left of some, or none of the others, there is none
pub some-end : (some others : List Lock) (i j : ℕ) → length some ≤ i → first_shared (drop i some) (drop j others) ≡ None
some-end some others i j h = ap (λ (ls : List Lock). first_shared ls (drop j others)) (drop_all i some h)

pub others-end : (some others : List Lock) (i j : ℕ) → length others ≤ j → first_shared (drop i some) (drop j others) ≡ None
others-end some others i j h = ap (first_shared (drop i some)) (drop_all j others h) ∙ none-shared (drop i some)
