-- The marks of the keys when those of one lock more are made anew.
use Rattle.std.proofs.Common.{◌≡◌, ℕ, ◌<◌, ◌≤◌, arith, List, ◌∷◌, Bool, true, false, ◌||◌, ◌==◌, ◌+◌, drop, cond, ap, sym, ◌∙◌, inl, inr, refl}
use Rattle.std.proofs.lemmas.Bool.{cases_eq}
use Rattle.std.specs.List.{list_any}
use Rattle.iso_floor.specs.KeyMarks.{renewed}
use Rattle.iso_plan.proofs.PathLemmas.{eq_not, eq_same}
use Rattle.iso_plan.specs.declared.lock.Lock.{Lock}

or-same : (a : Bool) (now before : Bool) → cond a now now ≡ now
or-same true now before = refl
or-same false now before = refl

step-same : (f : ℕ → Bool) (ls : List Lock) (l : Lock) (k : ℕ) (before : Bool) → k ≡ l.key
    → renewed (l ∷ ls) k (f k) before ≡ renewed ls k (f k) (cond (k == l.key) (f l.key) before)
step-same f ls l k before same =
    let e : (k == l.key) ≡ true = ap (λ (j : ℕ). k == j) (sym same) ∙ eq_same k in
    rw e (rw (sym same) (sym (or-same (list_any (λ m. k == m.key) ls) (f k) before)))

-- the lock's mark is made before those of the later ones, or with them
pub renewed-step : (f : ℕ → Bool) (ls : List Lock) (l : Lock) (k : ℕ) (before : Bool)
    → renewed (l ∷ ls) k (f k) before ≡ renewed ls k (f k) (cond (k == l.key) (f l.key) before)
renewed-step f ls l k before =
    elim (cases_eq k l.key) [
      | inl same ↦ step-same f ls l k before same
      | inr apart ↦ rw (eq_not k l.key apart) refl
    ]

-- a lock on a key that isn't marked changes no mark
pub renewed-high : (f : ℕ → Bool) (ls : List Lock) (l : Lock) (k : ℕ) (before : Bool) → k < 256 → 256 ≤ l.key → renewed (l ∷ ls) k (f k) before ≡ renewed ls k (f k) before
renewed-high f ls l k before low high =
    let apart : (k == l.key) ≡ false = eq_not k l.key (λ same. omega arith) in
    ap (λ (b : Bool). cond (b || list_any (λ m. k == m.key) ls) (f k) before) apart

-- who writes a key holds it, also when the key is marked anew
pub both-set : (same writes reads w h w' h' : Bool) → w' ≡ cond same writes w → h' ≡ cond same (writes || reads) h → (w ≡ true → h ≡ true) → w' ≡ true → h' ≡ true
both-set true true reads w h w' h' e f b t = f
both-set true false reads w h w' h' e f b t = cc
both-set false writes reads w h w' h' e f b t = f ∙ b (sym e ∙ t)

-- one lock more, whose key is marked anew
pub renewed-on : (f : ℕ → Bool) (ls : List Lock) (i : ℕ) (l : Lock) (k : ℕ) (v old new : Bool) → drop i ls ≡ l ∷ drop (i + 1) ls → v ≡ f l.key → new ≡ cond (k == l.key) v old
    → renewed (drop (i + 1) ls) k (f k) new ≡ renewed (drop i ls) k (f k) old
renewed-on f ls i l k v old new d e h =
    ap (renewed (drop (i + 1) ls) k (f k)) (h ∙ ap (λ (b : Bool). cond (k == l.key) b old) e)
    ∙ sym (renewed-step f (drop (i + 1) ls) l k old)
    ∙ ap (λ (ms : List Lock). renewed ms k (f k) old) (sym d)

-- one lock more, on a key that isn't marked
pub renewed-past : (f : ℕ → Bool) (ls : List Lock) (i : ℕ) (l : Lock) (k : ℕ) (old new : Bool) → drop i ls ≡ l ∷ drop (i + 1) ls → k < 256 → 256 ≤ l.key → new ≡ old
    → renewed (drop (i + 1) ls) k (f k) new ≡ renewed (drop i ls) k (f k) old
renewed-past f ls i l k old new d low high h =
    ap (renewed (drop (i + 1) ls) k (f k)) h ∙ sym (renewed-high f (drop (i + 1) ls) l k old low high) ∙ ap (λ (ms : List Lock). renewed ms k (f k) old) (sym d)
