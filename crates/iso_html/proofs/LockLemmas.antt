-- The locks of a node on a key.
use Rattle.std.proofs.Common.{◌≡◌, ℕ, zero, suc, ◌+◌, ◌<◌, List, [], ◌∷◌, ◌++◌, Option, Some, None, Bool, false, ◌==◌, cond, get_or, length, map, refl, ap, ◌∙◌, arith}
use Rattle.iso_html.specs.KeyUses.{locks_on}
use Rattle.iso_model.specs.declared.access.Access.{Access}
use Rattle.iso_plan.proofs.PathLemmas.{eq_not, eq_same}
use Rattle.iso_plan.specs.KeyTable.{keys}
use Rattle.iso_plan.specs.Locks.{lock_of, locks, locks_from, taken}
use Rattle.iso_plan.specs.Tree.{Row}
use Rattle.iso_plan.specs.declared.lock.Lock.{Lock}

over : (key i : ℕ) (a : Option Access) (ls : List Lock) → (i == key) ≡ false → locks_on key (lock_of i a ++ ls) ≡ locks_on key ls
over key i None ls e = refl
over key i (Some a) ls e = ap (λ (t : Bool). cond t (record { key = i; access = a } ∷ locks_on key ls) (locks_on key ls)) e

-- no lock from a number on is of a key below it
below : (key i : ℕ) (os : List (Option Access)) → key < i → locks_on key (locks_from i os) ≡ []
below key i [] h = refl
below key i (o ∷ os) h =
    over key i o (locks_from (suc i) os) (eq_not i key (λ e. absurd (omega arith))) ∙ below key (suc i) os (omega arith)

here : (key : ℕ) (a : Option Access) (ls : List Lock) → locks_on key ls ≡ [] → locks_on key (lock_of key a ++ ls) ≡ lock_of key a
here key None ls e = e
here key (Some a) ls e =
    ap (λ (t : Bool). cond t (record { key = key; access = a } ∷ locks_on key ls) (locks_on key ls)) (eq_same key)
    ∙ ap (λ (ms : List Lock). record { key = key; access = a } ∷ ms) e

taken-at : (f : List ℕ → Option Access) (ks : List (List ℕ)) (i j key : ℕ) → j < length ks → key ≡ i + j
    → locks_on key (locks_from i (map f ks)) ≡ lock_of key (f (get_or ks j []))
taken-at f [] i j key h e = absurd (omega arith)
taken-at f (k ∷ ks) i zero key h e =
    let same : i ≡ key = omega arith in
    ap (λ n. locks_on key (lock_of n (f k) ++ locks_from (suc n) (map f ks))) same
    ∙ here key (f k) (locks_from (suc key) (map f ks)) (below key (suc key) (map f ks) (omega arith))
taken-at f (k ∷ ks) i (suc j) key h e =
    over key i (f k) (locks_from (suc i) (map f ks)) (eq_not i key (λ s. absurd (omega arith)))
    ∙ taken-at f ks (suc i) j key (omega arith) (omega arith)

pub locks-taken : (tree : List Row) (key n : ℕ) → key < length (keys tree) → locks_on key (locks tree n) ≡ lock_of key (taken tree n (get_or (keys tree) key []))
locks-taken tree key n h = taken-at (taken tree n) (keys tree) 0 key key h (omega arith)
