-- Locks by their keys' numbers.
use Rattle.std.proofs.Common.{◌≡◌, ℕ, zero, suc, ◌+◌, ◌<◌, List, [], ◌∷◌, ◌++◌, Option, Some, None, Bool, true, false, ◌==◌, cond, get_or, length, map, refl, sym, ap, ◌∙◌, arith}
use Rattle.iso_conflicts.specs.Takers.{access_on, is_as, takes}
use Rattle.iso_model.specs.declared.access.Access.{Access}
use Rattle.iso_plan.proofs.PathLemmas.{eq_not, eq_same}
use Rattle.iso_plan.specs.KeyTable.{keys}
use Rattle.iso_plan.specs.Locks.{lock_of, locks, locks_from, taken}
use Rattle.iso_plan.specs.Tree.{Row}
use Rattle.iso_plan.specs.declared.lock.Lock.{Lock}

over : (key i : ℕ) (a : Option Access) (ls : List Lock) → (i == key) ≡ false → access_on key (lock_of i a ++ ls) ≡ access_on key ls
over key i None ls e = refl
over key i (Some a) ls e = ap (λ (t : Bool). cond t (Some a) (access_on key ls)) e

-- no lock from a number on is of a key below it
below : (key i : ℕ) (os : List (Option Access)) → key < i → access_on key (locks_from i os) ≡ None
below key i [] h = refl
below key i (o ∷ os) h =
    over key i o (locks_from (suc i) os) (eq_not i key (λ e. absurd (omega arith))) ∙ below key (suc i) os (omega arith)

here : (key : ℕ) (a : Option Access) (ls : List Lock) → access_on key ls ≡ None → access_on key (lock_of key a ++ ls) ≡ a
here key None ls e = e
here key (Some a) ls e = ap (λ (t : Bool). cond t (Some a) (access_on key ls)) (eq_same key)

-- the lock of a key is as the key is taken
taken-at : (f : List ℕ → Option Access) (ks : List (List ℕ)) (i j key : ℕ) → j < length ks → key ≡ i + j → access_on key (locks_from i (map f ks)) ≡ f (get_or ks j [])
taken-at f [] i j key h e = absurd (omega arith)
taken-at f (k ∷ ks) i zero key h e =
    let same : i ≡ key = omega arith in
    ap (λ n. access_on key (lock_of n (f k) ++ locks_from (suc n) (map f ks))) same
    ∙ here key (f k) (locks_from (suc key) (map f ks)) (below key (suc key) (map f ks) (omega arith))
taken-at f (k ∷ ks) i (suc j) key h e =
    over key i (f k) (locks_from (suc i) (map f ks)) (eq_not i key (λ s. absurd (omega arith)))
    ∙ taken-at f ks (suc i) j key (omega arith) (omega arith)

pub takes-taken : (tree : List Row) (a : Access) (key n : ℕ) → key < length (keys tree) → takes tree a key n ≡ is_as a (taken tree n (get_or (keys tree) key []))
takes-taken tree a key n h = ap (is_as a) (taken-at (taken tree n) (keys tree) 0 key key h (omega arith))
