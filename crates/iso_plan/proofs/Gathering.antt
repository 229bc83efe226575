-- Who is in the way of a node that is no top-level class has gathered the locks of all that stands in it.
use Rattle.std.proofs.Common.{◌≡◌, ℕ, List, [], ◌∷◌, Option, Some, None, Bool, true, false, ◌||◌, ⊎_elim, refl, sym, ap, ◌∙◌}
use Rattle.std.specs.List.{list_any}
use Rattle.iso_model.specs.Rights.{is_readable}
use Rattle.iso_model.specs.declared.access.Access.{Access}
use Rattle.iso_plan.proofs.LawLemmas.{both_lock, excluded, gathers_global, takes-by, top_alone}
use Rattle.iso_plan.proofs.PathLemmas.{IsBelow}
use Rattle.iso_plan.specs.KeyTable.{keys}
use Rattle.iso_plan.specs.Locks.{conflict, exclude, gathered, is_locking, taken}
use Rattle.iso_plan.specs.Paths.{is_top, is_under}
use Rattle.iso_plan.specs.Tree.{Row}

-- a key that two nodes take
record Common (tree : List Row) (m n : ℕ) : Type 0 where
  key : List ℕ
  left : is_readable (taken tree m key) ≡ true
  right : is_readable (taken tree n key) ≡ true

common_by : (tree : List Row) (m n : ℕ) (k : List ℕ) → (b : Bool) → exclude (taken tree m k) (taken tree n k) ≡ b
    → (rest : Bool) → (b || rest) ≡ true → (rest ≡ true → Common tree m n) → Common tree m n
common_by tree m n k true e rest h ih =
    let r = excluded (taken tree m k) (taken tree n k) e in
    record { key = k; left = r.0; right = r.1 }
common_by tree m n k false e rest h ih = ih h

common_in : (tree : List Row) (m n : ℕ) (ks : List (List ℕ)) → list_any (λ k. exclude (taken tree m k) (taken tree n k)) ks ≡ true → Common tree m n
common_in tree m n [] h = let wrong : false ≡ true = h in absurd (cc)
common_in tree m n (k ∷ ks) h =
    common_by tree m n k (exclude (taken tree m k) (taken tree n k)) refl (list_any (λ j. exclude (taken tree m j) (taken tree n j)) ks) h (common_in tree m n ks)

-- a node below a locking node takes no key
below_takes : (tree : List Row) → IsBelow tree → (m d : ℕ) (k : List ℕ) → is_locking tree m ≡ true → is_under tree m d ≡ true → (m ≡ d → ⊥) → is_readable (taken tree d k) ≡ true → ⊥
below_takes tree b m d k lm u other r =
    ⊎_elim (λ td. other (top_alone tree b m d td.0 u)) (λ ld. other (both_lock tree b m d lm ld.0 u)) (takes-by tree d k r)

-- where a node that is no top-level class takes a key, it is a locking node, and the key isn't the global one
holder_locks : (tree : List Row) → IsBelow tree → (m n : ℕ) → is_top tree n ≡ false → Common tree m n → is_locking tree m ≡ true
holder_locks tree b m n low c =
    ⊎_elim (λ tn. let wrong : true ≡ false = sym tn.0 ∙ low in absurd (cc))
    (λ ln. ⊎_elim
    (λ tm. let top : is_top tree n ≡ true = gathers_global tree b n ln.0 (ap (λ (j : List ℕ). is_readable (gathered tree n j)) tm.1 ∙ ln.1) in
    let wrong : true ≡ false = sym top ∙ low in absurd (cc))
    (λ lm. lm.0)
    (takes-by tree m c.key c.left))
    (takes-by tree n c.key c.right)

excludes_none : (a b : Option Access) → (is_readable b ≡ true → ⊥) → exclude a b ≡ false
excludes_none None b h = refl
excludes_none (Some a) None h = refl
excludes_none (Some a) (Some b) h = absurd (h refl)

none_in : (tree : List Row) (j d : ℕ) → ((k : List ℕ) → is_readable (taken tree d k) ≡ true → ⊥) → (ks : List (List ℕ)) → list_any (λ k. exclude (taken tree j k) (taken tree d k)) ks ≡ false
none_in tree j d h [] = refl
none_in tree j d h (k ∷ ks) = rw (excludes_none (taken tree j k) (taken tree d k) (h k)) (none_in tree j d h ks)

-- what takes no key conflicts with none
pub conflict-none : (tree : List Row) (j d : ℕ) → ((k : List ℕ) → is_readable (taken tree d k) ≡ true → ⊥) → conflict tree j d ≡ false
conflict-none tree j d h = none_in tree j d h (keys tree)

pub holders-gather : (tree : List Row) → IsBelow tree → (m n d j : ℕ) → conflict tree m n ≡ true → is_top tree n ≡ false → is_under tree m d ≡ true → (m ≡ d → ⊥) → conflict tree j d ≡ false
holders-gather tree b m n d j c low u other =
    let locks = holder_locks tree b m n low (common_in tree m n (keys tree) c) in
    conflict-none tree j d (λ k. below_takes tree b m d k locks u other)

from_none : (a b : Option Access) → (is_readable a ≡ true → ⊥) → exclude a b ≡ false
from_none None b h = refl
from_none (Some a) b h = absurd (h refl)

from_none_in : (tree : List Row) (d j : ℕ) → ((k : List ℕ) → is_readable (taken tree d k) ≡ true → ⊥) → (ks : List (List ℕ)) → list_any (λ k. exclude (taken tree d k) (taken tree j k)) ks ≡ false
from_none_in tree d j h [] = refl
from_none_in tree d j h (k ∷ ks) = rw (from_none (taken tree d k) (taken tree j k) (h k)) (from_none_in tree d j h ks)

-- and none conflicts with it
pub conflict-from-none : (tree : List Row) (d j : ℕ) → ((k : List ℕ) → is_readable (taken tree d k) ≡ true → ⊥) → conflict tree d j ≡ false
conflict-from-none tree d j h = from_none_in tree d j h (keys tree)
