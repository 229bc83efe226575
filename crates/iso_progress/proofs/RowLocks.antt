-- The locks of rows.
use Rattle.std.proofs.Common.{◌≡◌, ℕ, Bool, true, false, ◌&&◌, ◌||◌, List, Option, Some, None, ◌⊎◌, inl, inr, refl, sym, ◌∙◌}
use Rattle.std.proofs.lemmas.Bool.{eqb-true, eq-eqb}
use Rattle.iso_isolation.specs.Suites.{Shared}
use Rattle.iso_isolation.specs.Examples.{Row, is_key, equal_keys}
use Rattle.iso_progress.specs.Examples.{row_of, suite_in}

keys_meet : (p q : Option ℕ) (k : ℕ) → is_key p k ≡ true → is_key q k ≡ true → equal_keys p q ≡ true
keys_meet None q k e f = absurd cc
keys_meet (Some p) None k e f = absurd cc
keys_meet (Some p) (Some q) k e f = eq-eqb p q (sym (eqb-true k p e) ∙ eqb-true k q f)

pub two_parts : (a b : Bool) → (a && b) ≡ true → (a ≡ true) × (b ≡ true)
two_parts true b e = (refl, e)
two_parts false b e = absurd cc

one_writes : (a b c : Bool) → a ≡ true → (b ≡ true) ⊎ (c ≡ true) → (a && (b || c)) ≡ true
one_writes true true c e w = refl
one_writes true false true e w = refl
one_writes true false false e w = elim w [ inl f ↦ absurd cc | inr f ↦ absurd cc ]
one_writes false b c e w = absurd cc

pub meet : (rows : List Row) (m n : ℕ) → Shared (suite_in rows) m n → (suite_in rows).conflict m n ≡ true
meet rows m n s =
    let p = row_of rows m in
    let q = row_of rows n in
    one_writes (equal_keys p.lock q.lock) p.is_writer q.is_writer (keys_meet p.lock q.lock s.key s.left s.right)
    (elim s.write [
      | inl w ↦ inl (two_parts p.is_writer (is_key p.lock s.key) w).0
      | inr w ↦ inr (two_parts q.is_writer (is_key q.lock s.key) w).0
    ])

-- who takes a key for READ_WRITE takes it
pub write_takes : (rows : List Row) (n k : ℕ) → (suite_in rows).takes_write n k ≡ true → (suite_in rows).takes n k ≡ true
write_takes rows n k w = (two_parts (row_of rows n).is_writer (is_key (row_of rows n).lock k) w).1
