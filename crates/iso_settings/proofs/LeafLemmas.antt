-- The leaves of a table at a joined key: they stand where the rest of the key leads from the values whose keys begin it.
use Rattle.std.proofs.Common.{◌≡◌, ℕ, List, [], ◌∷◌, ◌++◌, bytes_eq, codes, refl, sym, ap, ◌∙◌, inl, inr}
use Rattle.std.proofs.lemmas.Bool.{cases_Bool}
use Rattle.std.proofs.lemmas.Bool.Decides.{same_from_decides}
use Rattle.std.proofs.lemmas.List.{append_assoc, append_cancel_left, append-nil}
use Rattle.std.proofs.lemmas.Slice.Eq.{bytes_eq-Decides}
use Rattle.toml.specs.Data.{Data, string, integer, float, boolean, datetime, array, table, Members, no_members, member}
use Rattle.iso_settings.specs.Leaves.{Leaf, leaves, leaves_at, leaves_behind, values_at}

values_at-append : (k : List ℕ) (xs ys : List Leaf) → values_at k (xs ++ ys) ≡ values_at k xs ++ values_at k ys
values_at-append k [] ys = refl
values_at-append k (x ∷ xs) ys =
    elim (cases_Bool (bytes_eq x.0 k)) [
      | inl same ↦ rw (same, values_at-append k xs ys)
      | inr other ↦ rw (other, values_at-append k xs ys)
    ]

bytes_eq-behind : (p x k : List ℕ) → bytes_eq (p ++ x) (p ++ k) ≡ bytes_eq x k
bytes_eq-behind p x k =
    same_from_decides _ _ (bytes_eq-Decides (p ++ x) (p ++ k))
    (λ e. ap (λ (t : List ℕ). p ++ t) ((bytes_eq-Decides x k).0 e), λ e. (bytes_eq-Decides x k).1 (append_cancel_left p x k e))

-- one leaf more, where the tests are equal
one_leaf : (p k x : List ℕ) (d : Data) → values_at (p ++ k) ((p ++ x, d) ∷ []) ≡ values_at k ((x, d) ∷ [])
one_leaf p k x d = rw (bytes_eq-behind p x k)

mutual
  at_behind : (d : Data) (p k x : List ℕ) → values_at (p ++ k) (leaves_at (p ++ x) d) ≡ values_at k (leaves_at x d)
  at_behind (table ms) p k x = rw (append_assoc p x (codes ".")) (behind ms p k (x ++ codes "."))
  at_behind (string s) p k x = one_leaf p k x (string s)
  at_behind (integer z) p k x = one_leaf p k x (integer z)
  at_behind (float f) p k x = one_leaf p k x (float f)
  at_behind (boolean b) p k x = one_leaf p k x (boolean b)
  at_behind (datetime t) p k x = one_leaf p k x (datetime t)
  at_behind (array xs) p k x = one_leaf p k x (array xs)

  behind : (ms : Members) (p k path : List ℕ) → values_at (p ++ k) (leaves_behind (p ++ path) ms) ≡ values_at k (leaves_behind path ms)
  behind no_members p k path = refl
  behind (member x d ms) p k path =
      values_at-append (p ++ k) (leaves_at ((p ++ path) ++ x) d) (leaves_behind (p ++ path) ms)
      ∙ rw (append_assoc p path x, at_behind d p k (path ++ x), behind ms p k path) (sym (values_at-append k (leaves_at (path ++ x) d) (leaves_behind path ms)))

-- no leaf is at a key that does not begin with this path
abbrev Elsewhere : List ℕ → List ℕ → Type 0
Elsewhere p k = (rest : List ℕ) → ¬ (k ≡ p ++ rest)

no_leaf : (p k x : List ℕ) (d : Data) → Elsewhere p k → values_at k ((p ++ x, d) ∷ []) ≡ []
no_leaf p k x d other =
    elim (cases_Bool (bytes_eq (p ++ x) k)) [
      | inl same ↦ absurd (other x (sym ((bytes_eq-Decides (p ++ x) k).0 same)))
      | inr differs ↦ rw differs
    ]

mutual
  at_elsewhere : (d : Data) (p k x : List ℕ) → Elsewhere p k → values_at k (leaves_at (p ++ x) d) ≡ []
  at_elsewhere (table ms) p k x other = rw (append_assoc p x (codes ".")) (elsewhere ms p k (x ++ codes ".") other)
  at_elsewhere (string s) p k x other = no_leaf p k x (string s) other
  at_elsewhere (integer z) p k x other = no_leaf p k x (integer z) other
  at_elsewhere (float f) p k x other = no_leaf p k x (float f) other
  at_elsewhere (boolean b) p k x other = no_leaf p k x (boolean b) other
  at_elsewhere (datetime t) p k x other = no_leaf p k x (datetime t) other
  at_elsewhere (array xs) p k x other = no_leaf p k x (array xs) other

  elsewhere : (ms : Members) (p k path : List ℕ) → Elsewhere p k → values_at k (leaves_behind (p ++ path) ms) ≡ []
  elsewhere no_members p k path other = refl
  elsewhere (member x d ms) p k path other =
      values_at-append k (leaves_at ((p ++ path) ++ x) d) (leaves_behind (p ++ path) ms)
      ∙ rw (append_assoc p path x, at_elsewhere d p k (path ++ x) other, elsewhere ms p k path other)

-- at a member whose key begins the joined key, the rest of it decides
pub values_at-member : (k x : List ℕ) (d : Data) (ms : Members) (rest : List ℕ) → k ≡ x ++ rest
    → values_at k (leaves (member x d ms)) ≡ values_at rest (leaves_at [] d) ++ values_at k (leaves ms)
values_at-member k x d ms rest e =
    values_at-append k (leaves_at x d) (leaves ms)
    ∙ ap (λ (vs : List Data). vs ++ values_at k (leaves ms)) (rw e ((rw (append-nil x) at (at_behind d x rest []))))

-- at any other member nothing is
pub values_at-other : (k x : List ℕ) (d : Data) (ms : Members) → Elsewhere x k → values_at k (leaves (member x d ms)) ≡ values_at k (leaves ms)
values_at-other k x d ms other =
    values_at-append k (leaves_at x d) (leaves ms)
    ∙ ap (λ (vs : List Data). vs ++ values_at k (leaves ms)) (rw (append-nil x) at (at_elsewhere d x k [] other))

-- in a table, behind a dot
pub values_at-inside : (k rest : List ℕ) (ms : Members) → k ≡ 46 ∷ rest → values_at k (leaves_at [] (table ms)) ≡ values_at rest (leaves ms)
values_at-inside k rest ms e = rw e (behind ms (codes ".") rest [])

pub values_at-outside : (k : List ℕ) (ms : Members) → ((rest : List ℕ) → ¬ (k ≡ 46 ∷ rest)) → values_at k (leaves_at [] (table ms)) ≡ []
values_at-outside k ms other = elsewhere ms (codes ".") k [] other
