-- The lines of keys, piece by piece.
use Rattle.std.proofs.Common.{◌≡◌, ℕ, ◌<◌, List, [], ◌++◌, Bool, false, ◌==◌, cond, codes, length, refl, sym, ap, ◌∙◌, append_assoc}
use Rattle.iso_conflicts.specs.ConflictsText.{shared_text, spaced_paths, takers_line}
use Rattle.iso_conflicts.specs.declared.longest.Shared.TheVariants.{Class}
use Rattle.iso_plan.proofs.PathLemmas.{not-root}
use Rattle.iso_plan.specs.Paths.{is_root}
use Rattle.iso_plan.specs.PathTexts.{path_text}
use Rattle.iso_plan.specs.Tree.{Row}

-- the line of those that take a key, and of none
pub line-of : (tree : List Row) (word : List ℕ) (ns : List ℕ) → (length ns == 0) ≡ false → codes "    " ++ word ++ codes ":" ++ spaced_paths tree ns ++ codes "\n" ≡ takers_line tree word ns
line-of tree word ns e =
    sym (ap (λ (t : Bool). cond t [] (codes "    " ++ word ++ codes ":" ++ spaced_paths tree ns ++ codes "\n")) e)

pub no-line : (tree : List Row) (word : List ℕ) (ns : List ℕ) → ns ≡ [] → [] ≡ takers_line tree word ns
no-line tree word ns e = sym (ap (takers_line tree word) e)

-- the thread of the root, and of a class
pub of-root : (tree : List Row) (n : ℕ) → n ≡ 0 → codes "top-level classes" ≡ shared_text tree (Class n)
of-root tree n e = sym (ap (λ m. shared_text tree (Class m)) e)

pub of-class : (tree : List Row) (n : ℕ) → 0 < n → codes "class " ++ path_text tree n ≡ shared_text tree (Class n)
of-class tree n pos = sym (ap (λ (t : Bool). cond t (codes "top-level classes") (codes "class " ++ path_text tree n)) (not-root n pos))

-- the pieces before the nodes of a line
pub word-head : {a x : List ℕ} → a ≡ x → codes "    " ++ (a ++ (codes ":" ++ [])) ≡ codes "    " ++ x ++ codes ":"
word-head {x = x} e = rw e (sym (append_assoc (codes "    ") x (codes ":")))
