-- A number past the last node takes no key for READ_WRITE.
use Rattle.std.proofs.Common.{◌≡◌, ℕ, zero, suc, ◌+◌, ◌<◌, ◌≤◌, List, [], Bool, true, false, cond, ◌&&◌, filter, length, None, Some, inl, inr, refl, sym, ap, ◌∙◌, arith}
use Rattle.std.specs.List.{flat_map, list_any, range_with_len}
use Rattle.std.specs.Str.{bytes_eq}
use Rattle.iso_locks.proofs.KeyLemmas.{written-is, written-within}
use Rattle.iso_locks.specs.Moves.{is_written}
use Rattle.iso_locks.specs.Trays.{key_at}
use Rattle.iso_model.specs.ResourceKeys.{global_key}
use Rattle.iso_model.specs.Rights.{is_writable, rights_of, strongest}
use Rattle.iso_model.specs.declared.access.Access.TheVariants.{Read, Write}
use Rattle.iso_plan.proofs.PathLemmas.{under-le}
use Rattle.iso_plan.specs.Locks.{effective_marks, is_locking, isolates, locks, taken}
use Rattle.iso_plan.specs.Paths.{IsTree, is_top, is_under, nodes_under}
use Rattle.iso_plan.specs.Tree.{Row}
use Rattle.iso_serial.proofs.ResultLemmas.{true-or-false}

none-kept : (test : ℕ → Bool) (first n : ℕ) → ((m : ℕ) → m < first + n → test m ≡ false) → filter test (range_with_len first n) ≡ []
none-kept test first zero none = refl
none-kept test first (suc n) none =
    let here : test first ≡ false = none first (omega arith) in
    rw here (none-kept test (first + 1) n (λ m less. none m (omega (arith, less))))

by-cases : (a b c : Bool) → is_writable (strongest (cond (a && b) (Some (cond (a && false) Write Read)) None) (cond c None None)) ≡ false
by-cases true true true = refl
by-cases true true false = refl
by-cases true false true = refl
by-cases true false false = refl
by-cases false b true = refl
by-cases false b false = refl

module _ (tree : List Row) (t : IsTree tree) (n : ℕ) (past : length tree ≤ n) where
  holds-none : nodes_under tree n ≡ []
  holds-none = none-kept (is_under tree n) 0 (length tree) (λ m less. elim (true-or-false (is_under tree n m)) [
    | inl under ↦ let le = under-le tree t.below n m under in let more = past in absurd (omega arith)
    | inr apart ↦ apart
  ])

  takes-nothing : (k : List ℕ) → is_writable (taken tree n k) ≡ false
  takes-nothing k =
      ap (λ (ns : List ℕ). is_writable (strongest
      (cond (is_top tree n && bytes_eq global_key k) (Some (cond (is_top tree n && list_any (isolates tree) ns) Write Read)) None)
      (cond (is_locking tree n) (rights_of (flat_map (effective_marks tree) ns) k) None))) holds-none
      ∙ by-cases (is_top tree n) (bytes_eq global_key k) (is_locking tree n)

  pub not-written : (i : ℕ) → is_written (locks tree n) i ≡ true → ⊥
  not-written i writes =
      let less = written-within tree n i writes in
      let wrong : false ≡ true = sym (takes-nothing (key_at tree i)) ∙ sym (written-is tree n i less) ∙ writes in
      cc
