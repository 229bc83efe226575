-- The tree by the marks as they are written declares the same as the one by merged marks.
use Rattle.std.proofs.Common.{◌≡◌, ℕ, zero, suc, ◌+◌, ◌<◌, ◌≤◌, List, [], ◌∷◌, true, false, length, nat_lt, refl, sym, ap, ap₂, ◌∙◌, subst, arith, bytes_eq}
use Rattle.std.proofs.lemmas.Bool.Decides.{nat_tests}
use Rattle.std.proofs.lemmas.List.{get_or-map, get_or_past, length-map}
use Rattle.std.proofs.lemmas.List.Sums.{fold-append}
use Rattle.std.specs.List.{list_any}
use Rattle.indexmap.specs.IndexSet.{insert_all, insert_key}
use Rattle.iso_model.specs.ResourceKeys.{global_key}
use Rattle.iso_model.specs.Rights.{rights_of}
use Rattle.iso_model.specs.Targets.{effective}
use Rattle.iso_model.specs.declared.heads.Mark.{Mark}
use Rattle.iso_model.specs.declared.limits.TheConstants.{KEYS}
use Rattle.iso_plan.proofs.BoundLemmas.{all-kept, merged_apart, row_keys, two-of-each}
use Rattle.iso_plan.proofs.ColumnLemmas.{column-read, length-column}
use Rattle.iso_plan.proofs.LawLemmas.{all_have}
use Rattle.iso_plan.proofs.SameMarks.{keys_and, merged-effective, merged-keys}
use Rattle.iso_plan.proofs.SameTrees.{DeclareTheSame}
use Rattle.iso_plan.specs.KeyTable.{keys, kind_marks, mark_keys, marked_keys}
use Rattle.iso_plan.specs.Merged.{all_merged, merged}
use Rattle.iso_plan.specs.Paths.{IsTree, is_class_or_test, parent, row_at}
use Rattle.iso_plan.specs.Tree.{Kind, root, class_node, test_node, Row, effective_row, root_row, with_marks}
use Rattle.iso_plan.specs.WrittenMarks.{AreWritten, rows_with, tree_with}

-- where a tree has no more keys than may be, no mark of its nodes is left out
all_counted : (tree : List Row) (marks : ℕ → List Mark) → length (keys tree) ≤ KEYS + 1 → AreWritten tree marks → (n : ℕ) → n < length tree → (row_at tree n).written ≡ all_merged (marks n)
all_counted tree marks few written n h =
    let is : (row_at tree n).written ≡ merged (marks n) = written n h in
    let most : length (merged (marks n)) ≤ length (keys tree) + length (keys tree) =
    two-of-each (merged (marks n)) (keys tree) (merged_apart (marks n))
    (λ k there. all_have (marked_keys tree) (global_key ∷ []) k (row_keys tree n k (ap (λ (ms : List Mark). list_any (bytes_eq k) (mark_keys ms)) is ∙ there))) in
    is ∙ all-kept (marks n) (omega (arith, few, most))

same_keys : (rs ss : List Row) → length rs ≡ length ss → ((n : ℕ) → n < length ss → (ks : List (List ℕ)) → keys_and ks (row_at rs n).written ≡ keys_and ks (row_at ss n).written)
    → (ks : List (List ℕ)) → insert_all bytes_eq ks (marked_keys rs) ≡ insert_all bytes_eq ks (marked_keys ss)
same_keys [] [] l each ks = refl
same_keys [] (s ∷ ss) l each ks = absurd (omega (arith, l))
same_keys (r ∷ rs) [] l each ks = absurd (omega (arith, l))
same_keys (r ∷ rs) (s ∷ ss) l each ks =
    fold-append (insert_key bytes_eq) ks (mark_keys r.written) (marked_keys rs)
    ∙ ap (λ (js : List (List ℕ)). insert_all bytes_eq js (marked_keys rs)) (each 0 (omega arith) ks)
    ∙ same_keys rs ss (omega (arith, l)) (λ n h. each (suc n) (omega (arith, h))) (keys_and ks s.written)
    ∙ sym (fold-append (insert_key bytes_eq) ks (mark_keys s.written) (marked_keys ss))

marks_of_kind : (ms : List Mark) (kind : Kind) → is_class_or_test kind ≡ true → kind_marks (with_marks ms kind) ≡ ms
marks_of_kind ms root h = let wrong : false ≡ true = h in absurd (cc)
marks_of_kind ms (class_node isolated head) h = refl
marks_of_kind ms (test_node head) h = refl

with_own : (ms : List Mark) (kind : Kind) → with_marks ms kind ≡ with_marks (kind_marks (with_marks ms kind)) kind
with_own ms root = refl
with_own ms (class_node isolated head) = refl
with_own ms (test_node head) = refl

module _ (tree : List Row) (t : IsTree tree) (marks : ℕ → List Mark) (all : (n : ℕ) → n < length tree → (row_at tree n).written ≡ all_merged (marks n)) where
  abbrev rows : List Row
  rows = rows_with tree marks

  abbrev new : List Row
  new = tree_with tree marks

  abbrev written_row : ℕ → Row
  written_row n = record (row_at tree n) { written = marks n }

  rows_count : length rows ≡ length tree
  rows_count = length-column written_row (length tree)

  count : length new ≡ length tree
  count = length-map rows (effective_row rows) ∙ rows_count

  row_there : (n : ℕ) → n < length tree → row_at rows n ≡ written_row n
  row_there n h = column-read written_row rows (length tree) n root_row refl h

  new_there : (n : ℕ) → n < length tree → row_at new n ≡ effective_row rows (written_row n)
  new_there n h = get_or-map (effective_row rows) rows n root_row root_row (rw rows_count h) ∙ ap (effective_row rows) (row_there n h)

  -- a fact of each two rows: of those that are there, and of the root where there is none
  by_place : (P : Row → Row → Type 0) → ((n : ℕ) → n < length tree → P (effective_row rows (written_row n)) (row_at tree n)) → P root_row root_row → (n : ℕ) → P (row_at new n) (row_at tree n)
  by_place P there past n =
      elim (nat_lt n (length tree)) as (λ b. nat_lt n (length tree) ≡ b → P (row_at new n) (row_at tree n)) [
        | true ↦ λ e. let h : n < length tree = grind (arith, nat_tests) in subst (λ (r : Row). P r (row_at tree n)) (sym (new_there n h)) (there n h)
        | false ↦ λ e.
            let h : length tree ≤ n = grind (arith, nat_tests) in
            subst (λ (r : Row). P r (row_at tree n)) (sym (get_or_past new n root_row (rw count h)))
            (subst (λ (r : Row). P root_row r) (sym (get_or_past tree n root_row h)) past)
      ] refl

  root_declares : (ms : List Mark) (r : Row) (k : List ℕ) → r ≡ root_row → rights_of (kind_marks (with_marks ms r.kind)) k ≡ rights_of (kind_marks r.kind) k
  root_declares ms r k is = ap (λ (q : Row). rights_of (kind_marks (with_marks ms q.kind)) k) is ∙ sym (ap (λ (q : Row). rights_of (kind_marks q.kind) k) is)

  declares_there : (k : List ℕ) (n : ℕ) → n < length tree → rights_of (kind_marks (effective_row rows (written_row n)).kind) k ≡ rights_of (kind_marks (row_at tree n).kind) k
  declares_there k zero h = root_declares (effective (row_at rows (parent tree 0)).written (marks 0)) (row_at tree 0) k t.root_is
  declares_there k (suc n) h =
      let p = parent tree (suc n) in
      let less : p < suc n = t.below (suc n) (omega arith) in
      let within : p < length tree = omega (arith, less, h) in
      let above : (row_at rows p).written ≡ marks p = ap (λ (r : Row). r.written) (row_there p within) in
      ap (λ (ms : List Mark). rights_of ms k) (marks_of_kind (effective (row_at rows p).written (marks (suc n))) (row_at tree (suc n)).kind (t.full (suc n) (omega arith) h))
      ∙ ap (λ (ms : List Mark). rights_of (effective ms (marks (suc n))) k) above
      ∙ sym (merged-effective (marks p) (marks (suc n)) k)
      ∙ ap₂ (λ (ms ns : List Mark). rights_of (effective ms ns) k) (sym (all p within)) (sym (all (suc n) h))
      ∙ ap (λ (ms : List Mark). rights_of ms k) (sym (t.marked (suc n) (omega arith) h))

  keys_there : (n : ℕ) → n < length tree → (ks : List (List ℕ)) → keys_and ks (row_at new n).written ≡ keys_and ks (row_at tree n).written
  keys_there n h ks =
      ap (λ (r : Row). keys_and ks r.written) (new_there n h) ∙ sym (merged-keys (marks n) ks) ∙ ap (keys_and ks) (sym (all n h))

  pub declare-the-same : DeclareTheSame new tree
  declare-the-same = record {
    count = count;
    above = by_place (λ r q. r.parent ≡ q.parent) (λ n h. refl) refl;
    kinds = by_place (λ r q. r.kind ≡ with_marks (kind_marks r.kind) q.kind)
        (λ n h. with_own (effective (row_at rows (parent tree n)).written (marks n)) (row_at tree n).kind) refl;
    same = λ n k. by_place (λ r q. rights_of (kind_marks r.kind) k ≡ rights_of (kind_marks q.kind) k) (declares_there k) refl n;
    marked = by_place (λ r q. r.mode ≡ q.mode) (λ n h. refl) refl;
    keyed = same_keys new tree count keys_there (global_key ∷ []);
  }

pub written-the-same : (tree : List Row) → IsTree tree → length (keys tree) ≤ KEYS + 1 → (marks : ℕ → List Mark) → AreWritten tree marks → DeclareTheSame (tree_with tree marks) tree
written-the-same tree t few marks written = declare-the-same tree t marks (all_counted tree marks few written)
