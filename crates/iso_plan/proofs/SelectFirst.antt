-- What is selected of nodes as they are written, and then gets its effective marks, is what is selected of the tree.
use Rattle.std.proofs.Common.{◌≡◌, ℕ, zero, suc, ◌-◌, ◌<◌, List, [], ◌∷◌, Bool, true, ◌||◌, ◌&&◌, not, codes, filter, length, map, reverse, unwrap_or, refl, sym, ap, ◌∙◌, subst, arith}
use Rattle.std.proofs.lemmas.List.{length-map}
use Rattle.std.specs.List.{join_by, list_any, position_from, range_with_len}
use Rattle.iso_model.specs.NameSets.{is_among}
use Rattle.iso_model.specs.Scripts.{Script}
use Rattle.iso_model.specs.Targets.{effective}
use Rattle.iso_plan.proofs.NumberLemmas.{map-passing}
use Rattle.iso_plan.proofs.PathLemmas.{IsBelow, along, path-root, path-step}
use Rattle.iso_plan.proofs.SelectionLemmas.{AreClosed, closed-below, row-left, selection-is-tree}
use Rattle.iso_plan.proofs.TreeLemmas.{effective-at, tree-is, written-placed}
use Rattle.iso_plan.specs.Paths.{IsRooted, IsTree, StandEarlier, column, is_on, is_root, outermost, parent, path, row_at}
use Rattle.iso_plan.specs.PathTexts.{path_text}
use Rattle.iso_plan.specs.KeptNodes.{first_unknown, is_kept_by, number_among, renumbered, selection, those_below, those_of}
use Rattle.iso_plan.specs.TopClasses.{all_paths, all_top_classes}
use Rattle.iso_plan.specs.Tree.{Row, effective_row, tree, with_marks, written_tree}

-- nodes of one shape and with the same names
record AreAlike (new old : List Row) : Type 0 where
  count : length new ≡ length old
  above : (n : ℕ) → parent new n ≡ parent old n
  named : (n : ℕ) → (row_at new n).name ≡ (row_at old n).name

module _ (new old : List Row) (a : AreAlike new old) (b : IsBelow old) where
  below : IsBelow new
  below n pos = let up = a.above n in let less = b n pos in omega (arith, up, less)

  paths : (n : ℕ) → path new n ≡ path old n
  paths =
      along old b (λ n. path new n ≡ path old n)
      (path-root new ∙ sym (path-root old))
      (λ n pos ih. path-step new below n pos ∙ ap (λ (ns : List ℕ). n ∷ ns) (ap (path new) (a.above n) ∙ ih) ∙ sym (path-step old b n pos))

  texts : (n : ℕ) → path_text new n ≡ path_text old n
  texts n = λ i. join_by (λ m. a.named m i) (codes ".") (reverse (paths n i))

  unknown-alike : (only : List (List ℕ)) → first_unknown new only ≡ first_unknown old only
  unknown-alike only = λ i. position_from (λ p. not (is_among (map (λ n. texts n i) (range_with_len 1 (a.count i - 1))) p)) 0 only

  kept-alike : (only : List (List ℕ)) (n : ℕ) → is_kept_by new only n ≡ is_kept_by old only n
  kept-alike only n =
      λ i. is_root n || list_any (λ m. list_any (λ k. not (is_root k) && is_among only (texts k i)) (paths m i)) (filter (λ m. is_on (paths m i) n) (range_with_len 0 (a.count i)))

  paths-alike : all_paths new ≡ all_paths old
  paths-alike = λ i. column (λ n. texts n i) (a.count i)

  classes-alike : all_top_classes new ≡ all_top_classes old
  classes-alike = λ i. column (λ n. unwrap_or (outermost (λ m. true) (paths n i)) 0) (a.count i)

map_twice : {A B C : Type 0} (f : B → C) (g : A → B) (xs : List A) → map f (map g xs) ≡ map (λ x. f (g x)) xs
map_twice f g [] = refl
map_twice f g (x ∷ xs) = ap (λ ys. f (g x) ∷ ys) (map_twice f g xs)

-- nodes of which some pass, and with each the node that it stands in
module _ (rows : List Row) (s : IsRooted rows) (passes : ℕ → Bool) (closed : AreClosed rows passes) where
  abbrev left : List Row
  left = those_of passes rows

  within : (n : ℕ) → n < length rows → parent rows n < length rows
  within zero h = let first = s.first in omega arith
  within (suc n) h = let less = s.below (suc n) (omega arith) in omega arith

  passed : (n : ℕ) → passes n ≡ true → passes (parent rows n) ≡ true
  passed zero e = ap passes s.first ∙ closed.root
  passed (suc n) e = closed.up (suc n) (omega arith) e

  -- a node that passes gets the same marks of those that are left: the one that it stands in is among them
  marked : (n : ℕ) → n < length rows → passes n ≡ true → effective_row left (renumbered passes (row_at rows n)) ≡ renumbered passes (row_at (map (effective_row rows) rows) n)
  marked n h e =
      let r = row_at rows n in
      let class : (row_at left (number_among passes r.parent)).written ≡ (row_at rows r.parent).written =
      ap (λ (q : Row). q.written) (row-left rows passes r.parent (within n h) (passed n e)) in
      (λ i. record r { parent = number_among passes r.parent; kind = with_marks (effective (class i) r.written) r.kind })
      ∙ ap (renumbered passes) (sym (effective-at rows n))

  marked-after : map (effective_row left) left ≡ those_of passes (map (effective_row rows) rows)
  marked-after =
      let before : ℕ → Row = λ n. renumbered passes (row_at rows n) in
      let after : ℕ → Row = λ n. renumbered passes (row_at (map (effective_row rows) rows) n) in
      map_twice (effective_row left) before (those_below passes (length rows))
      ∙ map-passing passes (λ n. effective_row left (before n)) after (length rows) marked
      ∙ ap (λ (k : ℕ). map after (those_below passes k)) (sym (length-map rows (effective_row rows)))

module _ (ss : List Script) where
  abbrev rows : List Row
  rows = written_tree ss

  pub written-rooted : IsRooted rows
  written-rooted = let placed = written-placed ss in record { rooted = omega arith; first = placed.first; below = placed.below }

  alike : AreAlike (tree ss) rows
  alike = record {
    count = length-map rows (effective_row rows);
    above = λ n. ap (λ (r : Row). r.parent) (effective-at rows n);
    named = λ n. ap (λ (r : Row). r.name) (effective-at rows n);
  }

  pub written-unknown : (only : List (List ℕ)) → first_unknown rows only ≡ first_unknown (tree ss) only
  written-unknown only = sym (unknown-alike (tree ss) rows alike written-rooted.below only)

  pub written-paths : all_paths rows ≡ all_paths (tree ss)
  written-paths = sym (paths-alike (tree ss) rows alike written-rooted.below)

  pub written-classes : all_top_classes rows ≡ all_top_classes (tree ss)
  written-classes = sym (classes-alike (tree ss) rows alike written-rooted.below)

  pub select-first : (only : List (List ℕ)) → map (effective_row (selection rows only)) (selection rows only) ≡ selection (tree ss) only
  select-first [] = refl
  select-first (p ∷ ps) =
      let only = p ∷ ps in
      let placed = written-rooted in
      marked-after rows placed (is_kept_by rows only) (closed-below rows placed.below only)
      ∙ sym (λ i. those_of (λ n. kept-alike (tree ss) rows alike placed.below only n i) (tree ss))

  pub count-first : (only : List (List ℕ)) → length (selection rows only) ≡ length (selection (tree ss) only)
  count-first only = let left = selection rows only in sym (length-map left (effective_row left)) ∙ ap length (select-first only)

  pub left-earlier : (only : List (List ℕ)) → StandEarlier (selection rows only)
  left-earlier only =
      let left = selection rows only in
      let t : IsTree (map (effective_row left) left) = subst IsTree (sym (select-first only)) (selection-is-tree (tree ss) (tree-is ss) only) in
      let up : (n : ℕ) → parent (map (effective_row left) left) n ≡ parent left n = λ n. ap (λ (r : Row). r.parent) (effective-at left n) in
      record { first = sym (up 0) ∙ ap (λ (r : Row). r.parent) t.root_is; below = λ n pos. subst (λ (m : ℕ). m < n) (up n) (t.below n pos) }
