-- Nodes by their numbers, as an overview of scripts has them.
use Rattle.std.proofs.Common.{◌≡◌, ℕ, zero, suc, ◌+◌, ◌-◌, ◌<◌, ◌≤◌, List, Option, Some, None, [], ◌∷◌, ◌++◌, drop, length, map, get_or, Bool, true, false, not, ◌||◌, ◌&&◌, ◌==◌, nat_lt, cond, refl, sym, ap, ap₂, ◌∙◌, arith, add-one}
use Rattle.std.proofs.lemmas.Bool.Decides.{nat_tests}
use Rattle.std.proofs.lemmas.List.{drop-append-le}
use Rattle.std.proofs.lemmas.List.Folds.{list_any-append}
use Rattle.std.proofs.lemmas.List.FromFn.{map-range_with_len_more}
use Rattle.std.specs.List.{list_any, range_with_len}
use Rattle.std.specs.Option.{unwrap_or}
use Rattle.iso_plan.proofs.ColumnLemmas.{column-read, length-column}
use Rattle.iso_plan.proofs.SoFar.{numbers_more}
use Rattle.iso_plan.proofs.TopClassLemmas.{top_class-step, top_in}
use Rattle.iso_plan.proofs.TopLemmas.{top, top-le}
use Rattle.iso_plan.specs.Paths.{IsTree, column, is_root, is_top, parent}
use Rattle.iso_plan.specs.PathTexts.{path_text}
use Rattle.iso_plan.specs.KeptNodes.{node_paths}
use Rattle.iso_plan.specs.TopClasses.{all_paths, top_class}
use Rattle.iso_plan.specs.Tree.{Row}
use Rattle.iso_selection.specs.Wishes.{Wish, grants, is_named_by}

pub column-agree : {A : Type 0} (f g : ℕ → A) (n : ℕ) → ((m : ℕ) → m < n → f m ≡ g m) → column f n ≡ column g n
column-agree f g zero same = refl
column-agree f g (suc n) same = ap₂ (λ xs x. xs ++ x ∷ []) (column-agree f g n (λ m h. same m (omega arith))) (same n (omega arith))

le_by : (n : ℕ) (o : Option ℕ) → ((t : ℕ) → o ≡ Some t → t ≤ n) → unwrap_or o 0 ≤ n
le_by n None f = omega arith
le_by n (Some t) f = f t refl

-- the top-level class of a node has no greater number
pub top_class-le : (tree : List Row) → IsTree tree → (n : ℕ) → top_class tree n ≤ n
top_class-le tree t n = le_by n (top tree n) (top-le tree t.below n)

some : (p : ℕ) → 0 < p → (p == 0) ≡ false
some p h = grind (arith, nat_tests)

same_number : (m : ℕ) → (m == m) ≡ true
same_number m = grind (arith, nat_tests)

less_number : (a b : ℕ) → a < b → (a == b) ≡ false
less_number a b h = grind (arith, nat_tests)

top_by : (n p above : ℕ) → above ≤ p → p < n → is_root p ≡ (top_in p above n == n)
top_by n zero above le less = sym (same_number n)
top_by n (suc p) above le less =
    sym (ap (λ (b : Bool). cond b n above == n) (some (suc p) (omega arith)) ∙ less_number above n (omega arith))

above_root : (n : ℕ) → 0 < n → nat_lt 0 n ≡ true
above_root n h = grind (arith, nat_tests)

-- a top-level class is its own
pub is_top-by : (tree : List Row) → IsTree tree → (n : ℕ) → is_top tree n ≡ (nat_lt 0 n && (top_class tree n == n))
is_top-by tree t zero = refl
is_top-by tree t (suc n) =
    top_by (suc n) (parent tree (suc n)) (top_class tree (parent tree (suc n))) (top_class-le tree t (parent tree (suc n))) (t.below (suc n) (omega arith))
    ∙ sym (ap₂ (λ (b : Bool) (c : ℕ). b && (c == suc n)) (above_root (suc n) (omega arith)) (top_class-step tree t.below (suc n) (omega arith)))

-- a column without its first
drop_column : {A : Type 0} (f : ℕ → A) (n : ℕ) → drop 1 (column f (suc n)) ≡ map f (range_with_len 1 n)
drop_column f zero = refl
drop_column f (suc n) =
    let some : length (column f (suc n)) ≡ suc n = length-column f (suc n) in
    drop-append-le 1 (column f (suc n)) (f (suc n) ∷ []) (omega arith) ∙ ap (λ xs. xs ++ f (suc n) ∷ []) (drop_column f n)
    ∙ sym (ap (λ (k : ℕ). map f (range_with_len 1 k)) (sym (add-one n)) ∙ map-range_with_len_more f 1 n (suc n) (omega arith))

rest_by : (tree : List Row) (n : ℕ) → length tree ≡ n → 0 < n → drop 1 (column (path_text tree) n) ≡ map (path_text tree) (range_with_len 1 (n - 1))
rest_by tree zero e h = absurd (omega arith)
rest_by tree (suc n) e h = drop_column (path_text tree) n ∙ ap (λ (k : ℕ). map (path_text tree) (range_with_len 1 k)) (omega arith)

-- the paths of all nodes but the root
pub paths-but-root : (tree : List Row) → IsTree tree → drop 1 (all_paths tree) ≡ node_paths tree
paths-but-root tree t = rest_by tree (length tree) refl t.rooted

pub any_more : (p : ℕ → Bool) (n : ℕ) → list_any p (range_with_len 0 (n + 1)) ≡ (list_any p (range_with_len 0 n) || (p n || false))
any_more p n = ap (λ (k : ℕ). list_any p (range_with_len 0 k)) (add-one n) ∙ ap (list_any p) (numbers_more n) ∙ list_any-append p (range_with_len 0 n) (n ∷ [])

-- tests that agree below a number find the same below it
pub any-below : (p q : ℕ → Bool) (n : ℕ) → ((m : ℕ) → m < n → p m ≡ q m) → list_any p (range_with_len 0 n) ≡ list_any q (range_with_len 0 n)
any-below p q zero same = refl
any-below p q (suc n) same =
    ap (list_any p) (numbers_more n) ∙ list_any-append p (range_with_len 0 n) (n ∷ [])
    ∙ ap₂ (λ (a b : Bool). a || (b || false)) (any-below p q n (λ m h. same m (omega arith))) (same n (omega arith))
    ∙ sym (ap (list_any q) (numbers_more n) ∙ list_any-append q (range_with_len 0 n) (n ∷ []))

turned : (a b : Bool) → (a || b) ≡ (b || (a || false))
turned true true = refl
turned true false = refl
turned false true = refl
turned false false = refl

same_by : (b : Bool) → b ≡ (b || false)
same_by true = refl
same_by false = refl

-- a node more is marked, or isn't
pub marked-more : (named : ℕ → Bool) (class : ℕ → ℕ) (m n : ℕ) (old : Bool) → named n ≡ true → old ≡ list_any (λ k. named k && (class k == m)) (range_with_len 0 n)
    → ((class n == m) || old) ≡ list_any (λ k. named k && (class k == m)) (range_with_len 0 (n + 1))
marked-more named class m n old e before =
    turned (class n == m) old ∙ ap₂ (λ (a b : Bool). a || ((b && (class n == m)) || false)) before (sym e)
    ∙ sym (any_more (λ k. named k && (class k == m)) n)

pub left-more : (named : ℕ → Bool) (class : ℕ → ℕ) (m n : ℕ) (old : Bool) → named n ≡ false → old ≡ list_any (λ k. named k && (class k == m)) (range_with_len 0 n)
    → old ≡ list_any (λ k. named k && (class k == m)) (range_with_len 0 (n + 1))
left-more named class m n old e before =
    same_by old ∙ ap₂ (λ (a b : Bool). a || ((b && (class n == m)) || false)) before (sym e)
    ∙ sym (any_more (λ k. named k && (class k == m)) n)

-- what is asked for names by the paths in a list
pub named-column : (tree : List Row) (paths : List (List ℕ)) (wishes : List Wish) → paths ≡ all_paths tree
    → column (λ n. not (is_root n) && list_any (grants (get_or paths n [])) wishes) (length paths) ≡ column (is_named_by tree (Some wishes)) (length tree)
named-column tree paths wishes are =
    let count : length paths ≡ length tree = ap length are ∙ length-column (path_text tree) (length tree) in
    column-agree (λ n. not (is_root n) && list_any (grants (get_or paths n [])) wishes) (is_named_by tree (Some wishes)) (length paths)
    (λ n h. ap (λ (text : List ℕ). not (is_root n) && list_any (grants text) wishes) (column-read (path_text tree) paths (length tree) n [] are (omega arith)))
    ∙ ap (column (is_named_by tree (Some wishes))) count
