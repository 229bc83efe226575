-- What the picked paths keep, and that each node is kept by one shard.
use Rattle.std.proofs.Common.{◌≡◌, ℕ, zero, suc, ◌%◌, ◌<◌, ◌≤◌, List, Option, Some, None, [], ◌∷◌, ◌++◌, filter, length, map, Bool, true, false, not, ◌||◌, ◌&&◌, ◌==◌, ◌⊎◌, inl, inr, nat_lt, cond, refl, sym, ap, ap₂, ◌∙◌, arith, bytes_eq}
use Rattle.std.proofs.lemmas.Bool.Decides.{nat_tests}
use Rattle.std.proofs.lemmas.Slice.Eq.{bytes_eq-Decides}
use Rattle.std.proofs.lemmas.List.{map_push}
use Rattle.std.proofs.lemmas.List.Folds.{list_any-append}
use Rattle.std.proofs.Math.Nat.{mod-lt}
use Rattle.std.specs.List.{list_any, range_with_len}
use Rattle.iso_model.specs.NameSets.{is_among}
use Rattle.iso_plan.proofs.PathLemmas.{IsBelow, along, eq_from, not-root, path-root, under-le, under-step}
use Rattle.iso_plan.proofs.NumberLemmas.{those-agree}
use Rattle.iso_plan.proofs.SelectionLemmas.{kept-closed, same-node}
use Rattle.iso_plan.proofs.SoFar.{numbers_more}
use Rattle.iso_plan.proofs.TopClassLemmas.{top_class-step}
use Rattle.iso_plan.specs.Paths.{IsTree, is_on, is_root, is_under, nodes_under, parent, path, row_at}
use Rattle.iso_plan.specs.PathTexts.{path_text}
use Rattle.iso_plan.specs.SameNodes.{IsSameNode}
use Rattle.iso_plan.specs.KeptNodes.{is_chosen, is_kept_by, is_named, number_among, renumbered, those_below}
use Rattle.iso_plan.specs.TopClasses.{top_class}
use Rattle.iso_plan.specs.Tree.{Row, tree}
use Rattle.iso_selection.specs.Picks.{HaveOwnPaths, is_picked, kept_tree, picked_paths}
use Rattle.iso_selection.specs.Shards.{holds, is_in, shard_of}
use Rattle.iso_selection.specs.Wishes.{Wish, grants, is_named_by}
use Rattle.iso_selection.specs.declared.shard.Shard.{Shard}

or_true : (a : Bool) → (a || true) ≡ true
or_true true = refl
or_true false = refl

or_false : (a : Bool) → a ≡ (a || false)
or_false true = refl
or_false false = refl

or_later : (a c : Bool) → c ≡ true → (a || c) ≡ true
or_later true c e = refl
or_later false c e = e

or_left : (a : Bool) → (a || false) ≡ true → a ≡ true
or_left true e = refl
or_left false e = absurd (cc)

or_assoc : (a b c : Bool) → (a || (b || c)) ≡ ((a || b) || c)
or_assoc true b c = refl
or_assoc false b c = refl

own_on : (x : ℕ) (xs : List ℕ) → is_on (x ∷ xs) x ≡ true
own_on x xs = let here : (x == x) ≡ true = grind (arith, nat_tests) in ap (λ (b : Bool). b || is_on xs x) here

-- tests that agree on the members of a list find the same in it
any-agree : (p q : ℕ → Bool) (xs : List ℕ) → ((x : ℕ) → is_on xs x ≡ true → p x ≡ q x) → list_any p xs ≡ list_any q xs
any-agree p q [] same = refl
any-agree p q (x ∷ xs) same =
    ap₂ (λ (a b : Bool). a || b) (same x (own_on x xs)) (any-agree p q xs (λ y h. same y (or_later (x == y) (is_on xs y) h)))

-- what is asked beside a test of each is asked of all together
and_or : (a b c : Bool) → ((a && c) || (b && c)) ≡ ((a || b) && c)
and_or true true true = refl
and_or true true false = refl
and_or true false true = refl
and_or true false false = refl
and_or false b c = refl

pub any-and : (p : ℕ → Bool) (c : Bool) (xs : List ℕ) → list_any (λ x. p x && c) xs ≡ (list_any p xs && c)
any-and p c [] = refl
any-and p c (x ∷ xs) = ap (λ (b : Bool). (p x && c) || b) (any-and p c xs) ∙ and_or (p x) (list_any p xs) c

-- whether a path is that of a number that passes
module _ (tree : List Row) (f : ℕ → Bool) where
  abbrev texts : ℕ → List (List ℕ)
  texts n = map (path_text tree) (those_below f n)

  texts-by : (n : ℕ) (text : List ℕ) (b : Bool) → f n ≡ b → is_among (texts (suc n)) text ≡ (is_among (texts n) text || (b && bytes_eq (path_text tree n) text))
  texts-by n text true e =
      ap (λ (t : Bool). is_among (map (path_text tree) (cond t (those_below f n ++ n ∷ []) (those_below f n))) text) e
      ∙ ap (λ (ts : List (List ℕ)). is_among ts text) (map_push (path_text tree) (those_below f n) n)
      ∙ list_any-append (λ m. bytes_eq m text) (texts n) (path_text tree n ∷ [])
      ∙ ap (λ (t : Bool). is_among (texts n) text || t) (sym (or_false (bytes_eq (path_text tree n) text)))
  texts-by n text false e =
      ap (λ (t : Bool). is_among (map (path_text tree) (cond t (those_below f n ++ n ∷ []) (those_below f n))) text) e ∙ or_false (is_among (texts n) text)

  other : (n m : ℕ) (b : Bool) → bytes_eq (path_text tree n) (path_text tree m) ≡ b → (path_text tree n ≡ path_text tree m → f n ≡ f m) → f m ≡ false → (f n && b) ≡ false
  other n m true e same no-one = ap (λ (t : Bool). t && true) (same ((bytes_eq-Decides (path_text tree n) (path_text tree m)).0 e) ∙ no-one)
  other n m false e same no-one = elim (f n) as (λ (t : Bool). (t && false) ≡ false) [ true ↦ refl | false ↦ refl ]

  -- where f says the same of nodes with one path, its paths are among them where it says so
  past : (n m : ℕ) → ((x : ℕ) → x < n → path_text tree x ≡ path_text tree m → f x ≡ f m) → f m ≡ false → is_among (texts n) (path_text tree m) ≡ false
  past zero m same no-one = refl
  past (suc n) m same no-one =
      texts-by n (path_text tree m) (f n) refl
      ∙ ap₂ (λ (a b : Bool). a || b) (past n m (λ x h e. same x (omega arith) e) no-one) (other n m (bytes_eq (path_text tree n) (path_text tree m)) refl (same n (omega arith)) no-one)

  found : (n m : ℕ) → m < n → f m ≡ true → is_among (texts n) (path_text tree m) ≡ true
  found zero m h passed = absurd (omega arith)
  found (suc n) m h passed =
      texts-by n (path_text tree m) (f n) refl
      ∙ elim (m == n) as (λ (b : Bool). (m == n) ≡ b → (is_among (texts n) (path_text tree m) || (f n && bytes_eq (path_text tree n) (path_text tree m))) ≡ true) [
        | true ↦ λ e.
            let here : m ≡ n = eq_from m n e in
            let own : bytes_eq (path_text tree n) (path_text tree m) ≡ true = (bytes_eq-Decides (path_text tree n) (path_text tree m)).1 (ap (path_text tree) (sym here)) in
            ap₂ (λ (a b : Bool). is_among (texts n) (path_text tree m) || (a && b)) (ap f (sym here) ∙ passed) own ∙ or_true (is_among (texts n) (path_text tree m))
        | false ↦ λ e.
            let before : m < n = grind (arith, nat_tests) in
            ap (λ (t : Bool). t || (f n && bytes_eq (path_text tree n) (path_text tree m))) (found n m before passed)
      ] refl

-- a node on a path has its top-level class
some : (p : ℕ) → 0 < p → (p == 0) ≡ false
some p h = grind (arith, nat_tests)

top_by : (tree : List Row) → IsBelow tree → (x n : ℕ) → 0 < x → 0 < n → (is_under tree x (parent tree n) ≡ true → top_class tree x ≡ top_class tree (parent tree n))
    → (b : Bool) → (n == x) ≡ b → is_under tree x n ≡ true → top_class tree x ≡ top_class tree n
top_by tree b x n low pos ih true e h = ap (top_class tree) (sym (eq_from n x e))
top_by tree b x n low pos ih false e h =
    let above : is_under tree x (parent tree n) ≡ true = sym (under-step tree b x n pos ∙ ap (λ (t : Bool). t || is_under tree x (parent tree n)) e) ∙ h in
    let le : x ≤ parent tree n = under-le tree b x (parent tree n) above in
    let inner : (parent tree n == 0) ≡ false = some (parent tree n) (omega arith) in
    ih above ∙ sym (top_class-step tree b n pos ∙ ap (λ (t : Bool). cond t n (top_class tree (parent tree n))) inner)

pub top-on : (tree : List Row) → IsBelow tree → (x : ℕ) → 0 < x → (n : ℕ) → is_under tree x n ≡ true → top_class tree x ≡ top_class tree n
top-on tree b x low =
    along tree b (λ n. is_under tree x n ≡ true → top_class tree x ≡ top_class tree n)
    (λ h. let none : false ≡ true = rw (path-root tree) at h in absurd (cc))
    (λ n pos ih h. top_by tree b x n low pos ih (n == x) refl h)

-- the paths of the nodes that pass
abbrev pub paths_of_those : List Row → (ℕ → Bool) → List (List ℕ)
paths_of_those tree f = map (path_text tree) (those_below f (length tree))

-- a test that the root doesn't pass, and that says the same of nodes with one path
pub record IsOfPaths (tree : List Row) (f : ℕ → Bool) : Type 0 where
  pub root : f 0 ≡ false
  pub same : (x y : ℕ) → 0 < x → x < length tree → 0 < y → y < length tree → path_text tree x ≡ path_text tree y → f x ≡ f y

-- then its paths name just the nodes that pass
module _ (tree : List Row) (b : IsBelow tree) (f : ℕ → Bool) (o : IsOfPaths tree f) where
  same_text : (m : ℕ) → 0 < m → m < length tree → (x : ℕ) → x < length tree → f m ≡ false → path_text tree x ≡ path_text tree m → f x ≡ f m
  same_text m pos h zero less no-one e = o.root ∙ sym no-one
  same_text m pos h (suc x) less no-one e = o.same (suc x) m (omega arith) less pos h e

  pub named-those : (m : ℕ) → m < length tree → is_named tree (paths_of_those tree f) m ≡ f m
  named-those zero h = sym o.root
  named-those (suc m) h =
      elim (f (suc m)) as (λ (t : Bool). f (suc m) ≡ t → is_among (paths_of_those tree f) (path_text tree (suc m)) ≡ t) [
        | true ↦ λ e. found tree f (length tree) (suc m) h e
        | false ↦ λ e. past tree f (length tree) (suc m) (λ x less same. same_text (suc m) (omega arith) h x less e same) e
      ] refl

  on_low : (d x : ℕ) → d < length tree → is_on (path tree d) x ≡ true → x < length tree
  on_low d x h on = let le : x ≤ d = under-le tree b x d on in omega arith

  pub chosen-those : (d : ℕ) → d < length tree → is_chosen tree (paths_of_those tree f) d ≡ list_any f (path tree d)
  chosen-those d h = any-agree (is_named tree (paths_of_those tree f)) f (path tree d) (λ x on. named-those x (on_low d x h on))

-- a member of a filtered list is one of the list that passes
here_or_later : (p : ℕ → Bool) (xs : List ℕ) (y x : ℕ) → (is_on (filter p xs) x ≡ true → (is_on xs x ≡ true) × (p x ≡ true)) → (b : Bool) → (y == x) ≡ b → p y ≡ true
    → (b || is_on (filter p xs) x) ≡ true → (is_on (y ∷ xs) x ≡ true) × (p x ≡ true)
here_or_later p xs y x ih true e passed h = (ap (λ (t : Bool). t || is_on xs x) e, ap p (sym (eq_from y x e)) ∙ passed)
here_or_later p xs y x ih false e passed h = let r = ih h in (or_later (y == x) (is_on xs x) r.0, r.1)

filter_by : (p : ℕ → Bool) (xs : List ℕ) (y x : ℕ) → (is_on (filter p xs) x ≡ true → (is_on xs x ≡ true) × (p x ≡ true)) → (b : Bool) → p y ≡ b
    → is_on (cond b (y ∷ filter p xs) (filter p xs)) x ≡ true → (is_on (y ∷ xs) x ≡ true) × (p x ≡ true)
filter_by p xs y x ih true e h = here_or_later p xs y x ih (y == x) refl e h
filter_by p xs y x ih false e h = let r = ih h in (or_later (y == x) (is_on xs x) r.0, r.1)

on_filter : (p : ℕ → Bool) (xs : List ℕ) (x : ℕ) → is_on (filter p xs) x ≡ true → (is_on xs x ≡ true) × (p x ≡ true)
on_filter p [] x h = absurd (cc)
on_filter p (y ∷ xs) x h = filter_by p xs y x (on_filter p xs x) (p y) refl h

on_append : (xs : List ℕ) (y x : ℕ) → is_on (xs ++ y ∷ []) x ≡ (is_on xs x || (y == x))
on_append [] y x = elim (y == x) as (λ (b : Bool). (b || false) ≡ b) [ true ↦ refl | false ↦ refl ]
on_append (z ∷ xs) y x = ap (λ (b : Bool). (z == x) || b) (on_append xs y x) ∙ or_assoc (z == x) (is_on xs x) (y == x)

on_range : (n x : ℕ) → is_on (range_with_len 0 n) x ≡ true → x < n
on_range zero x h = absurd (cc)
on_range (suc n) x h =
    elim (n == x) as (λ (b : Bool). (n == x) ≡ b → x < suc n) [
      | true ↦ λ e. let same : n ≡ x = eq_from n x e in omega arith
      | false ↦ λ e.
          let among : (is_on (range_with_len 0 n) x || (n == x)) ≡ true = sym (ap (λ (ns : List ℕ). is_on ns x) (numbers_more n) ∙ on_append (range_with_len 0 n) n x) ∙ h in
          let before : is_on (range_with_len 0 n) x ≡ true = or_left (is_on (range_with_len 0 n) x) (sym (ap (λ (b : Bool). is_on (range_with_len 0 n) x || b) e) ∙ among) in
          let less = on_range n x before in
          omega arith
    ] refl

-- so a node is kept where one on the path of one that stands in it passes
pub kept-those : (tree : List Row) → IsBelow tree → (f : ℕ → Bool) → IsOfPaths tree f → (m : ℕ) → 0 < m
    → is_kept_by tree (paths_of_those tree f) m ≡ list_any (λ d. list_any f (path tree d)) (nodes_under tree m)
kept-those tree b f o m pos =
    ap (λ (r : Bool). r || list_any (is_chosen tree (paths_of_those tree f)) (nodes_under tree m)) (not-root m pos)
    ∙ any-agree (is_chosen tree (paths_of_those tree f)) (λ d. list_any f (path tree d)) (nodes_under tree m)
    (λ d on. chosen-those tree b f o d (on_range (length tree) d (on_filter (is_under tree m) (range_with_len 0 (length tree)) d on).0))

by_number : (tree : List Row) (f g : ℕ → Bool) (m : ℕ) → IsOfPaths tree f → (x : ℕ) → (x ≡ 0) ⊎ (top_class tree x ≡ top_class tree m) → (f x && g (top_class tree x)) ≡ (f x && g (top_class tree m))
by_number tree f g m o x (inl first) =
    let none : f x ≡ false = ap f first ∙ o.root in
    ap (λ (t : Bool). t && g (top_class tree x)) none ∙ sym (ap (λ (t : Bool). t && g (top_class tree m)) none)
by_number tree f g m o x (inr same) = ap (λ (c : ℕ). f x && g c) same

-- and where such a node passes what is asked of its top-level class besides, that of the node does
pub kept-by-class : (tree : List Row) → IsBelow tree → (f g : ℕ → Bool) → IsOfPaths tree f → IsOfPaths tree (λ n. f n && g (top_class tree n)) → (m : ℕ) → 0 < m
    → is_kept_by tree (paths_of_those tree (λ n. f n && g (top_class tree n))) m ≡ (is_kept_by tree (paths_of_those tree f) m && g (top_class tree m))
kept-by-class tree b f g o p m pos =
    let both : ℕ → Bool = λ n. f n && g (top_class tree n) in
    let under = nodes_under tree m in
    kept-those tree b both p m pos
    ∙ any-agree (λ d. list_any both (path tree d)) (λ d. list_any f (path tree d) && g (top_class tree m)) under
    (λ d on.
    let below : is_under tree m d ≡ true = (on_filter (is_under tree m) (range_with_len 0 (length tree)) d on).1 in
    let top : top_class tree m ≡ top_class tree d = top-on tree b m pos d below in
    any-agree both (λ x. f x && g (top_class tree m)) (path tree d)
    (λ x up. by_number tree f g m o x (elim (nat_lt 0 x) as (λ (t : Bool). nat_lt 0 x ≡ t → (x ≡ 0) ⊎ (top_class tree x ≡ top_class tree m)) [
      | true ↦ λ e. let low : 0 < x = grind (arith, nat_tests) in inr (top-on tree b x low d up ∙ sym top)
      | false ↦ λ e. inl (grind (arith, nat_tests))
    ] refl))
    ∙ any-and f (g (top_class tree m)) (path tree d))
    ∙ any-and (λ d. list_any f (path tree d)) (g (top_class tree m)) under
    ∙ sym (ap (λ (t : Bool). t && g (top_class tree m)) (kept-those tree b f o m pos))

-- the tests of what is picked
named-root : (tree : List Row) (wishes : Option (List Wish)) → is_named_by tree wishes 0 ≡ false
named-root tree None = refl
named-root tree (Some wishes) = refl

and_left : (a c : Bool) → a ≡ false → (a && c) ≡ false
and_left true c e = absurd (cc)
and_left false c e = refl

and_true : (a : Bool) → (a && true) ≡ a
and_true true = refl
and_true false = refl

pub picked-root : (tree : List Row) (wishes : Option (List Wish)) (shard : Option Shard) → is_picked tree wishes shard 0 ≡ false
picked-root tree wishes shard = and_left (is_named_by tree wishes 0) (is_in tree (is_named_by tree wishes) shard 0) (named-root tree wishes)

-- each test is of paths where no two nodes have one
own-paths : (tree : List Row) → HaveOwnPaths tree → (f : ℕ → Bool) → f 0 ≡ false → IsOfPaths tree f
own-paths tree own f root = record { root = root; same = λ x y low h pos less e. ap f (own x y low h pos less e) }

wishes-of-paths : (tree : List Row) (wishes : List Wish) → IsOfPaths tree (is_picked tree (Some wishes) None)
wishes-of-paths tree wishes = record {
  root = refl;
  same = λ x y low h pos less e.
      ap₂ (λ (r : Bool) (text : List ℕ). (not r && list_any (grants text) wishes) && true) (not-root x low ∙ sym (not-root y pos)) e;
}

pub whole-named : (tree : List Row) → IsTree tree → (wishes : List Wish) (n : ℕ) → n < length tree → is_named tree (picked_paths tree (Some wishes) None) n ≡ is_named_by tree (Some wishes) n
whole-named tree t wishes n h =
    named-those tree t.below (is_picked tree (Some wishes) None) (wishes-of-paths tree wishes) n h ∙ and_true (is_named_by tree (Some wishes) n)

pub shard-named : (tree : List Row) → IsTree tree → HaveOwnPaths tree → (wishes : Option (List Wish)) (shard : Option Shard) (n : ℕ)
    → n < length tree → is_named tree (picked_paths tree wishes shard) n ≡ is_picked tree wishes shard n
shard-named tree t own wishes shard n h =
    named-those tree t.below (is_picked tree wishes shard) (own-paths tree own (is_picked tree wishes shard) (picked-root tree wishes shard)) n h

all-named : (tree : List Row) (wishes : Option (List Wish)) → picked_paths tree wishes None ≡ paths_of_those tree (is_named_by tree wishes)
all-named tree wishes =
    ap (map (path_text tree)) (those-agree (is_picked tree wishes None) (is_named_by tree wishes) (length tree) (λ n h. and_true (is_named_by tree wishes n)))

-- a node is kept by the shard that its top-level class goes to, and by no other
pub shard-kept : (tree : List Row) → IsTree tree → HaveOwnPaths tree → (wishes : Option (List Wish)) (shard : Shard) (m : ℕ) → 0 < m
    → is_kept_by tree (picked_paths tree wishes (Some shard)) m ≡
    (is_kept_by tree (picked_paths tree wishes None) m && (shard_of tree (is_named_by tree wishes) shard.count (top_class tree m) == shard.index))
shard-kept tree t own wishes shard m pos =
    let named = is_named_by tree wishes in
    let turn : ℕ → Bool = λ class. shard_of tree named shard.count class == shard.index in
    kept-by-class tree t.below named turn (own-paths tree own named (named-root tree wishes))
    (own-paths tree own (λ n. named n && turn (top_class tree n)) (picked-root tree wishes (Some shard))) m pos
    ∙ sym (ap (λ (ps : List (List ℕ)). is_kept_by tree ps m && turn (top_class tree m)) (all-named tree wishes))

pub shard-within : (tree : List Row) (passes : ℕ → Bool) (count class : ℕ) → 1 ≤ count → (1 ≤ shard_of tree passes count class) × (shard_of tree passes count class ≤ count)
shard-within tree passes count class h =
    let less : number_among (holds tree passes) class % count < count = mod-lt (number_among (holds tree passes) class) (omega arith) in
    (omega arith, omega arith)

pub shard-same : (tree : List Row) → IsTree tree → (paths : List (List ℕ)) (m : ℕ) → m < length tree
    → is_kept_by tree paths m ≡ true → IsSameNode tree m (kept_tree tree paths) (number_among (is_kept_by tree paths) m)
shard-same tree t paths m h e = same-node tree t (is_kept_by tree paths) (kept-closed tree t paths) m h e

-- where no path is picked, the root alone is kept
none-any : (f : ℕ → Bool) (xs : List ℕ) → ((x : ℕ) → f x ≡ false) → list_any f xs ≡ false
none-any f [] none = refl
none-any f (x ∷ xs) none = ap₂ (λ (a b : Bool). a || b) (none x) (none-any f xs none)

pub none-kept : (tree : List Row) (n : ℕ) → 0 < n → is_kept_by tree [] n ≡ false
none-kept tree n pos =
    ap (λ (r : Bool). r || list_any (is_chosen tree []) (nodes_under tree n)) (not-root n pos)
    ∙ none-any (is_chosen tree []) (nodes_under tree n)
    (λ d. none-any (is_named tree []) (path tree d) (λ x. elim (is_root x) as (λ (b : Bool). (not b && false) ≡ false) [ true ↦ refl | false ↦ refl ]))

root_alone : (tree : List Row) (n : ℕ) → those_below (is_kept_by tree []) (suc n) ≡ 0 ∷ []
root_alone tree zero = refl
root_alone tree (suc n) =
    ap (λ (b : Bool). cond b (those_below (is_kept_by tree []) (suc n) ++ suc n ∷ []) (those_below (is_kept_by tree []) (suc n))) (none-kept tree (suc n) (omega arith))
    ∙ root_alone tree n

root_by : (tree : List Row) (n : ℕ) → length tree ≡ n → 0 < n → those_below (is_kept_by tree []) n ≡ 0 ∷ []
root_by tree zero e h = absurd (omega arith)
root_by tree (suc n) e h = root_alone tree n

pub none-tree : (nodes : List Row) → IsTree nodes → kept_tree nodes [] ≡ tree []
none-tree nodes t =
    ap (map (λ n. renumbered (is_kept_by nodes []) (row_at nodes n))) (root_by nodes (length nodes) refl t.rooted)
    ∙ ap (λ (r : Row). renumbered (is_kept_by nodes []) r ∷ []) t.root_is
