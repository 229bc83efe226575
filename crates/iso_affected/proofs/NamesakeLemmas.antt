-- Namesakes from class to class.
use Rattle.std.proofs.Common.{◌≡◌, ℕ, zero, suc, ◌<◌, ◌==◌, List, [], ◌∷◌, ◌++◌, codes, length, get_or, Bool, true, false, cond, Option, Some, None, IfSome, bytes_eq, refl, sym, ap, ap₂, ◌∙◌, subst, arith}
use Rattle.std.proofs.lemmas.Bool.Decides.{nat_tests}
use Rattle.std.specs.Cmp.Lexicographic.{bytes_decides}
use Rattle.iso_affected.specs.Fates.{IsNode}
use Rattle.iso_affected.specs.Namesakes.{child_named, named, namesake, namesake_on}
use Rattle.iso_plan.proofs.ChildLemmas.{child-below}
use Rattle.iso_plan.proofs.PathLemmas.{along, path-root, path-step}
use Rattle.iso_plan.proofs.PathTextLemmas.{path_text-root, path_text-step, text_in}
use Rattle.iso_plan.specs.Children.{IsChild}
use Rattle.iso_plan.specs.PathTexts.{path_text}
use Rattle.iso_plan.specs.Paths.{IsTree, children, parent, row_at}
use Rattle.iso_plan.specs.Tree.{Row}

pub namesake-root : (one other : List Row) → namesake one other 0 ≡ Some 0
namesake-root one other = ap (namesake_on one other) (path-root other)

pub namesake-step : (one other : List Row) → IsTree other → (n : ℕ) → 0 < n → namesake one other n ≡ child_named one (row_at other n).name (namesake one other (parent other n))
namesake-step one other u n pos = ap (namesake_on one other) (path-step other u.below n pos)

named-by : (P : ℕ → Type 0) (tree : List Row) (name : List ℕ) (n : ℕ) (ns : List ℕ) (b : Bool) → P n → IfSome (named tree name ns) P → IfSome (cond b (Some n) (named tree name ns)) P
named-by P tree name n ns true here rest = here
named-by P tree name n ns false here rest = rest

-- what is named is one of those that are looked at
pub named-is : (P : ℕ → Type 0) (tree : List Row) (name : List ℕ) (ns : List ℕ) → ((i : ℕ) → i < length ns → P (get_or ns i 0)) → IfSome (named tree name ns) P
named-is P tree name [] all = tt
named-is P tree name (n ∷ ns) all =
    named-by P tree name n ns (bytes_eq (row_at tree n).name name) (all 0 (omega arith)) (named-is P tree name ns (λ i h. all (suc i) (omega arith)))

-- so it stands in the class
pub named-child : (tree : List Row) (class : ℕ) (name : List ℕ) → IfSome (named tree name (children tree class)) (IsChild tree class (length tree))
named-child tree class name = named-is (IsChild tree class (length tree)) tree name (children tree class) (child-below tree class (length tree))

pub child-of : (tree : List Row) (class : ℕ) (name : List ℕ) (m : ℕ) → named tree name (children tree class) ≡ Some m → IsChild tree class (length tree) m
child-of tree class name m e = subst (λ (p : Option ℕ). IfSome p (IsChild tree class (length tree))) e (named-child tree class name)

child-within : (tree : List Row) (name : List ℕ) (o : Option ℕ) (m : ℕ) → child_named tree name o ≡ Some m → m < length tree
child-within tree name None m e = let wrong : None ≡ Some m = e in absurd (cc)
child-within tree name (Some class) m e =
    let child : IsChild tree class (length tree) m = subst (λ (p : Option ℕ). IfSome p (IsChild tree class (length tree))) e (named-child tree class name) in
    child.within

-- a namesake is a node
pub namesake-within : (one other : List Row) → IsTree one → IsTree other → (n m : ℕ) → namesake one other n ≡ Some m → m < length one
namesake-within one other t u zero m e =
    let whole : Some 0 ≡ Some m = sym (namesake-root one other) ∙ e in
    let same : 0 ≡ m = cc in
    let rooted = t.rooted in
    omega arith
namesake-within one other t u (suc n) m e =
    let above = namesake one other (parent other (suc n)) in
    child-within one (row_at other (suc n)).name above m (sym (namesake-step one other u (suc n) (omega arith)) ∙ e)

named-name-by : (tree : List Row) (name : List ℕ) (n : ℕ) (ns : List ℕ) (m : ℕ) (b : Bool) → bytes_eq (row_at tree n).name name ≡ b
    → (named tree name ns ≡ Some m → (row_at tree m).name ≡ name) → cond b (Some n) (named tree name ns) ≡ Some m → (row_at tree m).name ≡ name
named-name-by tree name n ns m true e rest h =
    let whole : Some n ≡ Some m = h in
    let same : n ≡ m = cc in
    ap (λ (k : ℕ). (row_at tree k).name) (sym same) ∙ (bytes_decides (row_at tree n).name name).0 e
named-name-by tree name n ns m false e rest h = rest h

-- what is named has the name
named-name : (tree : List Row) (name : List ℕ) (ns : List ℕ) (m : ℕ) → named tree name ns ≡ Some m → (row_at tree m).name ≡ name
named-name tree name [] m e = let wrong : None ≡ Some m = e in absurd (cc)
named-name tree name (n ∷ ns) m e = named-name-by tree name n ns m (bytes_eq (row_at tree n).name name) refl (named-name tree name ns m) e

-- A node and its namesake have one path, and either of them is the root only where the other is.
record HavePath (one other : List Row) (n m : ℕ) : Type 0 where
  pub path : path_text one m ≡ path_text other n
  pub root : (m == 0) ≡ (n == 0)

abbrev NamesakesHavePath : (one other : List Row) → ℕ → Type 0
NamesakesHavePath one other n = (m : ℕ) → namesake one other n ≡ Some m → HavePath one other n m

roots-have-path : (one other : List Row) → NamesakesHavePath one other 0
roots-have-path one other m e =
    let whole : Some 0 ≡ Some m = sym (namesake-root one other) ∙ e in
    let same : 0 ≡ m = cc in
    record { path = ap (path_text one) (sym same) ∙ path_text-root one ∙ sym (path_text-root other); root = ap (λ (k : ℕ). k == 0) (sym same) }

no-root : (n : ℕ) → 0 < n → (n == 0) ≡ false
no-root n h = grind (arith, nat_tests)

child-has-path : (one other : List Row) → IsTree one → IsTree other → (n : ℕ) → 0 < n → NamesakesHavePath one other (parent other n) → (m : ℕ)
    → (o : Option ℕ) → namesake one other (parent other n) ≡ o → child_named one (row_at other n).name o ≡ Some m → HavePath one other n m
child-has-path one other t u n pos up m None e h = let wrong : None ≡ Some m = h in absurd (cc)
child-has-path one other t u n pos up m (Some class) e h =
    let name = (row_at other n).name in
    let child : IsChild one class (length one) m = subst (λ (p : Option ℕ). IfSome p (IsChild one class (length one))) h (named-child one class name) in
    let above = up class e in
    let parts : path_text one m ≡ text_in class (path_text one class) (row_at one m).name =
    path_text-step one t.below m child.positive ∙ ap (λ (p : ℕ). text_in p (path_text one p) (row_at one m).name) child.parent_is in
    let named : text_in class (path_text one class) (row_at one m).name ≡ text_in class (path_text one class) name =
    ap (text_in class (path_text one class)) (named-name one name (children one class) m h) in
    let turned : text_in class (path_text one class) name ≡ text_in (parent other n) (path_text other (parent other n)) name =
    ap₂ (λ (b : Bool) (text : List ℕ). cond b name (text ++ (codes "." ++ name))) above.root above.path in
    record {
      path = parts ∙ named ∙ turned ∙ sym (path_text-step other u.below n pos);
      root = no-root m child.positive ∙ sym (no-root n pos);
    }

have-path : (one other : List Row) → IsTree one → IsTree other → (n : ℕ) → NamesakesHavePath one other n
have-path one other t u =
    along other u.below (NamesakesHavePath one other) (roots-have-path one other)
    (λ n pos up m e. child-has-path one other t u n pos up m (namesake one other (parent other n)) refl (sym (namesake-step one other u n pos) ∙ e))

pub equal-paths : (one other : List Row) → IsTree one → IsTree other → (n m : ℕ) → namesake one other n ≡ Some m → path_text one m ≡ path_text other n
equal-paths one other t u n m e = (have-path one other t u n m e).path

child-node : (tree : List Row) (name : List ℕ) (o : Option ℕ) (m : ℕ) → child_named tree name o ≡ Some m → IsNode tree m
child-node tree name None m e = let wrong : None ≡ Some m = e in absurd (cc)
child-node tree name (Some class) m e =
    let child : IsChild tree class (length tree) m = subst (λ (p : Option ℕ). IfSome p (IsChild tree class (length tree))) e (named-child tree class name) in
    record { above = child.positive; within = child.within }

-- the namesake of a node that isn't the root isn't the root
pub namesake-node : (one other : List Row) → IsTree other → (n m : ℕ) → 0 < n → namesake one other n ≡ Some m → IsNode one m
namesake-node one other u n m pos e = child-node one (row_at other n).name (namesake one other (parent other n)) m (sym (namesake-step one other u n pos) ∙ e)
