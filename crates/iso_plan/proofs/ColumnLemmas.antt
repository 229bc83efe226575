-- Lists that have a value for each node.
use Rattle.std.proofs.Common.{◌≡◌, ℕ, zero, suc, ◌+◌, ◌<◌, List, [], ◌∷◌, ◌++◌, length, map, get_or, replicate, set, Bool, true, false, ◌==◌, ◌&&◌, not, cond, refl, sym, ap, ap₂, ◌∙◌, arith, add-one}
use Rattle.std.proofs.lemmas.List.{length-append, length-map, replicate_more, get_or_append_left, get_or_push, get_or-map, same_lists, get_or-set_same, get_or-set_other}
use Rattle.std.proofs.lemmas.Bool.Decides.{nat_tests}
use Rattle.iso_plan.proofs.PathLemmas.{eq_from, eq_same, not-root}
use Rattle.iso_plan.specs.Paths.{row_at, parent, column, is_root, children_below}
use Rattle.iso_plan.specs.RowView.{row_of}
use Rattle.iso_plan.specs.Tree as T
use Rattle.iso_plan.specs.Tree.{root_row}
use Rattle.iso_plan.specs.declared.row.Row.{Row}

less_by : (m n : ℕ) → m < suc n → (m == n) ≡ false → m < n
less_by m n h e = grind (arith, nat_tests)

pub length-column : {A : Type 0} (f : ℕ → A) (n : ℕ) → length (column f n) ≡ n
length-column f zero = refl
length-column f (suc n) = length-append (column f n) (f n ∷ []) ∙ ap (λ m. m + 1) (length-column f n) ∙ add-one n

pub column-push : {A : Type 0} (f : ℕ → A) (xs : List A) (n : ℕ) (x : A) → xs ≡ column f n → x ≡ f n → xs ++ x ∷ [] ≡ column f (n + 1)
column-push f xs n x e h = rw add-one (ap₂ (λ ys y. ys ++ y ∷ []) e h)

column_at_by : {A : Type 0} (f : ℕ → A) (n m : ℕ) (d : A) → (m < n → get_or (column f n) m d ≡ f m) → m < suc n → (t : Bool) → (m == n) ≡ t → get_or (column f n ++ f n ∷ []) m d ≡ f m
column_at_by f n m d ih h true e =
    let same : m ≡ n = eq_from m n e in
    get_or_push (column f n) (f n) d m (length-column f n ∙ sym same) ∙ ap f (sym same)
column_at_by f n m d ih h false e =
    let less : m < n = less_by m n h e in
    let within : m < length (column f n) = rw (length-column f n) less in
    get_or_append_left (column f n) (f n ∷ []) d m within ∙ ih less

column_at : {A : Type 0} (f : ℕ → A) (n m : ℕ) (d : A) → m < n → get_or (column f n) m d ≡ f m
column_at f zero m d h = absurd (omega arith)
column_at f (suc n) m d h = column_at_by f n m d (column_at f n m d) h (m == n) refl

pub column-read : {A : Type 0} (f : ℕ → A) (xs : List A) (n m : ℕ) (d : A) → xs ≡ column f n → m < n → get_or xs m d ≡ f m
column-read f xs n m d e h = ap (λ ys. get_or ys m d) e ∙ column_at f n m d h

pub column-from : {A : Type 0} (f : ℕ → A) (xs : List A) (n : ℕ) → length xs ≡ n → ((m : ℕ) (d : A) → m < n → get_or xs m d ≡ f m) → xs ≡ column f n
column-from f xs n l each =
    same_lists xs (column f n) (l ∙ sym (length-column f n)) (λ m d h. let less : m < n = rw l at h in each m d less ∙ sym (column_at f n m d less))

-- a row of a slice, as a node of the tree
pub row-at : (rows : List Row) (n : ℕ) (d : Row) → n < length rows → row_at (map row_of rows) n ≡ row_of (get_or rows n d)
row-at rows n d h = get_or-map row_of rows n d root_row h

children_by : (tree : List T.Row) (xs : List (List ℕ)) (p n m : ℕ) (s : List ℕ) → p < length xs → 0 < n → parent tree n ≡ p → s ≡ get_or xs p [] ++ n ∷ []
    → get_or xs m [] ≡ children_below tree m n → (t : Bool) → (p == m) ≡ t
    → get_or (set xs p s) m [] ≡ cond (not (is_root n) && parent tree n == m) (children_below tree m n ++ n ∷ []) (children_below tree m n)
children_by tree xs p n m s h pos at new old true e =
    let same : p ≡ m = eq_from p m e in
    let live : is_root n ≡ false = not-root n pos in
    let left : get_or (set xs p s) m [] ≡ s = ap (λ j. get_or (set xs p s) j []) (sym same) ∙ get_or-set_same xs p s [] h in
    let value : s ≡ children_below tree m n ++ n ∷ [] = new ∙ ap (λ j. get_or xs j [] ++ n ∷ []) same ∙ ap (λ c. c ++ n ∷ []) old in
    rw (live, at, e) (left ∙ value)
children_by tree xs p n m s h pos at new old false e =
    let live : is_root n ≡ false = not-root n pos in
    let left : get_or (set xs p s) m [] ≡ get_or xs m [] = get_or-set_other xs p m s [] (λ same. let yes : (p == m) ≡ true = ap (λ j. p == j) same ∙ eq_same p in absurd (cc)) in
    rw (live, at, e) (left ∙ old)

-- a node more among the children of the one that it stands in
pub children-next : (tree : List T.Row) (xs : List (List ℕ)) (p n m : ℕ) (s : List ℕ) → p < length xs → 0 < n → parent tree n ≡ p
    → s ≡ get_or xs p [] ++ n ∷ [] → get_or xs m [] ≡ children_below tree m n → get_or (set xs p s) m [] ≡ children_below tree m (n + 1)
children-next tree xs p n m s h pos at new old = rw add-one (children_by tree xs p n m s h pos at new old (p == m) refl)

-- the node that a row of a slice stands in
pub parent-at : (rows : List Row) (n : ℕ) (d : Row) → n < length rows → parent (map row_of rows) n ≡ (get_or rows n d).parent
parent-at rows n d h = ap (λ (r : T.Row). r.parent) (row-at rows n d h)

pub replicate-column : {A : Type 0} (x : A) (n : ℕ) → replicate n x ≡ column (λ _. x) n
replicate-column x zero = refl
replicate-column x (suc n) = ap (λ m. replicate m x) (sym (add-one n)) ∙ sym (replicate_more n x) ∙ ap (λ xs. xs ++ x ∷ []) (replicate-column x n)

-- a node has its value in a column of all nodes
pub within-column : {A : Type 0} (f : ℕ → A) (xs : List A) (n m : ℕ) → xs ≡ column f n → m < n → m < length xs
within-column f xs n m e h =
    let count : length xs ≡ n = ap length e ∙ length-column f n in
    omega arith

-- and in a list of what stands for the values of one
pub within-views : {A B : Type 0} (g : B → A) (f : ℕ → A) (xs : List B) (n m : ℕ) → map g xs ≡ column f n → m < n → m < length xs
within-views g f xs n m e h = rw (length-map xs g) at (within-column f (map g xs) n m e h)

pub view-read : {A B : Type 0} (g : B → A) (f : ℕ → A) (xs : List B) (n m : ℕ) (d : B) (none : A) → map g xs ≡ column f n → m < n → g (get_or xs m d) ≡ f m
view-read g f xs n m d none e h = sym (get_or-map g xs m d none (within-views g f xs n m e h)) ∙ column-read f (map g xs) n m none e h
