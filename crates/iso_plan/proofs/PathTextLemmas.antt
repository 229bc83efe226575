-- Paths as texts, by way of the node that each node stands in.
use Rattle.std.proofs.Common.{◌≡◌, ℕ, zero, suc, ◌+◌, ◌-◌, ◌<◌, Some, List, [], ◌∷◌, ◌++◌, length, reverse, codes, Bool, true, false, ◌≢◌, ◌==◌, cond, refl, sym, ap, ◌∙◌, arith, append_assoc, append-nil, bytes_eq}
use Rattle.std.proofs.lemmas.Bool.Decides.{nat_tests}
use Rattle.std.proofs.lemmas.Grind.{flat_map-append}
use Rattle.std.proofs.lemmas.List.{append_cancel_right, length-reverse, reverse-append}
use Rattle.std.proofs.lemmas.Slice.Eq.{bytes_eq-Decides}
use Rattle.std.specs.Bool.{one_answer}
use Rattle.std.specs.List.{flat_map, join_by, position_from, range_with_len}
use Rattle.iso_plan.proofs.PathLemmas.{IsBelow, path-root, path-step}
use Rattle.iso_plan.specs.Paths.{parent, path, row_at}
use Rattle.iso_plan.specs.PathTexts.{path_text}
use Rattle.iso_plan.specs.Tree.{Row}

-- one piece more after others
join_by-last : {X : Type 0} (f : X → List ℕ) (sep : List ℕ) (xs : List X) (y : X) → 0 < length xs → join_by f sep (xs ++ y ∷ []) ≡ join_by f sep xs ++ (sep ++ f y)
join_by-last f sep [] y h = absurd (omega arith)
join_by-last f sep (x ∷ xs) y h =
    ap (λ (t : List ℕ). f x ++ t) (flat_map-append (λ z. sep ++ f z) xs (y ∷ []) ∙ ap (λ (t : List ℕ). flat_map (λ z. sep ++ f z) xs ++ t) (append-nil (sep ++ f y)))
    ∙ sym (append_assoc (f x) (flat_map (λ z. sep ++ f z) xs) (sep ++ f y))

abbrev names : List Row → List ℕ → List ℕ
names tree ns = join_by (λ m. (row_at tree m).name) (codes ".") ns

-- a name after the path of the class with this number, which the root hasn't
abbrev pub text_in : ℕ → (above name : List ℕ) → List ℕ
text_in class above name = cond (class == 0) name (above ++ (codes "." ++ name))

inside : (tree : List Row) (n p : ℕ) → path tree n ≡ n ∷ path tree p → 0 < length (path tree p) → path_text tree n ≡ path_text tree p ++ (codes "." ++ (row_at tree n).name)
inside tree n p e h =
    let more : 0 < length (reverse (path tree p)) = rw (length-reverse (path tree p)) h in
    ap (λ (q : List ℕ). names tree (reverse q)) e
    ∙ ap (names tree) (reverse-append (n ∷ []) (path tree p))
    ∙ join_by-last (λ m. (row_at tree m).name) (codes ".") (reverse (path tree p)) n more

pub path_text-root : (tree : List Row) → path_text tree 0 ≡ []
path_text-root tree = ap (λ (q : List ℕ). names tree (reverse q)) (path-root tree)

by_class : (tree : List Row) → IsBelow tree → (n : ℕ) → 0 < n → (t : Bool) → (parent tree n == 0) ≡ t
    → path_text tree n ≡ cond t (row_at tree n).name (path_text tree (parent tree n) ++ (codes "." ++ (row_at tree n).name))
by_class tree b n pos true e =
    let top : parent tree n ≡ 0 = grind (arith, nat_tests) in
    let own : path tree n ≡ n ∷ [] = path-step tree b n pos ∙ ap (λ (p : ℕ). n ∷ path tree p) top ∙ ap (λ (q : List ℕ). n ∷ q) (path-root tree) in
    ap (λ (q : List ℕ). names tree (reverse q)) own ∙ append-nil (row_at tree n).name
by_class tree b n pos false e =
    let above : 0 < parent tree n = grind (arith, nat_tests) in
    let some : 0 < length (path tree (parent tree n)) = rw (path-step tree b (parent tree n) above) (omega arith) in
    inside tree n (parent tree n) (path-step tree b n pos) some

-- the path of a node: its name after the path of its class
pub path_text-step : (tree : List Row) → IsBelow tree → (n : ℕ) → 0 < n → path_text tree n ≡ text_in (parent tree n) (path_text tree (parent tree n)) (row_at tree n).name
path_text-step tree b n pos = by_class tree b n pos (parent tree n == 0) refl

-- from the number of a node on, what is left of a search for a path among the nodes
search_step : (test : ℕ → Bool) (n count : ℕ) → test n ≡ false → position_from test n (range_with_len n (suc count)) ≡ position_from test (n + 1) (range_with_len (n + 1) count)
search_step test n count e = ap (λ (b : Bool). cond b (Some n) (position_from test (n + 1) (range_with_len (n + 1) count))) e

pub search-next : (test : ℕ → Bool) (n count : ℕ) → 0 < count → test n ≡ false → position_from test n (range_with_len n count) ≡ position_from test (n + 1) (range_with_len (n + 1) (count - 1))
search-next test n count h e =
    let less : suc (count - 1) ≡ count = omega arith in
    ap (λ (k : ℕ). position_from test n (range_with_len n k)) (sym less) ∙ search_step test n (count - 1) e

pub search-found : (test : ℕ → Bool) (n count : ℕ) → 0 < count → test n ≡ true → position_from test n (range_with_len n count) ≡ Some n
search-found test n zero h e = absurd (omega arith)
search-found test n (suc count) h e = ap (λ (b : Bool). cond b (Some n) (position_from test (n + 1) (range_with_len (n + 1) count))) e

-- what stands before a name in a path
abbrev pub front_in : ℕ → (above : List ℕ) → List ℕ
front_in class above = cond (class == 0) [] (above ++ codes ".")

front_by : (above name : List ℕ) (t : Bool) → cond t name (above ++ (codes "." ++ name)) ≡ cond t [] (above ++ codes ".") ++ name
front_by above name true = refl
front_by above name false = sym (append_assoc above (codes ".") name)

-- the path of a node ends with its name
pub path_text-front : (tree : List Row) → IsBelow tree → (n : ℕ) → 0 < n → path_text tree n ≡ front_in (parent tree n) (path_text tree (parent tree n)) ++ (row_at tree n).name
path_text-front tree b n pos = path_text-step tree b n pos ∙ front_by (path_text tree (parent tree n)) (row_at tree n).name (parent tree n == 0)

unequal : (b : Bool) → (b ≡ true → ⊥) → false ≡ b
unequal true differ = absurd (differ refl)
unequal false differ = refl

-- a text that doesn't end with a name is none that does
pub ends-not : (path name : List ℕ) → ((front : List ℕ) → path ≢ front ++ name) → (front : List ℕ) → false ≡ bytes_eq (front ++ name) path
ends-not path name other front = unequal (bytes_eq (front ++ name) path) (λ e. other front (sym ((bytes_eq-Decides (front ++ name) path).0 e)))

-- and one that does is compared without it
pub ends-by : (path name rest front : List ℕ) → path ≡ rest ++ name → bytes_eq front rest ≡ bytes_eq (front ++ name) path
ends-by path name rest front e =
    one_answer (bytes_eq front rest) (bytes_eq (front ++ name) path)
    (bytes_eq-Decides front rest)
    (λ t. append_cancel_right front rest name ((bytes_eq-Decides (front ++ name) path).0 t ∙ e), λ same. (bytes_eq-Decides (front ++ name) path).1 (ap (λ x. x ++ name) same ∙ sym e))

pub empty-by : (rest : List ℕ) → (length rest == 0) ≡ bytes_eq [] rest
empty-by [] = refl
empty-by (x ∷ xs) = grind (arith, nat_tests)
