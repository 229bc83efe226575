-- The lines of a plan, piece by piece.
use Rattle.std.proofs.Common.{◌≡◌, ◌<◌, ℕ, zero, suc, ◌+◌, ◌-◌, List, [], ◌∷◌, ◌++◌, length, get_or, map, codes, cond, Bool, true, false, ◌==◌, Option, None, Some, unwrap_or, refl, sym, ap, ◌∙◌, arith, append_assoc, append-nil}
use Rattle.std.proofs.lemmas.Bool.Decides.{nat_tests}
use Rattle.std.proofs.lemmas.List.{length-map}
use Rattle.std.specs.List.{flat_map}
use Rattle.iso_model.specs.declared.access.Access.{Access}
use Rattle.iso_plan.proofs.PathLemmas.{IsBelow}
use Rattle.iso_plan.proofs.PathTextLemmas.{path_text-step, text_in}
use Rattle.iso_plan.specs.KeyTable.{keys}
use Rattle.iso_plan.specs.Locks.{locks, locks_from, taken}
use Rattle.iso_plan.specs.Paths.{parent, parent_of, row_at}
use Rattle.iso_plan.specs.PathTexts.{path_text}
use Rattle.iso_plan.specs.Tree.{Row}
use Rattle.iso_plan.specs.declared.lock.Lock.{Lock}
use Rattle.iso_settings.specs.declared.settings.Settings.{Settings}
use Rattle.std.specs.Fmt.{decimal}
use Rattle.iso_tap.specs.PlanText.{lock_text, locks_text, node_line, node_lines, test_line, test_lines}

inside : (class : ℕ) (above name : List ℕ) → 0 < class → (t : Bool) → (class == 0) ≡ t → text_in class above name ≡ above ++ (codes "." ++ name)
inside class above name h true e = let top : class ≡ 0 = grind (arith, nat_tests) in absurd (omega arith)
inside class above name h false e = ap (λ (t : Bool). cond t name (above ++ (codes "." ++ name))) e

-- the path of a node that stands in a class
pub path-inside : (tree : List Row) → IsBelow tree → (n class : ℕ) → 0 < n → class ≡ parent tree n → 0 < class → path_text tree n ≡ path_text tree class ++ (codes "." ++ (row_at tree n).name)
path-inside tree below n class pos is above =
    path_text-step tree below n pos
    ∙ ap (λ (p : ℕ). text_in p (path_text tree p) (row_at tree n).name) (sym is)
    ∙ inside class (path_text tree class) (row_at tree n).name above (class == 0) refl

-- the class that a node stands in
pub parent-is : (tree : List Row) (n p : ℕ) → 0 < n → Some p ≡ parent_of tree n → p ≡ parent tree n
parent-is tree zero p h e = absurd (omega arith)
parent-is tree (suc n) p h e = ap (λ (o : Option ℕ). unwrap_or o 0) e

-- locks behind a separator, each further one behind a comma
abbrev pub separated : (keys : List (List ℕ)) → List ℕ → List Lock → List ℕ
separated keys sep [] = []
separated keys sep (l ∷ ls) = (sep ++ lock_text keys l) ++ separated keys (codes ",") ls

separated-more : (keys : List (List ℕ)) (ls : List Lock) → flat_map (λ l. codes "," ++ lock_text keys l) ls ≡ separated keys (codes ",") ls
separated-more keys [] = refl
separated-more keys (l ∷ ls) = ap (λ (t : List ℕ). (codes "," ++ lock_text keys l) ++ t) (separated-more keys ls)

pub locks-separated : (keys : List (List ℕ)) (ls : List Lock) → locks_text keys ls ≡ separated keys [] ls
locks-separated keys [] = refl
locks-separated keys (l ∷ ls) = ap (λ (t : List ℕ). lock_text keys l ++ t) (separated-more keys ls)

-- the keys of locks are numbered within the accesses that they are of
within-from : (taken : List (Option Access)) (i j : ℕ) (d : Lock) → j < length (locks_from i taken) → (get_or (locks_from i taken) j d).key < i + length taken
within-from [] i j d h = absurd (omega arith)
within-from (None ∷ more) i j d h = let e = within-from more (suc i) j d h in omega arith
within-from (Some a ∷ more) i zero d h = omega arith
within-from (Some a ∷ more) i (suc j) d h = let e = within-from more (suc i) j d (omega arith) in omega arith

-- a lock that a node takes is of a key that there is
pub lock-within : (tree : List Row) (n j : ℕ) (d : Lock) → j < length (locks tree n) → (get_or (locks tree n) j d).key < length (keys tree)
lock-within tree n j d h =
    let e = within-from (map (taken tree n) (keys tree)) 0 j d h in
    let f : length (map (taken tree n) (keys tree)) ≡ length (keys tree) = length-map (keys tree) (taken tree n) in
    omega arith

-- the lines of the nodes from one on, with its own apart
pub lines-next : (tree : List Row) (s : Settings) (len n : ℕ) → n < len → node_lines tree s (len - n) n ≡ node_line tree s n ++ node_lines tree s (len - (n + 1)) (n + 1)
lines-next tree s len n h =
    let e : len - n ≡ suc (len - (n + 1)) = omega arith in
    let f : n + 1 ≡ suc n = omega arith in
    rw e (ap (λ (m : ℕ). node_line tree s n ++ node_lines tree s (len - (n + 1)) m) (sym f))

pub tests-next : (tree : List Row) (s : Settings) (len n : ℕ) → n < len → test_lines tree s (len - n) n ≡ test_line tree s n ++ test_lines tree s (len - (n + 1)) (n + 1)
tests-next tree s len n h =
    let e : len - n ≡ suc (len - (n + 1)) = omega arith in
    let f : n + 1 ≡ suc n = omega arith in
    rw e (ap (λ (m : ℕ). test_line tree s n ++ test_lines tree s (len - (n + 1)) m) (sym f))

-- the pieces before the locks of a line
pub line-head : {m n : ℕ} {k l s t : List ℕ} → m ≡ n → k ≡ l → s ≡ t
    → decimal m ++ (codes " " ++ (k ++ (codes " " ++ (s ++ (codes " [" ++ []))))) ≡ decimal n ++ codes " " ++ l ++ codes " " ++ t ++ codes " ["
line-head {n = n} {l = l} {t = t} e f h =
    rw (e, f, h)
    (sym (append_assoc (decimal n ++ codes " " ++ l ++ codes " ") t (codes " [")
    ∙ append_assoc (decimal n ++ codes " " ++ l) (codes " ") (t ++ codes " [")
    ∙ append_assoc (decimal n ++ codes " ") l (codes " " ++ (t ++ codes " ["))
    ∙ append_assoc (decimal n) (codes " ") (l ++ (codes " " ++ (t ++ codes " [")))))

-- a lock's pieces
pub lock-pieces : {a b c x y z : List ℕ} → a ≡ x → b ≡ y → c ≡ z → a ++ (b ++ (c ++ [])) ≡ x ++ (y ++ z)
lock-pieces {z = z} e f h = rw (e, f, h, append-nil z) refl
