-- Laws of gathered locks: which nodes are locking nodes, and what one node more adds to what they take.
use Rattle.std.proofs.Common.{◌≡◌, ℕ, zero, suc, ◌+◌, ◌<◌, ◌≤◌, List, [], ◌∷◌, ◌++◌, Option, Some, None, Bool, true, false, ◌||◌, ◌&&◌, ◌==◌, cond, length, map, get_or, set, replicate, refl, sym, ap, ap₂, ◌∙◌, arith, add-one, bytes_eq}
use Rattle.std.proofs.lemmas.List.{length-map, length-replicate, length-set, get_or-set_same, get_or-set_other}
use Rattle.std.proofs.lemmas.List.Elements.{All-from_recursion}
use Rattle.std.specs.List.{All, AllByRecursion}
use Rattle.iso_model.proofs.RightsLemmas.{strongest-none, strongest-assoc, strongest-comm}
use Rattle.iso_model.specs.ResourceKeys.{global_key}
use Rattle.iso_model.specs.Rights.{strongest}
use Rattle.iso_model.specs.declared.access.Access.{Access}
use Rattle.iso_model.specs.declared.access.Access.TheVariants.{Read, Write}
use Rattle.iso_plan.proofs.ColumnLemmas.{length-column, column-read}
use Rattle.iso_plan.proofs.KeyLemmas.{global-first}
use Rattle.iso_plan.proofs.PathLemmas.{IsBelow, eq_from, eq_same, under-outermost, outermost-own, under-le}
use Rattle.iso_plan.proofs.SoFar.{all-taken, gathered_below, taken_below}
use Rattle.iso_plan.specs.KeyTable.{keys}
use Rattle.iso_plan.specs.Locks.{declared, declares, global_access, holds_isolated, is_locking, is_that, lock_of, locking_node, locks, locks_from, taken}
use Rattle.iso_plan.specs.Paths.{column, is_root, is_top, is_under}
use Rattle.iso_plan.specs.Tables.{own_global, own_table, with_first}
use Rattle.iso_plan.specs.Tree.{Row}
use Rattle.iso_plan.specs.declared.lock.Lock.{Lock}

pub that-is : (o : Option ℕ) (m : ℕ) → is_that o m ≡ true → o ≡ Some m
that-is None m h = absurd (cc)
that-is (Some n) m h = ap Some (eq_from n m h)

pub that-self : (o : Option ℕ) (m : ℕ) → o ≡ Some m → is_that o m ≡ true
that-self o m e = ap (λ (x : Option ℕ). is_that x m) e ∙ eq_same m

-- what stands in a locking node has it as its locking node, and nothing else has
pub under-locking : (tree : List Row) → IsBelow tree → (m n : ℕ) → is_locking tree m ≡ true → is_under tree m n ≡ is_that (locking_node tree n) m
under-locking tree b m n l = under-outermost tree b (declares tree) m (that-is (locking_node tree m) m l) n

-- the locking node of a path is the locking node of its own
pub locking-locks : (tree : List Row) → IsBelow tree → (m n : ℕ) → locking_node tree n ≡ Some m → is_locking tree m ≡ true
locking-locks tree b m n e = that-self (locking_node tree m) m (outermost-own tree b (declares tree) m n e)

pub locking-le : (tree : List Row) → IsBelow tree → (m n : ℕ) → locking_node tree n ≡ Some m → m ≤ n
locking-le tree b m n e =
    under-le tree b m n (under-locking tree b m n (locking-locks tree b m n e) ∙ that-self (locking_node tree n) m e)

-- a node with another locking node adds nothing
other_by : (tree : List Row) → IsBelow tree → (m n : ℕ) (k : List ℕ) → is_that (locking_node tree n) m ≡ false
    → (t : Bool) → is_locking tree m ≡ t → taken_below tree m k (suc n) ≡ taken_below tree m k n
other_by tree b m n k apart true l =
    ap (λ (u : Bool). strongest (global_access tree m k) (cond (is_locking tree m) (strongest (cond u (declared tree n k) None) (gathered_below tree m k n)) None)) (under-locking tree b m n l ∙ apart)
other_by tree b m n k apart false l =
    ap (λ (u : Bool). strongest (global_access tree m k) (cond u (gathered_below tree m k (suc n)) None)) l
    ∙ sym (ap (λ (u : Bool). strongest (global_access tree m k) (cond u (gathered_below tree m k n) None)) l)

pub taken-other : (tree : List Row) → IsBelow tree → (m n : ℕ) (k : List ℕ) → is_that (locking_node tree n) m ≡ false → taken_below tree m k (suc n) ≡ taken_below tree m k n
taken-other tree b m n k apart = other_by tree b m n k apart (is_locking tree m) refl

swap : (g d x : Option Access) → strongest g (strongest d x) ≡ strongest d (strongest g x)
swap g d x = sym (strongest-assoc g d x) ∙ ap (λ (y : Option Access). strongest y x) (strongest-comm g d) ∙ strongest-assoc d g x

-- a node adds what it declares to what its locking node takes
pub taken-same : (tree : List Row) → IsBelow tree → (m n : ℕ) (k : List ℕ) → locking_node tree n ≡ Some m → taken_below tree m k (suc n) ≡ strongest (declared tree n k) (taken_below tree m k n)
taken-same tree b m n k e =
    let l : is_locking tree m ≡ true = locking-locks tree b m n e in
    let u : is_under tree m n ≡ true = under-locking tree b m n l ∙ that-self (locking_node tree n) m e in
    let g = global_access tree m k in
    let x = gathered_below tree m k n in
    let d = declared tree n k in
    ap₂ (λ (p q : Bool). strongest g (cond p (strongest (cond q d None) x) None)) l u ∙ swap g d x
    ∙ sym (ap (λ (p : Bool). strongest d (strongest g (cond p x None))) l)

none_at : (c i : ℕ) → get_or (replicate c None) i None ≡ (let none : Option Access = None in none)
none_at zero i = refl
none_at (suc c) zero = refl
none_at (suc c) (suc i) = none_at c i

first_none : (c i : ℕ) → get_or (with_first None (replicate c None)) i None ≡ (let none : Option Access = None in none)
first_none zero i = refl
first_none (suc c) zero = refl
first_none (suc c) (suc i) = none_at c i

first_some : (a : Option Access) (c i : ℕ) → i < c → get_or (with_first a (replicate c None)) i None ≡ cond (is_root i) a None
first_some a zero i h = absurd (omega arith)
first_some a (suc c) zero h = refl
first_some a (suc c) (suc i) h = none_at c i

cond_none : {A : Type 0} (b : Bool) → cond b None None ≡ (let none : Option A = None in none)
cond_none true = refl
cond_none false = refl

own_by : (tree : List Row) (m i : ℕ) → i < length (keys tree) → (t : Bool) → is_top tree m ≡ t → get_or (own_table tree (length (keys tree)) m) i None ≡ global_access tree m (get_or (keys tree) i [])
own_by tree m i h true e =
    let a : Option Access = Some (cond (holds_isolated tree m) Write Read) in
    ap (λ (p : Bool). get_or (with_first (cond p a None) (replicate (cond (p || is_locking tree m) (length (keys tree)) 0) None)) i None) e
    ∙ first_some a (length (keys tree)) i h
    ∙ sym (ap₂ (λ (p q : Bool). cond (p && q) a None) e (global-first tree i h))
own_by tree m i h false e =
    let a : Option Access = Some (cond (holds_isolated tree m) Write Read) in
    ap (λ (p : Bool). get_or (with_first (cond p a None) (replicate (cond (p || is_locking tree m) (length (keys tree)) 0) None)) i None) e
    ∙ first_none (cond (is_locking tree m) (length (keys tree)) 0) i
    ∙ sym (ap (λ (p : Bool). cond (p && bytes_eq global_key (get_or (keys tree) i [])) a None) e)

-- a node's own table has what it takes before anything is gathered
pub own-start : (tree : List Row) (m i : ℕ) → i < length (keys tree) → get_or (own_table tree (length (keys tree)) m) i None ≡ taken_below tree m (get_or (keys tree) i []) 0
own-start tree m i h =
    own_by tree m i h (is_top tree m) refl ∙ sym (strongest-none (global_access tree m (get_or (keys tree) i [])))
    ∙ sym (ap (strongest (global_access tree m (get_or (keys tree) i []))) (cond_none (is_locking tree m)))

pub first-length : (a : Option Access) (xs : List (Option Access)) → length (with_first a xs) ≡ length xs
first-length a [] = refl
first-length a (x ∷ xs) = refl

-- the locks of a table, of which keys past its end are not taken
pub listed-from : (f : List ℕ → Option Access) (ks : List (List ℕ)) (os : List (Option Access)) (i : ℕ) → length os ≤ length ks
    → ((j : ℕ) → j < length ks → get_or os j None ≡ f (get_or ks j [])) → locks_from i os ≡ locks_from i (map f ks)
listed-from f [] [] i h each = refl
listed-from f [] (o ∷ os) i h each = absurd (omega arith)
listed-from f (k ∷ ks) [] i h each =
    listed-from f ks [] (suc i) (omega arith) (λ j l. each (suc j) (omega arith))
    ∙ ap (λ (o : Option Access). lock_of i o ++ locks_from (suc i) (map f ks)) (each 0 (omega arith))
listed-from f (k ∷ ks) (o ∷ os) i h each =
    ap₂ (λ (x : Option Access) (ls : List Lock). lock_of i x ++ ls) (each 0 (omega arith)) (listed-from f ks os (suc i) (omega arith) (λ j l. each (suc j) (omega arith)))

-- how many accesses a node's table has: none where it is left out
abbrev pub size_of : List Row → (ℕ → Bool) → ℕ → ℕ
size_of tree out m = cond (out m) 0 (cond (is_top tree m || is_locking tree m) (length (keys tree)) 0)

-- tables of accesses by key number for l nodes, where what is marked on the first n is gathered, and those of some are left out
pub record TablesAre (tree : List Row) (out : ℕ → Bool) (l : ℕ) (tables : List (List (Option Access))) (n : ℕ) : Type 0 where
  pub each : length tables ≡ l
  pub sizes : (m : ℕ) → m < l → length (get_or tables m []) ≡ size_of tree out m
  pub so_far : (m i : ℕ) → m < l → out m ≡ false → i < length (keys tree) → get_or (get_or tables m []) i None ≡ taken_below tree m (get_or (keys tree) i []) n

-- the tables before anything is gathered
abbrev pub first_table : List Row → (ℕ → Bool) → ℕ → List (Option Access)
first_table tree out n = cond (out n) [] (own_table tree (length (keys tree)) n)

first_size : (tree : List Row) (m : ℕ) (b : Bool) → length (cond b [] (own_table tree (length (keys tree)) m)) ≡ cond b 0 (cond (is_top tree m || is_locking tree m) (length (keys tree)) 0)
first_size tree m true = refl
first_size tree m false =
    let size = cond (is_top tree m || is_locking tree m) (length (keys tree)) 0 in
    first-length (own_global tree m) (replicate size None) ∙ length-replicate size None

pub tables-start : (tree : List Row) (out : ℕ → Bool) (l : ℕ) (tables : List (List (Option Access))) → tables ≡ column (first_table tree out) l → TablesAre tree out l tables 0
tables-start tree out l tables e =
    record {
      each = ap length e ∙ length-column (first_table tree out) l;
      sizes = λ m h. ap length (column-read (first_table tree out) tables l m [] e h) ∙ first_size tree m (out m);
      so_far = λ m i h kept k. ap (λ (t : List (Option Access)). get_or t i None) (column-read (first_table tree out) tables l m [] e h)
          ∙ ap (λ (b : Bool). get_or (cond b [] (own_table tree (length (keys tree)) m)) i None) kept ∙ own-start tree m i k;
    }

pub tables-skip : (tree : List Row) (out : ℕ → Bool) → IsBelow tree → (l : ℕ) (tables : List (List (Option Access))) (n : ℕ) → TablesAre tree out l tables n → locking_node tree n ≡ None
    → TablesAre tree out l tables (n + 1)
tables-skip tree out b l tables n t e =
    record {
      each = t.each;
      sizes = t.sizes;
      so_far = λ m i h kept k. rw add-one (t.so_far m i h kept k ∙ sym (taken-other tree b m n (get_or (keys tree) i []) (ap (λ (o : Option ℕ). is_that o m) e)));
    }

-- a node adds nothing where it adds nothing to what each node takes whose table isn't left out
pub tables-stay : (tree : List Row) (out : ℕ → Bool) (l : ℕ) (tables : List (List (Option Access))) (n : ℕ) → TablesAre tree out l tables n
    → ((m : ℕ) (k : List ℕ) → out m ≡ false → taken_below tree m k (suc n) ≡ taken_below tree m k n) → TablesAre tree out l tables (n + 1)
tables-stay tree out l tables n t same =
    record {
      each = t.each;
      sizes = t.sizes;
      so_far = λ m i h kept k. rw add-one (t.so_far m i h kept k ∙ sym (same m (get_or (keys tree) i []) kept));
    }

or_true : (b : Bool) → (b || true) ≡ true
or_true true = refl
or_true false = refl

-- a locking node has a table of all keys
pub locking-size : (tree : List Row) (out : ℕ → Bool) → IsBelow tree → (l : ℕ) (tables : List (List (Option Access))) (n m : ℕ)
    → TablesAre tree out l tables n → locking_node tree n ≡ Some m → m < l → out m ≡ false → length (get_or tables m []) ≡ length (keys tree)
locking-size tree out b l tables n m t e h kept =
    t.sizes m h ∙ ap (λ (o : Bool). cond o 0 (cond (is_top tree m || is_locking tree m) (length (keys tree)) 0)) kept
    ∙ ap (λ (u : Bool). cond (is_top tree m || u) (length (keys tree)) 0) (locking-locks tree b m n e) ∙ ap (λ (u : Bool). cond u (length (keys tree)) 0) (or_true (is_top tree m))

size_by : (tree : List Row) (out : ℕ → Bool) (l : ℕ) (tables : List (List (Option Access))) (n m : ℕ) (new : List (Option Access)) → TablesAre tree out l tables n → m < length tables
    → length new ≡ length (get_or tables m []) → (j : ℕ) → j < l → (u : Bool) → (m == j) ≡ u
    → length (get_or (set tables m new) j []) ≡ size_of tree out j
size_by tree out l tables n m new t w s j h true e =
    let same : m ≡ j = eq_from m j e in
    ap (λ (k : ℕ). length (get_or (set tables m new) k [])) (sym same) ∙ ap length (get_or-set_same tables m new [] w) ∙ s ∙ ap (λ (k : ℕ). length (get_or tables k [])) same ∙ t.sizes j h
size_by tree out l tables n m new t w s j h false e =
    ap length (get_or-set_other tables m j new [] (λ same. let yes : (m == j) ≡ true = ap (λ k. m == k) same ∙ eq_same m in absurd (cc))) ∙ t.sizes j h

so_far_by : (tree : List Row) (out : ℕ → Bool) → IsBelow tree → (l : ℕ) (tables : List (List (Option Access))) (n m : ℕ) (new : List (Option Access)) → TablesAre tree out l tables n
    → locking_node tree n ≡ Some m → m < l → m < length tables
    → ((i : ℕ) → i < length (keys tree) → get_or new i None ≡ strongest (declared tree n (get_or (keys tree) i [])) (get_or (get_or tables m []) i None))
    → (j i : ℕ) → j < l → out j ≡ false → i < length (keys tree) → (u : Bool) → (m == j) ≡ u → get_or (get_or (set tables m new) j []) i None ≡ taken_below tree j (get_or (keys tree) i []) (suc n)
so_far_by tree out b l tables n m new t own hm w each j i hj kept hi true e =
    let same : m ≡ j = eq_from m j e in
    let k = get_or (keys tree) i [] in
    ap (λ (x : ℕ). get_or (get_or (set tables m new) x []) i None) (sym same) ∙ ap (λ (x : List (Option Access)). get_or x i None) (get_or-set_same tables m new [] w)
    ∙ each i hi ∙ ap (strongest (declared tree n k)) (t.so_far m i hm (ap out same ∙ kept) hi) ∙ sym (taken-same tree b m n k own) ∙ ap (λ (x : ℕ). taken_below tree x k (suc n)) same
so_far_by tree out b l tables n m new t own hm w each j i hj kept hi false e =
    let k = get_or (keys tree) i [] in
    ap (λ (x : List (Option Access)). get_or x i None) (get_or-set_other tables m j new [] (λ same. let yes : (m == j) ≡ true = ap (λ k. m == k) same ∙ eq_same m in absurd (cc)))
    ∙ t.so_far j i hj kept hi ∙ sym (taken-other tree b j n k (ap (λ (o : Option ℕ). is_that o j) own ∙ e))

-- what is marked on a node is gathered in the table of its locking node
pub tables-gather : (tree : List Row) (out : ℕ → Bool) → IsBelow tree → (l : ℕ) (tables : List (List (Option Access))) (n m : ℕ) (new : List (Option Access))
    → TablesAre tree out l tables n → locking_node tree n ≡ Some m → m < l → length new ≡ length (get_or tables m [])
    → ((i : ℕ) → i < length (keys tree) → get_or new i None ≡ strongest (declared tree n (get_or (keys tree) i [])) (get_or (get_or tables m []) i None))
    → TablesAre tree out l (set tables m new) (n + 1)
tables-gather tree out b l tables n m new t own h s each =
    let w : m < length tables = rw t.each h in
    record {
      each = length-set tables m new ∙ t.each;
      sizes = λ j hj. size_by tree out l tables n m new t w s j hj (m == j) refl;
      so_far = λ j i hj kept hi. rw add-one (so_far_by tree out b l tables n m new t own h w each j i hj kept hi (m == j) refl);
    }

few_by : (b : Bool) (k : ℕ) → cond b k 0 ≤ k
few_by true k = omega arith
few_by false k = omega arith

fewer_by : (b : Bool) (n k : ℕ) → n ≤ k → cond b 0 n ≤ k
fewer_by true n k h = omega arith
fewer_by false n k h = h

pub table-fits : (tree : List Row) (out : ℕ → Bool) (l : ℕ) (tables : List (List (Option Access))) (n m : ℕ) → TablesAre tree out l tables n → m < l → length (get_or tables m []) ≤ length (keys tree)
table-fits tree out l tables n m t h =
    let size = t.sizes m h in
    let some = cond (is_top tree m || is_locking tree m) (length (keys tree)) 0 in
    let few : some ≤ length (keys tree) = few_by (is_top tree m || is_locking tree m) (length (keys tree)) in
    let fewer : cond (out m) 0 some ≤ length (keys tree) = fewer_by (out m) some (length (keys tree)) few in
    omega arith

-- where all is gathered, the tables have the locks
pub tables-end : (tree : List Row) (out : ℕ → Bool) (l : ℕ) (tables : List (List (Option Access))) (m : ℕ) → TablesAre tree out l tables (length tree) → m < l → out m ≡ false
    → locks_from 0 (get_or tables m []) ≡ locks tree m
tables-end tree out l tables m t h kept =
    listed-from (taken tree m) (keys tree) (get_or tables m []) 0 (table-fits tree out l tables (length tree) m t h) (λ i k. t.so_far m i h kept k ∙ sym (all-taken tree m (get_or (keys tree) i [])))

known_by : (os : List (Option Access)) (i most : ℕ) → i + length os ≤ most → AllByRecursion (λ (l : Lock). l.key < most) (locks_from i os)
known_by [] i most h = tt
known_by (None ∷ os) i most h = known_by os (suc i) most (omega arith)
known_by (Some a ∷ os) i most h = (omega arith, known_by os (suc i) most (omega arith))

-- a lock's key has a number in the table
pub locks-known : (tree : List Row) (n : ℕ) → All (λ (l : Lock). l.key < length (keys tree)) (locks tree n)
locks-known tree n =
    let count : length (map (taken tree n) (keys tree)) ≡ length (keys tree) = length-map (keys tree) (taken tree n) in
    All-from_recursion (λ (l : Lock). l.key < length (keys tree)) (locks tree n) (known_by (map (taken tree n) (keys tree)) 0 (length (keys tree)) (omega arith))
