-- Laws of the key table: its keys differ, and the global key is the first.
use Rattle.std.proofs.Common.{◌≡◌, ℕ, zero, suc, ◌+◌, ◌<◌, ◌≤◌, List, [], ◌∷◌, ◌++◌, Option, Some, None, Bool, true, false, ◌==◌, Bor, cond, length, map, get_or, not, nat_lt, refl, sym, ap, ap₂, ◌∙◌, arith, bytes_eq}
use Rattle.std.proofs.lemmas.Bool.Decides.{nat_tests}
use Rattle.std.proofs.lemmas.Cmp.{nat_list_eq_equiv}
use Rattle.std.proofs.lemmas.List.{get_or-map, length-map}
use Rattle.std.proofs.lemmas.List.Quantifiers.{position-Some}
use Rattle.std.proofs.lemmas.List.Sums.{fails_before_first}
use Rattle.std.proofs.lemmas.Map.Keys.{IsDistinct-push, apart_from_distinct}
use Rattle.std.specs.Bool.{if◌then◌else◌}
use Rattle.std.specs.Cmp.Lexicographic.{bytes_decides}
use Rattle.std.specs.List.{IsDistinct, list_any, position, position_or_len, prefix_len}
use Rattle.indexmap.specs.IndexSet.{insert_all, insert_key}
use Rattle.iso_model.specs.ResourceKeys.{global_key}
use Rattle.iso_plan.proofs.PathLemmas.{eq_from, eq_same, eq_not}
use Rattle.iso_plan.specs.KeyTable.{keys, marked_keys}
use Rattle.iso_plan.specs.Locks.{is_that}
use Rattle.iso_plan.specs.Paths.{is_root}
use Rattle.iso_plan.specs.Tree.{Row}

-- keys that differ, the global key first
record IsTable (ks : List (List ℕ)) : Type 0 where
  pub distinct : IsDistinct bytes_eq ks
  pub rest : List (List ℕ)
  pub begins : ks ≡ global_key ∷ rest

insert_by : (ks : List (List ℕ)) (k : List ℕ) → IsTable ks → (t : Bool) → list_any (bytes_eq k) ks ≡ t → IsTable (if t then ks else ks ++ k ∷ [])
insert_by ks k h true e = h
insert_by ks k h false e = record { distinct = IsDistinct-push nat_list_eq_equiv ks k h.distinct e; rest = h.rest ++ k ∷ []; begins = ap (λ (xs : List (List ℕ)). xs ++ k ∷ []) h.begins }

insert_table : (ks : List (List ℕ)) (k : List ℕ) → IsTable ks → IsTable (insert_key bytes_eq ks k)
insert_table ks k h = insert_by ks k h (list_any (bytes_eq k) ks) refl

all_table : (xs ks : List (List ℕ)) → IsTable ks → IsTable (insert_all bytes_eq ks xs)
all_table [] ks h = h
all_table (x ∷ xs) ks h = all_table xs (insert_key bytes_eq ks x) (insert_table ks x h)

start_table : IsTable (global_key ∷ [])
unfolding IsDistinct
start_table = record { distinct = (tt, tt); rest = []; begins = refl }

is_table : (tree : List Row) → IsTable (keys tree)
is_table tree = all_table (marked_keys tree) (global_key ∷ []) start_table

pub keys-distinct : (tree : List Row) → IsDistinct bytes_eq (keys tree)
keys-distinct tree = (is_table tree).distinct

pub has-keys : (tree : List Row) → 0 < length (keys tree)
has-keys tree =
    let t = is_table tree in
    let count : length (keys tree) ≡ length (global_key ∷ t.rest) = ap length t.begins in
    omega arith

pub first-key : (tree : List Row) → get_or (keys tree) 0 [] ≡ global_key
first-key tree = ap (λ (ks : List (List ℕ)). get_or ks 0 []) (is_table tree).begins

distinct_by : (ks : List (List ℕ)) (i j : ℕ) → IsDistinct bytes_eq ks → i < length ks → j < length ks → (t : Bool) → (j == i) ≡ t → bytes_eq (get_or ks i []) (get_or ks j []) ≡ t
distinct_by ks i j d hi hj true e =
    let same : j ≡ i = eq_from j i e in
    ap (λ m. bytes_eq (get_or ks i []) (get_or ks m [])) same ∙ nat_list_eq_equiv.refl (get_or ks i [])
distinct_by ks i j d hi hj false e = elim (nat_lt i j) as (λ t. nat_lt i j ≡ t → bytes_eq (get_or ks i []) (get_or ks j []) ≡ false) [
  | true ↦ λ l. apart_from_distinct bytes_eq ks i j [] d (grind (arith, nat_tests)) hj
  | false ↦ λ l. nat_list_eq_equiv.symm (get_or ks i []) (get_or ks j []) ∙ apart_from_distinct bytes_eq ks j i [] d (grind (arith, nat_tests)) hi
] refl

-- of keys that differ, two are equal where their numbers are
pub distinct-at : (ks : List (List ℕ)) (i j : ℕ) → IsDistinct bytes_eq ks → i < length ks → j < length ks → bytes_eq (get_or ks i []) (get_or ks j []) ≡ (j == i)
distinct-at ks i j d hi hj = distinct_by ks i j d hi hj (j == i) refl

pub root-eq : (i : ℕ) → (i == 0) ≡ is_root i
root-eq zero = eq_same 0
root-eq (suc i) = eq_not (suc i) 0 (λ e. absurd (omega arith))

-- a key is the global one where it is the first
pub global-first : (tree : List Row) (i : ℕ) → i < length (keys tree) → bytes_eq global_key (get_or (keys tree) i []) ≡ is_root i
global-first tree i h =
    ap (λ (k : List ℕ). bytes_eq k (get_or (keys tree) i [])) (sym (first-key tree)) ∙ distinct-at (keys tree) 0 i (keys-distinct tree) (has-keys tree) h ∙ root-eq i

prefix_map : (p : List ℕ → Bool) (ks : List (Bor (List ℕ))) → prefix_len (λ (x : Bor (List ℕ)). p x.now) ks ≡ prefix_len p (map (λ (x : Bor (List ℕ)). x.now) ks)
prefix_map p [] = refl
prefix_map p (k ∷ ks) = ap (λ n. cond (p k.now) (1 + n) 0) (prefix_map p ks)

position_map : (p : List ℕ → Bool) (ks : List (Bor (List ℕ))) → position (λ (x : Bor (List ℕ)). p x.now) ks ≡ position p (map (λ (x : Bor (List ℕ)). x.now) ks)
position_map p ks =
    ap₂ (λ (n l : ℕ). cond (nat_lt n l) (Some n) None) (prefix_map (λ x. not (p x)) ks) (sym (length-map ks (λ (x : Bor (List ℕ)). x.now)))

past : (n l : ℕ) → (t : Bool) → nat_lt n l ≡ t → cond t (Some n) None ≡ None → l ≤ n
past n l true e h = let no : Some n ≡ None = h in absurd (cc)
past n l false e h = grind (arith, nat_tests)

number_by : (xs : List (List ℕ)) (key : List ℕ) (o : Option ℕ) → position (bytes_eq key) xs ≡ o → IsDistinct bytes_eq xs → (i : ℕ) → i < length xs → bytes_eq (get_or xs i []) key ≡ is_that o i
number_by xs key (Some j) e d i h =
    let at = position-Some (bytes_eq key) xs j [] e in
    let same : key ≡ get_or xs j [] = (bytes_decides key (get_or xs j [])).0 at.1 in
    ap (bytes_eq (get_or xs i [])) same ∙ distinct-at xs i j d h at.0
number_by xs key None e d i h =
    let none : length xs ≤ position_or_len (bytes_eq key) xs = past (position_or_len (bytes_eq key) xs) (length xs) (nat_lt (position_or_len (bytes_eq key) xs) (length xs)) refl e in
    nat_list_eq_equiv.symm (get_or xs i []) key ∙ fails_before_first (bytes_eq key) xs i [] (omega arith)

-- the place of a key is its number, guessed or found
pub guessed-is : (known ks : List (Bor (List ℕ))) (key : List ℕ) (j : ℕ) (d : Bor (List ℕ)) → known ≡ ks → j < length known → true ≡ bytes_eq (get_or known j d).now key
    → IsDistinct bytes_eq (map (λ (x : Bor (List ℕ)). x.now) ks) → (i : ℕ) → i < length ks → bytes_eq (get_or (map (λ (x : Bor (List ℕ)). x.now) ks) i []) key ≡ is_that (Some j) i
guessed-is known ks key j d e within same distinct i h =
    let text : Bor (List ℕ) → List ℕ = λ x. x.now in
    let there : j < length ks = omega (arith, ap length e) in
    let own : (get_or ks j d).now ≡ key = (bytes_decides (get_or ks j d).now key).0 (sym (same ∙ ap (λ (xs : List (Bor (List ℕ))). bytes_eq (get_or xs j d).now key) e)) in
    let here : get_or (map text ks) j [] ≡ key = get_or-map text ks j d [] there ∙ own in
    let count : length (map text ks) ≡ length ks = length-map ks text in
    ap (bytes_eq (get_or (map text ks) i [])) (sym here) ∙ distinct-at (map text ks) i j distinct (omega arith) (omega arith)

pub number-is : (ks : List (Bor (List ℕ))) (key : List ℕ) (o : Option ℕ) → o ≡ position (λ (x : Bor (List ℕ)). bytes_eq key x.now) ks
    → IsDistinct bytes_eq (map (λ (x : Bor (List ℕ)). x.now) ks) → (i : ℕ) → i < length ks → bytes_eq (get_or (map (λ (x : Bor (List ℕ)). x.now) ks) i []) key ≡ is_that o i
number-is ks key o e d i h =
    number_by (map (λ (x : Bor (List ℕ)). x.now) ks) key o (sym (e ∙ position_map (bytes_eq key) ks)) d i (rw (length-map ks (λ (x : Bor (List ℕ)). x.now)) h)
