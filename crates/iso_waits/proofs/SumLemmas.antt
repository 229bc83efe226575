-- What single waits add up to, wait by wait, and in a table by key.
use Rattle.std.proofs.Common.{◌≡◌, ℕ, ◌+◌, ◌<◌, ◌≤◌, ◌==◌, List, [], ◌∷◌, ◌++◌, Option, Some, None, IfSome, Bool, true, false, cond, filter, get_or, length, take, refl, ap, ap₂, subst, sym, ◌∙◌, arith}
use Rattle.std.proofs.lemmas.Bool.Decides.{nat_tests}
use Rattle.std.proofs.lemmas.List.{append-nil, take_more}
use Rattle.std.proofs.lemmas.List.Elements.{filter-append, filter_map-append, recursion_from_All}
use Rattle.std.specs.List.{All, AllByRecursion, cons_option, filter_map}
use Rattle.std.specs.Option.{option_to_list}
use Rattle.iso_plan.proofs.PathLemmas.{eq_from, eq_same}
use Rattle.iso_plan.specs.KeyTable.{keys}
use Rattle.iso_plan.specs.Tree.{Row}
use Rattle.iso_plan.specs.declared.lock.Lock.{Lock}
use Rattle.iso_waits.specs.AllWaits.{added_up, and_then, has_key, key_of, wait_for}
use Rattle.iso_waits.specs.Sums.{AreSums, of_node, sum_at, sums_of}
use Rattle.iso_waits.specs.declared.wait.NodeWait.{NodeWait}
use Rattle.iso_waits.specs.declared.wait.Wait.{Wait}

-- with a single wait more at the end
added-push : (n k : ℕ) (before : Option NodeWait) (ws : List Wait) (w : Wait) → added_up n k before (ws ++ w ∷ []) ≡ Some (and_then n k (added_up n k before ws) w)
added-push n k before [] w = refl
added-push n k before (x ∷ xs) w = added-push n k (Some (and_then n k before x)) xs w

wait-push : (tree : List Row) (n : ℕ) (ws : List Wait) (w : Wait) (k : ℕ)
    → wait_for tree n (ws ++ w ∷ []) k ≡ cond (has_key tree n k w) (Some (and_then n k (wait_for tree n ws k) w)) (wait_for tree n ws k)
wait-push tree n ws w k = ap (added_up n k None) (filter-append (has_key tree n k) ws (w ∷ [])) ∙ by (has_key tree n k w)
  where
    by : (b : Bool) → added_up n k None (filter (has_key tree n k) ws ++ cond b (w ∷ []) []) ≡ cond b (Some (and_then n k (wait_for tree n ws k) w)) (wait_for tree n ws k)
    by true = added-push n k None (filter (has_key tree n k) ws) w
    by false = ap (added_up n k None) (append-nil (filter (has_key tree n k) ws))

-- a sum that is node n's
own : (n : ℕ) (sum : NodeWait) → sum.node ≡ n → of_node n (Some sum) ≡ Some sum
own n sum e = ap (λ (b : Bool). cond b (Some sum) None) (ap (λ (m : ℕ). m == n) e ∙ eq_same n)

of-own : (n : ℕ) (o : Option NodeWait) → IfSome (of_node n o) (λ sum. sum.node ≡ n)
of-own n None = tt
of-own n (Some sum) = by (sum.node == n) refl
  where
    by : (b : Bool) → (sum.node == n) ≡ b → IfSome (cond b (Some sum) None) (λ s. s.node ≡ n)
    by true e = eq_from sum.node n e
    by false e = tt

then-own : (n k : ℕ) (before : Option NodeWait) (w : Wait) → IfSome before (λ sum. sum.node ≡ n) → (and_then n k before w).node ≡ n
then-own n k None w h = refl
then-own n k (Some sum) w h = h

-- one that isn't a later node's
not-yet : (n : ℕ) (o : Option NodeWait) → IfSome o (λ sum. sum.node ≤ n) → of_node (n + 1) o ≡ None
not-yet n None h = refl
not-yet n (Some sum) h = ap (λ (b : Bool). cond b (Some sum) None) (apart sum.node h)
  where
    apart : (m : ℕ) → m ≤ n → (m == n + 1) ≡ false
    apart m le = grind (arith, nat_tests)

later : (n : ℕ) (o : Option NodeWait) → IfSome o (λ sum. sum.node ≤ n) → IfSome o (λ sum. sum.node ≤ n + 1)
later n None h = tt
later n (Some sum) h = omega (arith, h)

-- the sums for the keys of one lock more
pub locks-more : (n : ℕ) (sums : List (Option NodeWait)) (ls : List Lock) (i : ℕ) (l : Lock) → i < length ls
    → sums_of n sums (take (i + 1) ls) ≡ sums_of n sums (take i ls) ++ option_to_list (sum_at n sums (get_or ls i l).key)
locks-more n sums ls i l h =
    ap (sums_of n sums) (take_more ls i l h)
    ∙ filter_map-append (λ (m : Lock). sum_at n sums m.key) (take i ls) (get_or ls i l ∷ [])
    ∙ ap (λ (ss : List NodeWait). sums_of n sums (take i ls) ++ ss) (by (sum_at n sums (get_or ls i l).key))
  where
    by : (o : Option NodeWait) → cons_option o [] ≡ option_to_list o
    by None = refl
    by (Some sum) = refl

module _ (tree : List Row) (n : ℕ) where
  -- a table in which a single wait more was noted
  pub sums-more : (ws : List Wait) (w : Wait) (key : ℕ) (sums noted : List (Option NodeWait)) → key ≡ key_of tree n w → AreSums tree n ws sums → length noted ≡ length sums
      → ((k : ℕ) → k < length sums → get_or noted k None ≡ cond (key == k) (Some (and_then n key (sum_at n sums k) w)) (get_or sums k None)) → AreSums tree n (ws ++ w ∷ []) noted
  sums-more ws w key sums noted is are size each = record {
    size = size ∙ are.size;
    all = λ k h.
        ap (of_node n) (each k (inside k h))
        ∙ sum-by k h (key == k) refl
        ∙ ap (λ (j : ℕ). cond (j == k) (Some (and_then n k (wait_for tree n ws k) w)) (wait_for tree n ws k)) is
        ∙ sym (wait-push tree n ws w k);
    before = λ k h. subst (λ (o : Option NodeWait). IfSome o (λ sum. sum.node ≤ n)) (sym (each k (inside k h))) (before-by k h (key == k));
  }
    where
      inside : (k : ℕ) → k < length (keys tree) → k < length sums
      inside k h = let e = are.size in omega arith

      mine : (k : ℕ) → (and_then n key (sum_at n sums k) w).node ≡ n
      mine k = then-own n key (sum_at n sums k) w (of-own n (get_or sums k None))

      sum-by : (k : ℕ) → k < length (keys tree) → (b : Bool) → (key == k) ≡ b
          → of_node n (cond b (Some (and_then n key (sum_at n sums k) w)) (get_or sums k None)) ≡ cond (key == k) (Some (and_then n k (wait_for tree n ws k) w)) (wait_for tree n ws k)
      sum-by k h true e =
          own n (and_then n key (sum_at n sums k) w) (mine k)
          ∙ ap (λ (o : Option NodeWait). Some (and_then n key o w)) (are.all k h)
          ∙ ap (λ (j : ℕ). Some (and_then n j (wait_for tree n ws k) w)) (eq_from key k e)
          ∙ sym (ap (λ (b : Bool). cond b (Some (and_then n k (wait_for tree n ws k) w)) (wait_for tree n ws k)) e)
      sum-by k h false e = are.all k h ∙ sym (ap (λ (b : Bool). cond b (Some (and_then n k (wait_for tree n ws k) w)) (wait_for tree n ws k)) e)

      before-by : (k : ℕ) → k < length (keys tree) → (b : Bool) → IfSome (cond b (Some (and_then n key (sum_at n sums k) w)) (get_or sums k None)) (λ sum. sum.node ≤ n)
      before-by k h true = let e = mine k in omega arith
      before-by k h false = are.before k h

  -- a table that is used for the next node
  pub sums-next : (ws : List Wait) (sums : List (Option NodeWait)) → AreSums tree n ws sums → AreSums tree (n + 1) [] sums
  sums-next ws sums are = record {
    size = are.size;
    all = λ k h. not-yet n (get_or sums k None) (are.before k h);
    before = λ k h. later n (get_or sums k None) (are.before k h);
  }

  same-by : (ws : List Wait) (sums : List (Option NodeWait)) (ls : List Lock) → AreSums tree n ws sums
      → AllByRecursion (λ (l : Lock). l.key < length (keys tree)) ls → sums_of n sums ls ≡ filter_map (λ l. wait_for tree n ws l.key) ls
  same-by ws sums [] are known = refl
  same-by ws sums (l ∷ ls) are known = ap₂ (λ (o : Option NodeWait) (rest : List NodeWait). cons_option o rest) (are.all l.key known.0) (same-by ws sums ls are known.1)

  -- what a table has for some locks
  pub sums-are : (ws : List Wait) (sums : List (Option NodeWait)) (ls : List Lock) → AreSums tree n ws sums
      → All (λ (l : Lock). l.key < length (keys tree)) ls → sums_of n sums ls ≡ filter_map (λ l. wait_for tree n ws l.key) ls
  sums-are ws sums ls are known = same-by ws sums ls are (recursion_from_All (λ (l : Lock). l.key < length (keys tree)) ls known)
