-- Plans of picked paths: each of these is a node's, so that what may be wrong with their plan is its size alone.
use Rattle.std.proofs.Common.{◌≡◌, ℕ, zero, suc, ◌+◌, ◌-◌, ◌<◌, ◌≤◌, List, Option, Some, None, [], ◌∷◌, ◌++◌, length, map, Bool, true, false, not, ◌||◌, ◌==◌, cond, refl, sym, ap, ap₂, ◌∙◌, arith, add-one, bytes_eq}
use Rattle.std.proofs.lemmas.Bool.Decides.{nat_tests}
use Rattle.std.proofs.lemmas.Slice.Eq.{bytes_eq-Decides}
use Rattle.std.proofs.lemmas.List.{map_push}
use Rattle.std.proofs.lemmas.List.Folds.{list_any-append}
use Rattle.std.proofs.lemmas.List.FromFn.{map-range_with_len_more}
use Rattle.std.specs.List.{list_any, position_from, range_with_len}
use Rattle.std.specs.Option.{option_or}
use Rattle.iso_model.specs.NameSets.{is_among}
use Rattle.iso_model.specs.Scripts.{Script}
use Rattle.iso_plan.proofs.PathLemmas.{eq_from}
use Rattle.iso_plan.proofs.TreeLemmas.{tree-is}
use Rattle.iso_plan.specs.Faults.{full_fault, keys_fault, not_selected, plan_fault, scripts_fault}
use Rattle.iso_plan.specs.PathTexts.{path_text}
use Rattle.iso_plan.specs.KeptNodes.{first_unknown, node_paths, plan_tree, selection, those_below}
use Rattle.iso_plan.specs.Tree.{Row, tree}
use Rattle.iso_plan.specs.declared.fault.PlanFault.{PlanFault}
use Rattle.iso_selection.proofs.ShardLemmas.{none-tree, picked-root}
use Rattle.iso_selection.specs.PickedPlans.{picked_plan_fault, picked_tree, size_fault, tree_by}
use Rattle.iso_selection.specs.Picks.{is_picked, kept_tree, pick_fault, picked, picked_paths}
use Rattle.iso_selection.specs.Wishes.{Wish, first_in_vain}
use Rattle.iso_selection.specs.declared.shard.Shard.{Shard}

or_true : (a : Bool) → (a || true) ≡ true
or_true true = refl
or_true false = refl

-- a number's text is among those of the numbers from 1 on
among-range : (g : ℕ → List ℕ) (k n : ℕ) → 0 < n → n < suc k → is_among (map g (range_with_len 1 k)) (g n) ≡ true
among-range g zero n pos h = absurd (omega arith)
among-range g (suc k) n pos h =
    ap (λ (j : ℕ). is_among (map g (range_with_len 1 j)) (g n)) (sym (add-one k))
    ∙ ap (λ (ts : List (List ℕ)). is_among ts (g n)) (map-range_with_len_more g 1 k (suc k) (omega arith))
    ∙ list_any-append (λ m. bytes_eq m (g n)) (map g (range_with_len 1 k)) (g (suc k) ∷ [])
    ∙ elim (n == suc k) as (λ (b : Bool). (n == suc k) ≡ b → (is_among (map g (range_with_len 1 k)) (g n) || (bytes_eq (g (suc k)) (g n) || false)) ≡ true) [
      | true ↦ λ e.
          let same : g (suc k) ≡ g n = ap g (sym (eq_from n (suc k) e)) in
          ap (λ (t : Bool). is_among (map g (range_with_len 1 k)) (g n) || (t || false)) ((bytes_eq-Decides (g (suc k)) (g n)).1 same) ∙ or_true (is_among (map g (range_with_len 1 k)) (g n))
      | false ↦ λ e. let less : n < suc k = grind (arith, nat_tests) in ap (λ (t : Bool). t || (bytes_eq (g (suc k)) (g n) || false)) (among-range g k n pos less)
    ] refl

known_node : (tree : List Row) (n : ℕ) → 0 < n → n < length tree → is_among (node_paths tree) (path_text tree n) ≡ true
known_node tree n pos h = among-range (path_text tree) (length tree - 1) n pos (omega arith)

abbrev is_unknown : List Row → List ℕ → Bool
is_unknown tree text = not (is_among (node_paths tree) text)

unknown_by : (tree : List Row) (f : ℕ → Bool) (n : ℕ) (b : Bool) → (b ≡ true → is_unknown tree (path_text tree n) ≡ false) → list_any (is_unknown tree) (map (path_text tree) (those_below f n)) ≡ false
    → list_any (is_unknown tree) (map (path_text tree) (cond b (those_below f n ++ n ∷ []) (those_below f n))) ≡ false
unknown_by tree f n true own before =
    ap (list_any (is_unknown tree)) (map_push (path_text tree) (those_below f n) n)
    ∙ list_any-append (is_unknown tree) (map (path_text tree) (those_below f n)) (path_text tree n ∷ [])
    ∙ ap₂ (λ (a b : Bool). a || (b || false)) before (own refl)
unknown_by tree f n false own before = before

some : (f : ℕ → Bool) → f 0 ≡ false → (n : ℕ) → f n ≡ true → 0 < n
some f root zero e = let wrong : false ≡ true = sym root ∙ e in absurd (cc)
some f root (suc n) e = omega arith

none-unknown : (tree : List Row) (f : ℕ → Bool) → f 0 ≡ false → (n : ℕ) → n ≤ length tree → list_any (is_unknown tree) (map (path_text tree) (those_below f n)) ≡ false
none-unknown tree f root zero h = refl
none-unknown tree f root (suc n) h = unknown_by tree f n (f n) (λ e. ap not (known_node tree n (some f root n e) (omega arith))) (none-unknown tree f root n (omega arith))

position_by : (p : List ℕ → Bool) (xs : List (List ℕ)) (k : ℕ) → (list_any p xs ≡ false → position_from p (k + 1) xs ≡ None)
    → (b : Bool) → (b || list_any p xs) ≡ false → cond b (Some k) (position_from p (k + 1) xs) ≡ None
position_by p xs k ih true e = absurd (cc)
position_by p xs k ih false e = ih e

position-none : (p : List ℕ → Bool) (xs : List (List ℕ)) (k : ℕ) → list_any p xs ≡ false → position_from p k xs ≡ None
position-none p [] k e = refl
position-none p (x ∷ xs) k e = position_by p xs k (position-none p xs (k + 1)) (p x) e

pub picked-known : (tree : List Row) (wishes : Option (List Wish)) (shard : Option Shard) → first_unknown tree (picked_paths tree wishes shard) ≡ None
picked-known tree wishes shard =
    position-none (is_unknown tree) (picked_paths tree wishes shard) 0 (none-unknown tree (is_picked tree wishes shard) (picked-root tree wishes shard) (length tree) (omega arith))

-- the first of three, where one of the first two is there, or none of them
first_of : (a b c : Option PlanFault) (fault : PlanFault) → option_or a b ≡ Some fault → option_or a (option_or b c) ≡ Some fault
first_of (Some a) b c fault e = e
first_of None (Some b) c fault e = e
first_of None None c fault e = let wrong : None ≡ Some fault = e in absurd (cc)

last_of : (a b c : Option PlanFault) → option_or a b ≡ None → (a ≡ None) × (option_or a (option_or b c) ≡ c)
last_of (Some a) b c e = let wrong : Some a ≡ None = e in absurd (cc)
last_of None (Some b) c e = let wrong : Some b ≡ None = e in absurd (cc)
last_of None None c e = (refl, refl)

alone_of : (a : Option PlanFault) → option_or a None ≡ a
alone_of None = refl
alone_of (Some a) = refl

-- what is wrong with what is asked for is what is wrong with its plan
pub pick-refused : (scripts : List Script) (wishes : Option (List Wish)) (shard : Option Shard) (fault : PlanFault)
    → pick_fault scripts wishes shard ≡ Some fault → picked_plan_fault scripts wishes shard ≡ Some fault
pick-refused scripts None None fault e = let wrong : None ≡ Some fault = e in absurd (cc)
pick-refused scripts None (Some shard) fault e =
    first_of (scripts_fault scripts) None (size_fault (picked_tree scripts None (Some shard))) fault (alone_of (scripts_fault scripts) ∙ e)
pick-refused scripts (Some wishes) shard fault e =
    first_of (scripts_fault scripts) (not_selected (first_in_vain (tree scripts) (Some wishes))) (size_fault (picked_tree scripts (Some wishes) shard)) fault e

-- where nothing is asked for, the plan is that of all
pub all-fault : (scripts : List Script) (wishes : Option (List Wish)) (shard : Option Shard)
    → None ≡ picked (tree scripts) wishes shard → plan_fault scripts [] ≡ picked_plan_fault scripts wishes shard
all-fault scripts None None e = refl
all-fault scripts None (Some shard) e = let wrong : None ≡ Some (picked_paths (tree scripts) None (Some shard)) = e in absurd (cc)
all-fault scripts (Some wishes) shard e = let wrong : None ≡ Some (picked_paths (tree scripts) (Some wishes) shard) = e in absurd (cc)

-- else it is that of the picked paths, and may be too large
pub record IsLeft (scripts : List Script) (wishes : Option (List Wish)) (shard : Option Shard) (paths : List (List ℕ)) : Type 0 where
  pub sound : scripts_fault scripts ≡ None
  pub size : picked_plan_fault scripts wishes shard ≡ size_fault (kept_tree (tree scripts) paths)
  pub known : first_unknown (tree scripts) paths ≡ None

some_same : (x y : List (List ℕ)) → Some x ≡ Some y → x ≡ y
some_same x y e = cc

pub left-is : (scripts : List Script) (wishes : Option (List Wish)) (shard : Option Shard) (paths : List (List ℕ))
    → Some paths ≡ picked (tree scripts) wishes shard → pick_fault scripts wishes shard ≡ None → IsLeft scripts wishes shard paths
left-is scripts None None paths e none = let wrong : Some paths ≡ None = e in absurd (cc)
left-is scripts None (Some shard) paths e none =
    let same : paths ≡ picked_paths (tree scripts) None (Some shard) = some_same paths (picked_paths (tree scripts) None (Some shard)) e in
    let parts = last_of (scripts_fault scripts) None (size_fault (picked_tree scripts None (Some shard))) (alone_of (scripts_fault scripts) ∙ none) in
    record {
      sound = parts.0;
      size = parts.1 ∙ ap (λ (ps : List (List ℕ)). size_fault (kept_tree (tree scripts) ps)) (sym same);
      known = ap (first_unknown (tree scripts)) same ∙ picked-known (tree scripts) None (Some shard);
    }
left-is scripts (Some wishes) shard paths e none =
    let same : paths ≡ picked_paths (tree scripts) (Some wishes) shard = some_same paths (picked_paths (tree scripts) (Some wishes) shard) e in
    let parts = last_of (scripts_fault scripts) (not_selected (first_in_vain (tree scripts) (Some wishes))) (size_fault (picked_tree scripts (Some wishes) shard)) none in
    record {
      sound = parts.0;
      size = parts.1 ∙ ap (λ (ps : List (List ℕ)). size_fault (kept_tree (tree scripts) ps)) (sym same);
      known = ap (first_unknown (tree scripts)) same ∙ picked-known (tree scripts) (Some wishes) shard;
    }

-- of no path the plan is that of no scripts
pub nothing-tree : (scripts : List Script) (wishes : Option (List Wish)) (shard : Option Shard) → Some [] ≡ picked (tree scripts) wishes shard → tree [] ≡ picked_tree scripts wishes shard
nothing-tree scripts wishes shard e = sym (none-tree (tree scripts) (tree-is scripts)) ∙ ap (tree_by (tree scripts)) e

pub nothing-fault : (scripts : List Script) (wishes : Option (List Wish)) (shard : Option Shard) → IsLeft scripts wishes shard [] → plan_fault [] [] ≡ picked_plan_fault scripts wishes shard
nothing-fault scripts wishes shard l =
    sym (l.size ∙ ap size_fault (none-tree (tree scripts) (tree-is scripts)))

these_tree : (nodes : List Row) (paths : List (List ℕ)) → 0 < length paths → selection nodes paths ≡ kept_tree nodes paths
these_tree nodes [] h = absurd (omega arith)
these_tree nodes (p ∷ ps) h = refl

-- of some it is theirs
pub these-tree : (scripts : List Script) (paths : List (List ℕ)) → 0 < length paths → plan_tree scripts paths ≡ kept_tree (tree scripts) paths
these-tree scripts paths h = these_tree (tree scripts) paths h

pub these-fault : (scripts : List Script) (wishes : Option (List Wish)) (shard : Option Shard) (paths : List (List ℕ))
    → 0 < length paths → IsLeft scripts wishes shard paths → plan_fault scripts paths ≡ picked_plan_fault scripts wishes shard
these-fault scripts wishes shard paths h l =
    ap₂ (λ (a b : Option PlanFault). option_or a (option_or (option_or b (full_fault (plan_tree scripts paths))) (keys_fault (plan_tree scripts paths)))) l.sound (ap not_selected l.known)
    ∙ ap size_fault (these-tree scripts paths h) ∙ sym l.size
