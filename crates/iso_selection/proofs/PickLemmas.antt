-- What is picked, from lists that have what is looked at by the nodes' numbers.
use Rattle.std.proofs.Common.{◌≡◌, ℕ, List, Option, Some, None, [], length, map, get_or, Bool, true, false, refl, ap, ◌∙◌, arith}
use Rattle.std.specs.Borrow.{Bor}
use Rattle.std.specs.Option.{is_some, option_or}
use Rattle.iso_model.specs.Scripts.{Script}
use Rattle.iso_plan.proofs.ColumnLemmas.{column-read, length-column}
use Rattle.iso_plan.proofs.NumberLemmas.{map-agree, those-agree}
use Rattle.iso_plan.specs.Faults.{not_selected, scripts_fault}
use Rattle.iso_plan.specs.Paths.{column}
use Rattle.iso_plan.specs.PathTexts.{path_text}
use Rattle.iso_plan.specs.KeptNodes.{those_below}
use Rattle.iso_plan.specs.TopClasses.{all_paths}
use Rattle.iso_plan.specs.Tree.{Row, tree}
use Rattle.iso_selection.specs.Picks.{pick_fault, picked, picked_paths}
use Rattle.iso_selection.specs.Wishes.{Wish, first_in_vain, wishes_of}
use Rattle.iso_selection.specs.declared.shard.Shard.{Shard}
use Rattle.iso_selection.specs.declared.wanted.Wanted.{Wanted}

-- of scripts that are sound by themselves what names no node is wrong alone
pub pick-fault : (scripts : List Script) (wishes : Option (List Wish)) (shard : Option Shard)
    → scripts_fault scripts ≡ None → pick_fault scripts wishes shard ≡ not_selected (first_in_vain (tree scripts) wishes)
pick-fault scripts None None sound = refl
pick-fault scripts None (Some shard) sound = sound
pick-fault scripts (Some wishes) shard sound = ap (λ first. option_or first (not_selected (first_in_vain (tree scripts) (Some wishes)))) sound

-- where something is asked for, or a shard, there are paths
pub picked-wanted : (tree : List Row) (wanted : Option (Bor (List Wanted))) (shard : Option Shard) → is_some wanted ≡ true
    → picked tree (wishes_of wanted) shard ≡ Some (picked_paths tree (wishes_of wanted) shard)
picked-wanted tree None shard e = absurd (cc)
picked-wanted tree (Some wanted) shard e = refl

pub picked-shard : (tree : List Row) (wishes : Option (List Wish)) (shard : Option Shard) → is_some shard ≡ true → picked tree wishes shard ≡ Some (picked_paths tree wishes shard)
picked-shard tree wishes None e = absurd (cc)
picked-shard tree None (Some shard) e = refl
picked-shard tree (Some wishes) (Some shard) e = refl

-- the paths of the nodes that pass, by lists
pub picked-by : (tree : List Row) (passes : ℕ → Bool) (paths : List (List ℕ)) (kept : List Bool) → paths ≡ all_paths tree → kept ≡ column passes (length tree)
    → map (λ n. get_or paths n []) (those_below (λ n. get_or kept n false) (length paths)) ≡ map (path_text tree) (those_below passes (length tree))
picked-by tree passes paths kept are marked =
    let count : length paths ≡ length tree = ap length are ∙ length-column (path_text tree) (length tree) in
    ap (map (λ n. get_or paths n [])) (those-agree (λ n. get_or kept n false) passes (length paths) (λ n h. column-read passes kept (length tree) n false marked (omega arith)))
    ∙ ap (λ (k : ℕ). map (λ n. get_or paths n []) (those_below passes k)) count
    ∙ map-agree passes (λ n. get_or paths n []) (path_text tree) (length tree) (λ n h. column-read (path_text tree) paths (length tree) n [] are h)
