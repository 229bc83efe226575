-- The mode of a node, by what is known of its parent.
use Rattle.std.proofs.Common.{◌≡◌, ℕ, zero, suc, ◌<◌, List, Bool, true, false, ◌&&◌, cond, not, replicate, unwrap_or, ap, refl, sym, ◌∙◌, arith}
use Rattle.std.specs.List.{list_any}
use Rattle.iso_model.specs.declared.script.Mode.TheVariants.{SameThread}
use Rattle.iso_plan.proofs.ColumnLemmas.{replicate-column}
use Rattle.iso_plan.specs.Locks.{takes_write}
use Rattle.iso_plan.specs.Modes.{chosen_mode, forces, is_forced, mode, nearest_mode}
use Rattle.iso_plan.specs.Paths.{IsTree, column, is_root, parent, path}
use Rattle.iso_plan.specs.Tree.{Row}
use Rattle.iso_settings.specs.declared.settings.Settings.{Settings}

pub mode-root : (tree : List Row) (s : Settings) → mode tree s 0 ≡ SameThread
mode-root tree s =
    elim s.parallel as (λ p. cond (p && not true && not (is_forced tree 0)) (chosen_mode tree s 0) SameThread ≡ SameThread) [ true ↦ refl | false ↦ refl ]

pub mode-step : (tree : List Row) (s : Settings) (n : ℕ) → 0 < n
    → mode tree s n ≡ cond (s.parallel && not (list_any (takes_write tree) (path tree (parent tree n))))
    (unwrap_or (nearest_mode tree (path tree n)) (cond (is_root (parent tree n)) s.classes_default_mode s.default_mode)) SameThread
mode-step tree s zero h = absurd (omega arith)
mode-step tree s (suc n) h =
    elim s.parallel as (λ p. cond (p && not false && not (is_forced tree (suc n))) (chosen_mode tree s (suc n)) SameThread ≡ cond (p && not (is_forced tree (suc n)))
    (chosen_mode tree s (suc n)) SameThread) [ true ↦ refl | false ↦ refl ]

-- a parent isn't a test, so that it forces what stands in it where it or a class around it writes
pub forces-in : (tree : List Row) → IsTree tree → (n : ℕ) → 0 < n → forces tree (parent tree n) ≡ list_any (takes_write tree) (path tree (parent tree n))
forces-in tree t n h = ap (λ (b : Bool). not b && list_any (takes_write tree) (path tree (parent tree n))) (t.inner n h)

-- where parallel execution is off all are on the same thread
pub modes-off : (tree : List Row) (s : Settings) (n : ℕ) → s.parallel ≡ false → replicate n SameThread ≡ column (mode tree s) n
modes-off tree s n off =
    replicate-column SameThread n ∙ (λ i. column (λ m. cond (sym off i && not (is_root m) && not (is_forced tree m)) (chosen_mode tree s m) SameThread) n)
