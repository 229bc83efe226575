-- What results tell, from the tree of their plan: so that it computes for every plan of a tree.
use Rattle.std.proofs.Common.{◌≡◌, ℕ, List, [], ◌∷◌, Option, Some, None, Bool, false, ◌||◌, ◌&&◌, not, cond, slice_index_or, refl, ap, ◌∙◌}
use Rattle.iso_model.specs.Openings.{opening}
use Rattle.iso_model.specs.Statements.{is_well}
use Rattle.iso_model.specs.declared.outcome.Outcome.{Outcome}
use Rattle.iso_plan.specs.NodeChains.{chain_classes}
use Rattle.iso_plan.specs.Paths.{parent, path}
use Rattle.iso_plan.specs.Planned.{Planned}
use Rattle.iso_plan.specs.RowView.{tree_of}
use Rattle.iso_plan.specs.Tree.{Row}
use Rattle.iso_settings.specs.Worlds.{Start}
use Rattle.iso_lifecycle.specs.ResultViews.{ResultsView, is_some_barring, result_in}
use Rattle.iso_lifecycle.specs.Subjects.{first_frame, outcome_alone, own_frame, started, subject}

abbrev pub bars : List Row → Start → List Bool → ℕ → Bool
bars tree start opened n = slice_index_or opened n false && not (is_well (first_frame (opening (chain_classes tree n) (started start)).frames).ending)

abbrev pub some_bars : List Row → Start → List Bool → List ℕ → Bool
some_bars tree start opened [] = false
some_bars tree start opened (n ∷ ns) = bars tree start opened n || some_bars tree start opened ns

same_bars : (v : ResultsView) (ns : List ℕ) → is_some_barring v ns ≡ some_bars (tree_of v.plan) v.start v.opened ns
same_bars v [] = refl
same_bars v (n ∷ ns) = ap (λ (b : Bool). bars (tree_of v.plan) v.start v.opened n || b) (same_bars v ns)

abbrev pub told : List Row → Start → List Bool → List Bool → ℕ → Option Outcome
told tree start opened ended n =
    cond (slice_index_or ended n false || some_bars tree start opened (path tree (parent tree n))) (Some (outcome_alone tree (started start) n)) None

pub told-by : (v : ResultsView) (tree : List Row) (n : ℕ) → tree_of v.plan ≡ tree → result_in v n ≡ told tree v.start v.opened v.ended n
told-by v tree n e =
    ap (λ (b : Bool). cond (slice_index_or v.ended n false || b) (Some (outcome_alone (tree_of v.plan) (started v.start) n)) None) (same_bars v (path (tree_of v.plan) (parent (tree_of v.plan) n)))
    ∙ ap (λ (t : List Row). told t v.start v.opened v.ended n) e

-- whether a class was opened well
abbrev pub well_at : List Row → Start → ℕ → Bool
well_at tree start n = is_well (first_frame (opening (chain_classes tree n) (started start)).frames).ending

pub well-by : (plan : Planned) (start : Start) (tree : List Row) (n : ℕ) → tree_of plan ≡ tree → is_well (own_frame (subject plan start n)).ending ≡ well_at tree start n
well-by plan start tree n e = ap (λ (t : List Row). well_at t start n) e
