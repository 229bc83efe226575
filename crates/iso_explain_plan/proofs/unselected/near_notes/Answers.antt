use Rattle.std.proofs.Common.{Bor, List, ap, map, ◌∙◌, ℕ}
use Rattle.iso_tap.proofs.PrinterLemmas.{prints_as}
use Rattle.iso_explain_plan.specs.Unselected.{near_paths, path_note, paths_or}
use Rattle.iso_explain_plan.proofs.unselected.near_notes.Goals as goal

pub returns : goal.returns
returns g c =
    prints_as c.in_ok-near_note.ensures (paths_or (near_paths c.args.word.now c.args.paths.now) path_note)
    (ap (λ (near : List (List ℕ)). paths_or near path_note)
    (ap (map (λ (p : Bor (List ℕ)). p.now)) c.deref.ensures.value ∙ c.in_ok-near.ensures))
