use Rattle.std.proofs.Common.{Bor, List, ap, map, ◌∙◌, ℕ}
use Rattle.std.proofs.lemmas.Result.{on_ok_weaker}
use Rattle.iso_tap.proofs.PrinterLemmas.{prints_as}
use Rattle.iso_explain_plan.specs.Unselected.{other_notes, paths_notes, paths_or}
use Rattle.iso_explain_plan.proofs.unselected.paths_notes.Goals as goal

pub returns : goal.returns
returns g c =
    let word = c.args.word.now in
    let paths = c.args.paths.now in
    on_ok_weaker c.named_notes.result
    (λ printed. prints_as printed (paths_notes word paths)
    (ap (λ (named : List (List ℕ)). paths_or named (other_notes word paths))
    (ap (map (λ (p : Bor (List ℕ)). p.now)) c.deref.ensures.value ∙ c.in_ok-named.ensures)))
    c.named_notes.ensures
