use Rattle.std.proofs.Common.{Bor, List, Option, ap, map, option_map, sym, ◌∙◌, ℕ}
use Rattle.std.proofs.lemmas.Result.{on_ok_weaker}
use Rattle.iso_model.specs.ScriptView.{script_of}
use Rattle.iso_tap.proofs.PrinterLemmas.{prints_as}
use Rattle.iso_explain_plan.specs.Unselected.{paths_notes, team_or, unselected_notes}
use Rattle.iso_explain_plan.proofs.unselected.unselected.Goals as goal

pub returns-in-Some : goal.returns-in-Some
returns-in-Some g c =
    let word = c.args.word.now in
    let paths = c.args.paths.now in
    on_ok_weaker c.team_told.result
    (λ printed. prints_as printed (unselected_notes word (map script_of c.args.scripts.now) paths)
    (ap (λ (class : Option (List ℕ)). team_or word class (paths_notes word paths))
    (ap (option_map (λ (text : Bor (List ℕ)). text.now)) (sym c.in-Some.is) ∙ c.first_of_team.ensures)))
    c.team_told.ensures

pub returns-in-None : goal.returns-in-None
returns-in-None g c =
    let word = c.args.word.now in
    let paths = c.args.paths.now in
    on_ok_weaker c.paths_notes.result
    (λ printed. prints_as printed (unselected_notes word (map script_of c.args.scripts.now) paths)
    (ap (λ (class : Option (List ℕ)). team_or word class (paths_notes word paths))
    (ap (option_map (λ (text : Bor (List ℕ)). text.now)) (sym c.in-None.is) ∙ c.first_of_team.ensures)))
    c.paths_notes.ensures
