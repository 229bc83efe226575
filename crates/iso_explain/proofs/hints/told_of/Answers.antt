use Rattle.std.proofs.Common.{◌≡◌, true, false, ap, map, refl, ◌∙◌}
use Rattle.iso_hints.specs.Places.{PlaceView}
use Rattle.iso_explain.specs.Mending.{is_unfit}
use Rattle.iso_explain.specs.Met.{met_of}
use Rattle.iso_explain.specs.Rules.{rule_of, told_in}
use Rattle.iso_explain.proofs.hints.told_of.Goals as goal

pub returns-then-is_unfit : goal.returns-then-is_unfit
returns-then-is_unfit c bytes at =
    let yes : is_unfit c.args.fault.kind ≡ true = cc in
    rw yes
    (c.told_in.ensures ∙ ap (told_in (map rule_of c.args.rules.now)) (c.met_of.ensures ∙ ap (λ (p : PlaceView). met_of p c.args.unmet) at))

pub returns-else-is_unfit : goal.returns-else-is_unfit
returns-else-is_unfit c bytes at =
    let no : is_unfit c.args.fault.kind ≡ false = cc in
    rw no refl
