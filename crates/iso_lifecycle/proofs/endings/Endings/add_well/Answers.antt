use Rattle.std.proofs.Common.{◌≡◌, ◌+◌, ◌++◌, List, arith, ap, ◌∙◌, replicate, true}
use Rattle.std.specs.List.{list_all}
use Rattle.iso_model.specs.Statements.{is_well}
use Rattle.iso_model.specs.declared.outcome.Ending.{Ending}
use Rattle.iso_model.specs.declared.outcome.Ending.TheVariants.{Well}
use Rattle.iso_lifecycle.proofs.EndingLemmas.{counted-more, still-all}
use Rattle.iso_lifecycle.proofs.endings.Endings.add_well.Goals as goal

pub returns-clause-ok : goal.returns-clause-ok
returns-clause-ok c =
    let n = c.self.inside.well in
    let m = c.in-Some.well in
    let others = c.self.inside.others.items in
    let all : list_all is_well (replicate n Well ++ others) ≡ true = ap (list_all is_well) c.self.view_is ∙ c.requires in
    let more : m ≡ n + c.args.count = omega (arith, c.in-Some.ensures.1) in
    counted-more n m c.args.count others c.self.invariant all more ∙ ap (λ (es : List Ending). es ++ replicate c.args.count Well) c.self.view_is

pub returns-clause-well : goal.returns-clause-well
returns-clause-well c =
    let n = c.self.inside.well in
    let others = c.self.inside.others.items in
    let all : list_all is_well (replicate n Well ++ others) ≡ true = ap (list_all is_well) c.self.view_is ∙ c.requires in
    still-all n c.in-Some.well others c.self.invariant all
