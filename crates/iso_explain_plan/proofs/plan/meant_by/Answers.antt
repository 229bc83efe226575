use Rattle.std.proofs.Common.{ap, drop, map, ◌∙◌}
use Rattle.std.proofs.lemmas.Result.{on_ok_weaker}
use Rattle.iso_model.specs.ScriptView.{script_of}
use Rattle.iso_explain_plan.specs.Unselected.{unselected_notes}
use Rattle.iso_explain_plan.proofs.plan.meant_by.Goals as goal

pub returns : goal.returns
returns g c =
    let scripts = map script_of c.args.scripts.now in
    on_ok_weaker c.unselected.result
    (λ printed. record {
      text = unselected_notes c.args.word.now scripts c.without_root.result.now;
      is = λ none. ap (unselected_notes c.args.word.now scripts)
          (c.without_root.ensures ∙ ap (drop 1) (c.deref.ensures.value ∙ c.in_ok-nodes.ensures.paths none));
      printed = printed;
    })
    c.unselected.ensures
