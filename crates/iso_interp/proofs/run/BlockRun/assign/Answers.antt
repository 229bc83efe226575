use Rattle.std.proofs.Common.{◌≡◌, ◌∙◌, sym, ap, rules, ℤ, to_z, of_z, w64, Result, Ok}
use Rattle.std.proofs.lemmas.Result.{on_ok_weaker}
use Rattle.iso_model.specs.Evaluation.{then}
use Rattle.iso_model.specs.Names.{assigned}
use Rattle.iso_model.specs.Statements.{locally, upon, value, with_names}
use Rattle.iso_model.specs.SyntaxView.{term_of}
use Rattle.iso_model.specs.declared.data.Data.{Data}
use Rattle.iso_model.specs.declared.data.Data.TheVariants.{Whole}
use Rattle.iso_model.specs.declared.fault.Fault.{Fault}
use Rattle.iso_interp.specs.Runs.{run_rights, state_of}
use Rattle.iso_interp.proofs.run.BlockRun.assign.Goals as goal

pub returns-in-Ok-clause-done : goal.returns-in-Ok-clause-done
returns-in-Ok-clause-done g c =
    let self = c.args.self.now in
    let m = g.T.Touch.content c.args.touch.now in
    let s = state_of self m in
    let given : Ok c.in-Ok.value ≡ value (run_rights self) s (term_of c.args.expression.now) = sym c.in-Ok.is ∙ c.in_ok-value.ensures in
    on_ok_weaker c.set_value.result (λ done. done m
    ∙ ap (λ (v : Result Data Fault). upon c.args.row (then v (assigned self.names.names c.args.name.now)) s (λ names. locally (with_names names) s)) given) c.set_value.ensures.done

pub returns-in-Some-clause-done : goal.returns-in-Some-clause-done
returns-in-Some-clause-done g c =
    let self = c.args.self.now in
    let m = g.T.Touch.content c.args.touch.now in
    let s = state_of self m in
    let number : to_z w64 (of_z w64 c.in-Some.number) ≡ c.in-Some.number = search rules in
    let given : Ok (Whole c.in-Some.number) ≡ value (run_rights self) s (term_of c.args.expression.now) = sym (c.in-Some.ensures m (run_rights self)) in
    on_ok_weaker c.set.result (λ done. done m
    ∙ ap (λ (z : ℤ). upon c.args.row (assigned self.names.names c.args.name.now (Whole z)) s (λ names. locally (with_names names) s)) number
    ∙ ap (λ (v : Result Data Fault). upon c.args.row (then v (assigned self.names.names c.args.name.now)) s (λ names. locally (with_names names) s)) given) c.set.ensures.done
