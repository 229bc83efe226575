use Rattle.std.proofs.Common.{◌≡◌, ◌∙◌, sym, ap, ap₂, subst, ℕ, List, Result, Err, OnErr}
use Rattle.std.proofs.lemmas.Result.{on_ok_weaker}
use Rattle.iso_model.specs.Environments.{Environment}
use Rattle.iso_model.specs.Names.{assigned, assignment}
use Rattle.iso_model.specs.Statements.{locally, upon, with_names}
use Rattle.iso_model.specs.declared.fault.Fault.{Fault}
use Rattle.iso_model.specs.declared.names.AssignFault.{AssignFault}
use Rattle.iso_model.specs.declared.names.Binding.{Binding}
use Rattle.iso_interp.specs.Runs.{state_of}
use Rattle.iso_interp.proofs.Stack.{in_env}
use Rattle.iso_interp.proofs.run.BlockRun.set.Goals as goal

pub returns-in-Err-clause-done : goal.returns-in-Err-clause-done
returns-in-Err-clause-done c =
    let self = c.args.self.now in
    let names = self.names in
    let x = c.args.name.now in
    let is : c.in_ok-assign.field-0 ≡ Err c.in-Err.fault = c.in-Err.is in
    let same : c.assign.new.self ≡ names = subst (λ (a : Result (Unit {0}) AssignFault). OnErr a (c.assign.new.self ≡ names)) is c.in_ok-assign.ensures.fault in
    let told : assigned names.names c.as_str.result.now c.args.value ≡ assignment (Err c.in-Err.fault) c.as_str.result.now names.names =
    c.in_ok-assign.ensures.answer ∙ ap₂ (λ (a : Result (Unit {0}) AssignFault) (env : Environment). assignment a c.as_str.result.now env.names) is same in
    let answer : assigned names.names x c.args.value ≡ assignment (Err c.in-Err.fault) x names.names =
    subst (λ (t : List ℕ). assigned names.names t c.args.value ≡ assignment (Err c.in-Err.fault) t names.names) c.as_str.ensures told in
    on_ok_weaker c.refuse.result (λ ended m. ended m
    ∙ ap (λ (env : Environment). upon c.args.row (assignment (Err c.in-Err.fault) x env.names) (in_env self.lines self.ending m env)
    (λ bs. locally (with_names bs) (in_env self.lines self.ending m env))) same
    ∙ sym (ap (λ (v : Result (List Binding) Fault). upon c.args.row v (state_of self m) (λ bs. locally (with_names bs) (state_of self m))) answer)) c.refuse.ensures.ended
