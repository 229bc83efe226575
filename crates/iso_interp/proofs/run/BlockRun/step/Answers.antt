use Rattle.std.proofs.Common.{◌≡◌, ◌∙◌, sym, ap, subst, true, ℕ, List, Bool, Bor}
use Rattle.iso_model.specs.Rights.{Rights, access_in}
use Rattle.iso_model.specs.Statements.{is_live}
use Rattle.iso_model.specs.Steps.{Machine, step}
use Rattle.iso_model.specs.Touch.{HasKeys}
use Rattle.iso_model.specs.declared.access.Access.{Access}
use Rattle.iso_model.proofs.Ends.{step-live}
use Rattle.iso_interp.specs.Runs.{machine_of, run_rights}
use Rattle.iso_interp.proofs.Completion.{step-keys}
use Rattle.iso_interp.proofs.run.BlockRun.step.Goals as goal

pub returns-clause-keys : goal.returns-clause-keys
returns-clause-keys g c =
    let r = run_rights c.args.self.now in
    let m = machine_of c.args.self.now (g.T.Touch.content c.args.touch.now) in
    let now = g.T.Touch.content c.advance.new.touch in
    let live : is_live m.state ≡ true = sym c.is_live.ensures ∙ c.if-not-is_live.false in
    let done : machine_of c.advance.new.self now ≡ step r m = c.in_ok-advance.ensures.done ∙ sym (step-live r m live) in
    let keys : HasKeys r now (g.T.Touch.writes c.args.touch.now) = subst (λ (x : Machine). HasKeys r x.state.resources (g.T.Touch.writes c.args.touch.now)) (sym done)
    (step-keys r m (g.T.Touch.writes c.args.touch.now) c.requires) in
    let same : r ≡ run_rights c.advance.new.self = sym (ap (λ (rights : Bor (List (List ℕ × Access))). access_in rights.now) c.in_ok-advance.ensures.block.rights) in
    subst (λ (q : Rights). HasKeys q now (g.T.Touch.writes c.advance.new.touch)) same
    (subst (λ (w : List ℕ → Bool). HasKeys r now w) (sym (g.met.T.Touch.same_writes _ _ c.in_ok-advance.ensures.goes_on)) keys)
