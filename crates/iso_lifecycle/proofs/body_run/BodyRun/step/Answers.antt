use Rattle.std.proofs.Common.{ap, sym, ◌∙◌, subst}
use Rattle.iso_model.specs.Bodies.{Stage, going}
use Rattle.iso_model.specs.Rights.{Rights, access_in}
use Rattle.iso_model.specs.Touch.{HasKeys}
use Rattle.iso_interp.specs.Runs.{run_rights}
use Rattle.iso_lifecycle.proofs.RunLemmas.{block-goes_on, block-rights, block-stepped}
use Rattle.iso_lifecycle.proofs.body_run.BodyRun.step.Goals as goal

pub invariant_of-self-2 : goal.invariant_of-self-2
invariant_of-self-2 g c =
    let old = c.args.self.now in
    let rights = c.step.ensures.rights ∙ block-rights old.block c.in-Some.run' old.rest c.in-Some.is old.same in
    record { same = λ k. ap (λ (r : Rights). r k) rights }

pub returns-in-More-clause-step : goal.returns-in-More-clause-step
returns-in-More-clause-step g c =
    let old = c.args.self.now in
    let m = g.T.Touch.content c.args.touch.now in
    let n = g.T.Touch.content c.step.new.touch in
    let rights = block-rights old.block c.in-Some.run' old.rest c.in-Some.is old.same in
    block-goes_on c.step.new.self old.rest n (sym c.in_ok-step.ensures.progress ∙ c.in-More.is)
    ∙ block-stepped (access_in old.rest.rights.now) (run_rights c.in-Some.run') old.block c.in-Some.run' c.step.new.self old.rest m n c.in-Some.is rights c.in_ok-step.ensures.step
    c.in_ok-step.ensures.names

pub returns-in_ok-reach_next_block-in-Ended-clause-step : goal.returns-in_ok-reach_next_block-in-Ended-clause-step
returns-in_ok-reach_next_block-in-Ended-clause-step g c =
    let old = c.args.self.now in
    let m = g.T.Touch.content c.args.touch.now in
    let n = g.T.Touch.content c.step.new.touch in
    let rights = block-rights old.block c.in-Some.run' old.rest c.in-Some.is old.same in
    let stepped = block-stepped (access_in old.rest.rights.now) (run_rights c.in-Some.run') old.block c.in-Some.run' c.step.new.self old.rest m n c.in-Some.is rights c.in_ok-step.ensures.step
    c.in_ok-step.ensures.names in
    ap (λ (s : Stage). going s n) c.in_ok-reach_next_block-in-Ended.ensures.stage ∙ stepped

pub returns-in_ok-reach_next_block-in-Ended-clause-keys : goal.returns-in_ok-reach_next_block-in-Ended-clause-keys
returns-in_ok-reach_next_block-in-Ended-clause-keys g c =
    let old = c.args.self.now in
    let n = g.T.Touch.content c.step.new.touch in
    let writes = g.T.Touch.writes c.step.new.touch in
    let rights = c.in_ok-step.ensures.rights ∙ block-rights old.block c.in-Some.run' old.rest c.in-Some.is old.same ∙ sym c.reach_next_block.ensures.rights in
    subst (λ (r : Rights). HasKeys r n writes) rights c.in_ok-step.ensures.keys
