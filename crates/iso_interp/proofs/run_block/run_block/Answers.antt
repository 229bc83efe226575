use Rattle.std.proofs.Common.{◌≡◌, ◌∙◌, rules, ap, sym, true, false, take, ℕ, subst}
use Rattle.iso_model.specs.Resources.{Resources}
use Rattle.iso_model.specs.Rights.{Rights, access_in}
use Rattle.iso_model.specs.Statements.{Local, with_names}
use Rattle.iso_model.specs.Steps.{machine_at, step, is_done}
use Rattle.iso_model.specs.SyntaxView.{block_of}
use Rattle.iso_model.specs.Touch.{HasKeys}
use Rattle.iso_interp.specs.Runs.{local_of, machine_of, pieces_of, point_of_run}
use Rattle.iso_interp.proofs.Completion.{goes-start, goes-step, goes-less, goes-end}
use Rattle.iso_interp.proofs.Stack.{none-left}
use Rattle.iso_interp.proofs.run_block.run_block.Goals as goal

pub step-requires : goal.step-requires
step-requires g c =
    let i = c.loop-run.invariant in
    subst (λ (r : Rights). HasKeys r (g.T.Touch.content c.loop-run.touch) (g.T.Touch.writes c.loop-run.touch)) (sym i.rights) i.keys

pub loop-run-init : goal.loop-run-init
loop-run-init g c = record {
  goes = goes-start (access_in c.args.rights.now) (block_of c.args.statements.now) c.args.names (point_of_run c.new-run.result) (g.T.Touch.content c.args.touch.now) c.new-run.ensures.point;
  rights = c.new-run.ensures.rights;
  names = c.new-run.ensures.names;
  keys = c.requires;
  goes_on = g.met.T.Touch.still _;
}

pub loop-run-preserved : goal.loop-run-preserved
loop-run-preserved g c =
    let i = c.loop-run.invariant in
    let content = g.T.Touch.content in
    let done : machine_at (point_of_run c.step.new.self) (content c.step.new.touch) ≡ step (access_in c.args.rights.now) (machine_at (point_of_run c.loop-run.run) (content c.loop-run.touch)) =
    c.in_ok-step.ensures.step ∙ ap (λ (r : Rights). step r (machine_of c.loop-run.run (content c.loop-run.touch))) i.rights in
    record {
      goes = goes-step _ _ (point_of_run c.loop-run.run) (content c.loop-run.touch) i.goes (point_of_run c.step.new.self) (content c.step.new.touch) done;
      rights = c.in_ok-step.ensures.rights ∙ i.rights;
      names = c.in_ok-step.ensures.names ∙ i.names;
      keys = subst (λ (r : Rights). HasKeys r (content c.step.new.touch) (g.T.Touch.writes c.step.new.touch)) (c.in_ok-step.ensures.rights ∙ i.rights) c.in_ok-step.ensures.keys;
      goes_on = g.met.T.Touch.further _ _ _ i.goes_on c.in_ok-step.ensures.goes_on;
    }

pub loop-run-smaller : goal.loop-run-smaller
loop-run-smaller g c =
    let i = c.loop-run.invariant in
    let content = g.T.Touch.content in
    let on : is_done (pieces_of c.loop-run.run) ≡ false = search rules in
    let done : machine_at (point_of_run c.step.new.self) (content c.step.new.touch) ≡ step (access_in c.args.rights.now) (machine_at (point_of_run c.loop-run.run) (content c.loop-run.touch)) =
    c.in_ok-step.ensures.step ∙ ap (λ (r : Rights). step r (machine_of c.loop-run.run (content c.loop-run.touch))) i.rights in
    goes-less _ _ (point_of_run c.loop-run.run) (content c.loop-run.touch) i.goes on (point_of_run c.step.new.self) (content c.step.new.touch) done

pub returns-clause-whole : goal.returns-clause-whole
returns-clause-whole g c =
    let i = c.loop-run.invariant in
    let run = c.loop-run.run in
    let m : Resources = g.T.Touch.content c.loop-run.touch in
    let off : is_done (pieces_of run) ≡ true = search rules in
    let names = (local_of run).env.names in
    ap (λ (l : Local). record { here = l; resources = m }) (c.finish.ensures ∙ ap (λ (n : ℕ). with_names (take n names) (local_of run)) i.names)
    ∙ goes-end (access_in c.args.rights.now) (block_of c.args.statements.now) c.args.names (g.T.Touch.content c.args.touch.now) (point_of_run run) m i.goes (none-left (pieces_of run) off)
