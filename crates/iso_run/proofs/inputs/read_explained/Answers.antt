use Rattle.std.proofs.Common.{map, ap, subst, sym, refl, ◌∙◌}
use Rattle.std.specs.Result.{is_ok}
use Rattle.iso_model.specs.ScriptView.{script_of}
use Rattle.iso_plan.specs.Faults.{IsFaultOf}
use Rattle.iso_run.specs.Suites.{kept_fault, kept_nodes}
use Rattle.iso_run.proofs.Plans.{planned-by}
use Rattle.iso_run.proofs.inputs.read_explained.Goals as goal

pub returns-in-Ok-plan_kept : goal.returns-in-Ok-plan_kept
returns-in-Ok-plan_kept c =
    let is = c.in-Ok-plan_kept.ensures in
    let read = ap (map script_of) c.deref.ensures.value in
    record {
      is_suite = record {
        settings = c.in-Ok.ensures.exact;
        world = c.in-Ok-world_from.ensures;
        scripts = map script_of c.in_ok-read.read.scripts.items;
        read = c.in_ok-read.ensures.scripts;
        kept = refl;
        planned = ap (kept_fault c.args.inputs) (sym read) ∙ is.accepted;
      };
      planned_as = planned-by _ _ _ (is.nodes ∙ ap (kept_nodes c.args.inputs) read) is.settings;
      manned = c.in-Ok.ensures.within;
      placed = c.in_ok-read.ensures.places;
    }

pub returns : goal.returns
returns c = (
  (ap is_ok c.in-Ok.ensures.exact, ap is_ok c.in-Ok-world_from.ensures),
  (
    map script_of c.in_ok-read.read.scripts.items,
    c.in_ok-read.ensures.scripts,
    rw c.in-Err-Fault-plan_kept.field-0-is
        (ap (kept_fault c.args.inputs) (sym (ap (map script_of) c.deref.ensures.value))
        ∙ subst (IsFaultOf (kept_fault c.args.inputs (map script_of c.deref.result.now))) c.in-Err-Fault-plan_kept.field-0-is c.in-Err-Fault-plan_kept.ensures.refused),
  ),
)
