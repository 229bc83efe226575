use Rattle.std.proofs.Common.{List, map, sym, subst, ap, ◌∙◌}
use Rattle.iso_model.specs.ScriptView.{script_of}
use Rattle.iso_plan.proofs.SelectFirst.{written-classes, written-paths, written-rooted}
use Rattle.iso_plan.specs.Paths.{IsRooted}
use Rattle.iso_plan.specs.RowView.{row_of}
use Rattle.iso_plan.specs.TopClasses.{all_paths, all_top_classes}
use Rattle.iso_plan.specs.Tree as T
use Rattle.iso_plan.proofs.overview.look_over.Goals as goal

pub overview_of-requires-clause-tree : goal.overview_of-requires-clause-tree
overview_of-requires-clause-tree c =
    subst (λ (rs : List T.Row). IsRooted rs) (sym (ap (map row_of) c.deref.ensures.value ∙ c.in-Ok.ensures.tree)) (written-rooted (map script_of c.args.scripts.now))

pub returns-clause-paths : goal.returns-clause-paths
returns-clause-paths c =
    c.in_ok-overview_of.ensures.paths ∙ ap (λ (rs : List T.Row). all_paths rs) (ap (map row_of) c.deref.ensures.value ∙ c.in-Ok.ensures.tree)
    ∙ written-paths (map script_of c.args.scripts.now)

pub returns-clause-classes : goal.returns-clause-classes
returns-clause-classes c =
    c.in_ok-overview_of.ensures.classes ∙ ap (λ (rs : List T.Row). all_top_classes rs) (ap (map row_of) c.deref.ensures.value ∙ c.in-Ok.ensures.tree)
    ∙ written-classes (map script_of c.args.scripts.now)
