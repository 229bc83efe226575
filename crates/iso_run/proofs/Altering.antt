-- What is told of two states is told of the suites that they are.
use Rattle.std.proofs.Common.{◌≡◌, ℕ, List, Option, None, map, ap, subst, sym, ◌∙◌}
use Rattle.std.specs.Borrow.{Bor}
use Rattle.iso_affected.specs.Fates.{suites}
use Rattle.iso_affected_text.specs.Changes.{SideView}
use Rattle.iso_arguments.specs.declared.request.InputFiles.{InputFiles}
use Rattle.iso_places.specs.declared.site.Site.{Site}
use Rattle.iso_plan.specs.Planned.{Planned}
use Rattle.iso_plan.specs.RowView.{tree_of}
use Rattle.iso_plan.specs.KeptNodes.{texts_of}
use Rattle.iso_run.specs.Alterations.{AreBelow, IsAlteration, IsSideOf}
use Rattle.iso_run.specs.Commands.{AreFor, IsComparedIn, IsStateOf, IsToldFor}
use Rattle.iso_run.specs.Runs.{AreSitesOf}
use Rattle.iso_run.specs.Suites.{planned, suite_of}
use Rattle.iso_run.specs.declared.affected.Asked.{Asked}
use Rattle.iso_run.specs.declared.inputs.Inputs.{Inputs}
use Rattle.iso_run.specs.declared.state.State.{State}
use Rattle.iso_tap.specs.Sinks.{Account}

side-of : (inputs : Inputs) (state : State) (side : SideView) → IsStateOf inputs state → side.tree ≡ tree_of state.suite.plan
    → side.texts ≡ map (λ v. v.items) state.bytes.scripts.items → side.sites ≡ state.sites
    → IsSideOf inputs (suite_of inputs state.suite) side
side-of inputs state side is tree texts_are sites = record {
  is_suite = is.suite.is_suite;
  tree = tree ∙ ap tree_of is.suite.planned_as;
  texts = texts_are ∙ is.texts;
  sites = subst (λ (all : List Site). AreSitesOf inputs (suite_of inputs state.suite) all) (sym sites) is.sites;
}

pub told-for : (asked : Asked) (files older : InputFiles) (input : Option (List ℕ)) (before after : Inputs) (was now : State) (scripts : List (Bor (List ℕ))) (missing : ℕ) (old new : Account)
    → AreBelow asked.folder.now files older → AreFor older None before → AreFor files input after → IsStateOf before was → IsStateOf after now → scripts ≡ files.scripts.items
    → IsComparedIn asked was now scripts missing old new → IsToldFor asked files input old new
told-for asked files older input before after was now scripts missing old new below before_are after_are is_was is_now same h =
    let w = was.suite.world in
    let v = now.suite.world in
    let was_so = subst (λ (p : Planned). IsAlteration (suites p w now.suite.plan v) h.change.fates h.change.told h.change.gone) is_was.suite.planned_as h.altered in
    let both_so = subst (λ (p : Planned). IsAlteration (suites (planned (suite_of before was.suite)) w p v) h.change.fates h.change.told h.change.gone) is_now.suite.planned_as was_so in
    record {
      older = older;
      below = below;
      before = before;
      before_are = before_are;
      after = after;
      after_are = after_are;
      was = suite_of before was.suite;
      now = suite_of after now.suite;
      change = h.change;
      old_side = side-of before was h.change.old is_was h.old_tree h.old_texts h.old_sites;
      new_side = side-of after now h.change.new is_now h.new_tree h.new_texts h.new_sites;
      names = h.names ∙ ap texts_of same;
      is = record { altered = both_so; property = h.property };
      missing = missing;
      wrote = h.wrote;
    }
