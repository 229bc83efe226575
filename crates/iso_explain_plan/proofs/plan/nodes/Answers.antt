use Rattle.std.proofs.Common.{◌≡◌, ◌-◌, List, ap, ap₂, arith, length, map, take, ◌∙◌}
use Rattle.iso_model.specs.ScriptView.{script_of}
use Rattle.iso_plan.proofs.ColumnLemmas.{length-column}
use Rattle.iso_plan.specs.PathTexts.{path_text}
use Rattle.iso_plan.specs.Tree.{tree}
use Rattle.iso_explain_plan.specs.Largest.{by_size}
use Rattle.iso_explain_plan.specs.Plans.{nodes_notes}
use Rattle.iso_explain_plan.specs.Sizes.{all_sizes}
use Rattle.iso_explain_plan.specs.declared.size.Size.{Size}
use Rattle.iso_explain_plan.proofs.plan.nodes.Goals as goal

pub returns : goal.returns
returns g c =
    let nodes = tree (map script_of c.args.scripts.now) in
    record {
      text = nodes_notes c.saturating_sub-count.result c.deref-4.result.now;
      is = λ none.
          let long = ap length (c.in_ok-nodes.ensures.paths none) ∙ length-column (path_text nodes) (length nodes) in
          let count : c.saturating_sub-count.result ≡ length nodes - 1 = omega (arith, long, c.in_ok-nodes.nodes.paths.ok.0) in
          record {
            sizes = c.in_ok-sizes.sizes.items;
            all = c.in_ok-sizes.ensures
                ∙ ap₂ all_sizes (c.deref.ensures.value ∙ c.in_ok-nodes.ensures.paths none) (c.deref-2.ensures.value ∙ c.in_ok-nodes.ensures.classes none);
            told = ap₂ nodes_notes count
                (c.deref-4.ensures.value ∙ c.in_ok-largest.ensures ∙ ap (λ (all : List Size). take 3 (by_size all)) c.deref-3.ensures.value);
          };
      printed = c.in_ok-nodes_notes.ensures;
    }
