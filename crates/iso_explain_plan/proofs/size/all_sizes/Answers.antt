use Rattle.std.proofs.Common.{List, ℕ, ap, sym, ◌++◌, ◌∙◌}
use Rattle.iso_explain_plan.specs.Sizes.{if_own, is_own, sized}
use Rattle.iso_explain_plan.proofs.SizeLemmas.{those-more}
use Rattle.iso_explain_plan.proofs.size.all_sizes.Goals as goal

pub nodes-preserved : goal.nodes-preserved
nodes-preserved c =
    let paths = c.args.paths.now in
    let classes = c.args.classes.now in
    c.in_ok-add_if_own.ensures ∙ ap (λ (all : List (List ℕ × ℕ)). all ++ if_own paths classes c.nodes.n) c.nodes.invariant
    ∙ sym (those-more (is_own classes) (sized paths classes) c.nodes.n)
