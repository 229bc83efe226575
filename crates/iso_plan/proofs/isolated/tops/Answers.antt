use Rattle.std.proofs.Common.{rules, true, length, ◌∙◌}
use Rattle.iso_plan.proofs.ColumnLemmas.{replicate-column}
use Rattle.iso_plan.proofs.isolated.tops.Goals as goal

pub returns : goal.returns
returns c =
    c.outermost.ensures (λ m. true) (c.deref.ensures.value ∙ c.in_ok-all.ensures.items_if_clones_equal (λ y h. search rules) ∙ replicate-column true (length c.args.rows.now))
