use Rattle.std.proofs.Common.{List, ap, take, ◌∙◌}
use Rattle.iso_explain_plan.specs.Largest.{by_size}
use Rattle.iso_explain_plan.specs.Plans.{keys_notes}
use Rattle.iso_explain_plan.specs.declared.size.Size.{Size}
use Rattle.iso_explain_plan.proofs.plan.keys.Goals as goal

pub returns : goal.returns
returns g c =
    record {
      text = keys_notes c.in_ok-count.count c.deref-5.result.now;
      is = record {
        count = c.in_ok-count.count;
        sizes = c.in_ok-keyed.keyed.items;
        told = ap (keys_notes c.in_ok-count.count)
            (c.deref-5.ensures.value ∙ c.in_ok-largest.ensures ∙ ap (λ (all : List Size). take 3 (by_size all)) c.deref-4.ensures.value);
      };
      printed = c.in_ok-keys_notes.ensures;
    }
