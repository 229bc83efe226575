use Rattle.std.proofs.Common.{◌≡◌, ℕ, List, get_or, length, map, ap, sym, ◌∙◌, arith}
use Rattle.iso_plan.proofs.ColumnLemmas.{column-read, length-column}
use Rattle.iso_plan.specs.KeyGroups.{lead_in, on_own}
use Rattle.iso_plan.proofs.key_groups.group_keys.Goals as goal

pub returns-then-are_own : goal.returns-then-are_own
returns-then-are_own c =
    let v = c.in_ok-leads.leads in
    let lists = c.args.locks.now in
    let keys = c.args.keys in
    let is = c.in_ok-leads.ensures in
    let same : c.deref.result.now ≡ v.items = c.deref.ensures.value in
    let size : length c.deref.result.now ≡ keys = ap length same ∙ ap length is ∙ length-column (lead_in lists) keys in
    let own = c.are_own.ensures c.if-are_own.true in
    record {
      leads = is;
      on_leads = λ k h.
          sym (column-read (lead_in lists) v.items keys k 0 is h) ∙ ap (λ (ns : List ℕ). get_or ns k 0) (sym same) ∙ own k (omega arith);
    }

pub returns : goal.returns
returns c =
    let all = c.args.locks.now in
    record {
      leads = c.in_ok-leads.ensures;
      on_leads = c.in_ok-lists.ensures ∙ ap (λ (ns : List ℕ). map (on_own ns) all) c.deref-2.ensures.value;
    }
