use Rattle.std.proofs.Common.{◌≡◌, ℕ, ◌<◌, List, length, map, replicate, get_or, None, Bool, true, false, is_some, ap, sym, ◌∙◌, arith}
use Rattle.std.proofs.lemmas.List.{get_or-map, get_or-replicate, length-map, length-replicate}
use Rattle.iso_plan.specs.HeldNodes.{HeldView}
use Rattle.iso_locks.specs.Slots.{Slots, slot}
use Rattle.iso_locks.proofs.vault.Vault.new.Goals as goal

count : (values : Slots) (n : ℕ) → map is_some values ≡ replicate n true → length values ≡ n
count values n e = sym (length-map values is_some) ∙ ap length e ∙ length-replicate n true

none-away : (values : Slots) (n i : ℕ) → map is_some values ≡ replicate n true → i < length values → slot values i ≡ None → ⊥
none-away values n i e h none =
    let all = count values n e in
    let there : true ≡ false = sym (get_or-replicate n i true false (omega arith)) ∙ ap (λ (bs : List Bool). get_or bs i false) (sym e) ∙ get_or-map is_some values i None false h ∙ ap is_some none in
    cc

pub invariant_of-result : goal.invariant_of-result
invariant_of-result c = record {
  lent_of = ap (λ (h : HeldView). h.plan) c.in_ok-new.ensures;
  one_group = c.is_one_group.ensures;
  lists = record {
    lent_fits = ap (λ (h : HeldView). length h.held) c.in_ok-new.ensures ∙ length-replicate (length c.args.plan.now.rows) false;
    values_fit = count c.in_ok-values.field-0 _ c.in_ok-values.ensures.fits;
    at_start = c.in_ok-values.ensures.start;
    away = λ i h e. absurd (none-away c.in_ok-values.field-0 _ i c.in_ok-values.ensures.fits h e);
  };
}
