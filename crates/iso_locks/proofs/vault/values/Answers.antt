use Rattle.std.proofs.Common.{◌≡◌, ℕ, List, [], ◌∷◌, ◌++◌, length, map, Some, None, Bool, true, is_some, ap, sym, ◌∙◌, arith, inl, inr}
use Rattle.std.proofs.lemmas.Bool.{cases_order}
use Rattle.std.proofs.lemmas.List.{get_or_append_left, get_or_past, get_or_push, length-append, length-map, length-replicate, map_push, replicate_more}
use Rattle.iso_model.specs.declared.resource.Resource.{Resource}
use Rattle.iso_plan.specs.RowView.{tree_of}
use Rattle.iso_settings.specs.Worlds.{starting_value_in}
use Rattle.iso_store.specs.Histories.{History}
use Rattle.iso_locks.specs.Slots.{Slots, slot}
use Rattle.iso_locks.specs.Trays.{key_at}
use Rattle.iso_locks.proofs.vault.values.Goals as goal

more : (start : ℕ → Resource) (vs next : Slots) (n : ℕ) (x : History) → length vs ≡ n → next ≡ vs ++ Some x ∷ [] → x.now ≡ start n
    → ((i : ℕ) (h : History) → slot vs i ≡ Some h → h.now ≡ start i) → (i : ℕ) (h : History) → slot next i ≡ Some h → h.now ≡ start i
more start vs next n x len e is old i h at =
    let here : slot (vs ++ Some x ∷ []) i ≡ Some h = ap (λ (ss : Slots). slot ss i) (sym e) ∙ at in
    elim (cases_order i n) [
      | inl same ↦
          let last : Some x ≡ Some h = sym (get_or_push vs (Some x) None i (len ∙ sym same)) ∙ here in
          let one : x ≡ h = cc in
          ap (λ (g : History). g.now) (sym one) ∙ is ∙ ap start (sym same)
      | inr (inl less) ↦ old i h (sym (get_or_append_left vs (Some x ∷ []) None i (omega arith)) ∙ here)
      | inr (inr past) ↦ absurd (
          let count = length-append vs (Some x ∷ []) in
          let nothing : None ≡ Some h = sym (get_or_past (vs ++ Some x ∷ []) i None (omega arith)) ∙ here in
          cc)
    ]

pub keys-preserved : goal.keys-preserved
keys-preserved c =
    let vs : Slots = c.keys.values in
    let n = c.keys.number in
    let len : length vs ≡ n = sym (length-map vs is_some) ∙ ap length c.keys.invariant.all ∙ length-replicate n true in
    let is : c.new-held.result.now ≡ starting_value_in c.args.world.now (key_at (tree_of c.args.plan.now) n) =
    ap (λ (h : History). h.now) c.new-held.ensures ∙ c.in_ok-value.ensures ∙ ap (starting_value_in c.args.world.now) (c.in_ok-key.ensures ∙ c.in_ok-copied.ensures ∙ c.key.ensures) in
    record {
      all = ap (map is_some) c.in_ok-add.ensures.added ∙ map_push is_some vs (Some c.new-held.result) ∙ ap (λ (bs : List Bool). bs ++ true ∷ []) c.keys.invariant.all ∙ replicate_more n true;
      start = more (λ i. starting_value_in c.args.world.now (key_at (tree_of c.args.plan.now) i)) vs c.add.new.self n c.new-held.result len c.in_ok-add.ensures.added is c.keys.invariant.start;
    }
