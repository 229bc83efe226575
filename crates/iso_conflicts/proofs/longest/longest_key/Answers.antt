use Rattle.std.proofs.Common.{◌<◌, ℕ, length, subst, sym, ap, ◌∙◌, arith}
use Rattle.iso_conflicts.proofs.LongestLemmas.{longer-known, longest-step}
use Rattle.iso_conflicts.specs.Chains.{IsOf, key_chain, longer}
use Rattle.iso_conflicts.specs.declared.longest.Chain.{Chain}
use Rattle.iso_conflicts.specs.declared.longest.Shared.TheVariants.{Key}
use Rattle.iso_plan.specs.KeyTable.{keys}
use Rattle.iso_plan.specs.RowView.{tree_of}
use Rattle.iso_conflicts.proofs.longest.longest_key.Goals as goal

pub keys-preserved : goal.keys-preserved
keys-preserved c =
    let tree = tree_of c.args.plan.now in
    let k = c.keys.key in
    let here : k < length (keys tree) = omega arith in
    let g : ℕ → Chain = λ j. record { tests = key_chain tree j; shared = Key j } in
    let new = c.or_longer-best.ensures ∙ ap (λ (x : ℕ). longer c.keys.best (record { tests = x; shared = Key k })) c.key_chain.ensures in
    record {
      so_far = longest-step g (length (keys tree)) k here c.keys.best c.or_longer-best.result _ new c.keys.invariant.so_far;
      known = subst (λ (b : Chain). IsOf tree b.shared) (sym new) (longer-known tree c.keys.best (g k) c.keys.invariant.known here);
    }
