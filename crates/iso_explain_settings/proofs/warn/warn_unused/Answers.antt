use Rattle.std.proofs.Common.{◌+◌, List, ℕ, ap, drop, map, sym, ◌∙◌}
use Rattle.std.specs.Borrow.{Bor}
use Rattle.toml.specs.View.{table_view}
use Rattle.iso_settings.specs.Leaves.{leaves}
use Rattle.iso_tap.proofs.PrinterLemmas.{drop_next}
use Rattle.iso_explain_settings.specs.Unknown.{Kept}
use Rattle.iso_explain_settings.specs.Warned.{with_unused_keys}
use Rattle.iso_explain_settings.proofs.warn.warn_unused.Goals as goal

pub loop-key-preserved : goal.loop-key-preserved
loop-key-preserved c =
    let keys = c.args.keys.now in
    let i = c.loop-key.key-index in
    let all = leaves (table_view c.args.table.now) in
    let next = ap (λ (ks : List (Bor (List ℕ))). with_unused_keys c.loop-key.warnings c.args.name.now all c.args.is_parallel (map (λ k. k.now) ks)) (drop_next keys i _ c.loop-key-test.true) in
    ap (λ (w : Kept). with_unused_keys w c.args.name.now all c.args.is_parallel (map (λ (k : Bor (List ℕ)). k.now) (drop (i + 1) keys))) c.in_ok-warn_key.ensures ∙ sym next ∙ c.loop-key.invariant
