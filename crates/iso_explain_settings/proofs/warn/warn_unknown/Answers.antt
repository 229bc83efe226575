use Rattle.std.proofs.Common.{◌∷◌, ◌+◌, List, ℕ, String, ap, drop, map, string_bytes, sym, ◌∙◌}
use Rattle.std.specs.declared.alloc.Global.{Global}
use Rattle.iso_tap.proofs.PrinterLemmas.{drop_next}
use Rattle.iso_explain_settings.specs.Unknown.{Kept, with_one}
use Rattle.iso_explain_settings.specs.Warned.{unknown_warning, with_unknown}
use Rattle.iso_explain_settings.proofs.warn.warn_unknown.Goals as goal

pub loop-key-preserved : goal.loop-key-preserved
loop-key-preserved c =
    let keys = c.args.keys.now in
    let i = c.loop-key.key-index in
    let name = c.args.name.now in
    let before = c.loop-key.warnings in
    let first = drop_next keys i c.key-item.result c.loop-key-test.true ∙ ap (λ (k : String Global). k ∷ drop (i + 1) keys) (sym c.key-item.is) in
    let next = ap (λ (ks : List (String Global)). with_unknown before name (map string_bytes ks)) first in
    let one = c.in_ok-warn_one.ensures ∙ ap (λ (k : List ℕ). with_one before (unknown_warning name k)) c.as_str.ensures.value in
    ap (λ (w : Kept). with_unknown w name (map string_bytes (drop (i + 1) keys))) one ∙ sym next ∙ c.loop-key.invariant
