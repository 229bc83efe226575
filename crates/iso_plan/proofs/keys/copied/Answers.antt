use Rattle.std.proofs.Common.{◌∷◌, [], ◌++◌, ℕ, List, Bor, map, get_or, refl, ap, ◌∙◌, arith}
use Rattle.std.proofs.lemmas.List.{take_all}
use Rattle.iso_plan.proofs.Growth.{mapped-next}
use Rattle.iso_plan.proofs.keys.copied.Goals as goal

abbrev text : Bor (List ℕ) → List ℕ
text k = k.now

pub keys-init : goal.keys-init
keys-init c = c.in_ok-texts.ensures.items

pub keys-preserved : goal.keys-preserved
keys-preserved c =
    let i = c.keys.key-index in
    let ks = c.args.keys.now in
    let old : List (List ℕ) = c.keys.texts.items in
    let none : Bor (List ℕ) = record { ref_ptr = (0, 0); now = [] } in
    c.in_ok-push.ensures.items ∙ ap (λ (t : List ℕ). old ++ t ∷ []) c.in_ok-copied.ensures
    ∙ mapped-next text ks old i none (get_or ks i none) (omega arith) refl c.keys.invariant

pub returns : goal.returns
returns c = c.keys.invariant ∙ ap (map text) (take_all c.keys.key-index c.args.keys.now (omega arith))
