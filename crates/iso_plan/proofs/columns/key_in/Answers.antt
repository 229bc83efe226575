use Rattle.std.proofs.Common.{ℕ, List, Bor, length, ap, arith}
use Rattle.std.proofs.lemmas.List.{length-map}
use Rattle.std.proofs.lemmas.Result.{err_from_is_err_and}
use Rattle.iso_plan.proofs.columns.key_in.Goals as goal

abbrev text : Bor (List ℕ) → List ℕ
text k = k.now

pub returns-in_err-number_keys-clause-crowded : goal.returns-in_err-number_keys-clause-crowded
returns-in_err-number_keys-clause-crowded c =
    let p = err_from_is_err_and c.from_residual.result c.from_residual.ensures.1 in
    rw (p.1, p.2) c.in_err-number_keys.ensures.crowded

pub key_by-requires-clause-few : goal.key_by-requires-clause-few
key_by-requires-clause-few c =
    let numbered = c.in_ok-number_keys.ensures in
    omega (arith, numbered.few, ap length numbered.keys, length-map c.number_keys.new.table.keys text)

pub returns-clause-few : goal.returns-clause-few
returns-clause-few c =
    let numbered = c.in_ok-number_keys.ensures in
    omega (arith, numbered.few, ap length numbered.keys, length-map c.number_keys.new.table.keys text, ap length c.in_ok-key_by.ensures.keys_are)
