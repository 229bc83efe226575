use Rattle.std.proofs.lemmas.Result.{err_from_is_err_and}
use Rattle.iso_script.proofs.Classes.{is_bodied, test_body}
use Rattle.iso_script.proofs.WantsLemmas.{unmet_after_display}
use Rattle.iso_script.proofs.test.read_test.Goals as goal

pub block-requires : goal.block-requires
block-requires c = rw c.wanted_after-wanted.ensures (unmet_after_display c.in_ok-display.ensures)

pub returns-in_err-body : goal.returns-in_err-body
returns-in_err-body c =
    let p = err_from_is_err_and c.from_residual-in_err-body.result c.from_residual-in_err-body.ensures.1 in
    rw (p.1, p.2) (λ rest t places h. let b = test_body c.in_ok-display.ensures h in c.in_err-body.ensures b.0 rest b.1)

pub returns : goal.returns
returns c = rw (c.in_ok-copied.ensures, c.in_ok-head.ensures.ok, c.in_ok-new-2.ensures.ok, c.in_ok-new.ensures) (_, is_bodied _ _ c.in_ok-display.ensures c.peek-line.ensures.next c.in_ok-body.ensures, c.in_ok-add.ensures)
