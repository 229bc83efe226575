use Rattle.std.proofs.Common.{subst, sym, ◌∙◌}
use Rattle.std.proofs.lemmas.Result.{err_from_is_err_and}
use Rattle.iso_script.proofs.Places.{kept_are}
use Rattle.iso_script.proofs.Scripts.{one_placed}
use Rattle.iso_script.specs.Grammar.{ReadsPlaced}
use Rattle.iso_script.proofs.reader.read_placed.Goals as goal

pub returns-in_err-script-clause-only : goal.returns-in_err-script-clause-only
returns-in_err-script-clause-only c =
    let p = err_from_is_err_and c.from_residual.result c.from_residual.ensures.1 in
    rw (p.1, p.2) (λ s places reads. c.in_err-script.ensures.read s places reads)

pub returns-clause-found : goal.returns-clause-found
returns-clause-found c =
    let r = c.in_ok-script.ensures.read in
    let list = kept_are _ _ r.0 _ c.kept-places.ensures r.2 in
    subst (ReadsPlaced _ _) (sym list) r.1

pub returns-clause-only : goal.returns-clause-only
returns-clause-only c = λ s places reads.
    let r = c.in_ok-script.ensures.read in
    let list = kept_are _ _ r.0 _ c.kept-places.ensures r.2 in
    let one = one_placed r.1 reads in
    (one.0, list ∙ one.1)
