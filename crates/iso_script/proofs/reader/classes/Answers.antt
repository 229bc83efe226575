use Rattle.std.proofs.Common.{[], ◌++◌, refl, arith}
use Rattle.std.proofs.lemmas.Bool.{false≢true}
use Rattle.std.proofs.lemmas.List.{map_push}
use Rattle.std.proofs.lemmas.Result.{err_from_is_err_and}
use Rattle.iso_script.proofs.Places.{kept_more, none_kept}
use Rattle.iso_script.proofs.Readings.{placed_push}
use Rattle.iso_script.specs.Grammar.{IsTopClass}
use Rattle.iso_script.proofs.Scripts.{next_class}
use Rattle.iso_script.proofs.Shorter.{member_shorter}
use Rattle.iso_script.proofs.reader.classes.Goals as goal

pub classes-init : goal.classes-init
classes-init c = rw c.new-classes.ensures.items ([], (refl, refl), none_kept _)

pub returns-in_err-read_top_class : goal.returns-in_err-read_top_class
returns-in_err-read_top_class c =
    let p = err_from_is_err_and c.from_residual.result c.from_residual.ensures.1 in
    let i = c.classes.invariant in
    rw (p.1, p.2) (λ cs others h. let n = next_class _ _ _ _ i.1 (λ e. false≢true (c.classes-test.ensures.1 e)) cs others h in c.in_err-read_top_class.ensures n.2 n.0 n.1 n.3)

pub classes-smaller : goal.classes-smaller
classes-smaller c = omega (arith, member_shorter c.in_ok-read_top_class.ensures.1)

pub classes-preserved : goal.classes-preserved
classes-preserved c =
    let i = c.classes.invariant in
    let one = c.in_ok-read_top_class.ensures in
    rw (c.in_ok-push.ensures.items, map_push) (i.0 ++ one.0, placed_push IsTopClass _ _ _ _ _ _ _ i.1 one.1, kept_more _ _ _ i.2 one.2)
