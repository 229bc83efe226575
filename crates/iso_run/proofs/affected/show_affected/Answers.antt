use Rattle.std.proofs.Common.{refl, ◌∙◌}
use Rattle.std.proofs.lemmas.Result.{err_from_is_err_and}
use Rattle.iso_run.proofs.affected.show_affected.Goals as goal

pub returns-in_err-names : goal.returns-in_err-names
returns-in_err-names g c =
    let p = err_from_is_err_and c.from_residual.result c.from_residual.ensures.1 in
    rw (p.1, p.2) refl

pub returns-in_err-older : goal.returns-in_err-older
returns-in_err-older g c =
    let p = err_from_is_err_and c.from_residual-in_err-older.result c.from_residual-in_err-older.ensures.1 in
    rw (p.1, p.2) refl

pub show_between-requires-clause-below : goal.show_between-requires-clause-below
show_between-requires-clause-below g c =
    let lent = c.in_ok-older.ensures in
    let named = c.in_ok-names.ensures in
    record {
      scripts = lent.scripts ∙ named.scripts;
      world = lent.world ∙ named.world;
      only = lent.all.0;
      patterns = lent.all.1;
      only_from = lent.all.2;
      shard = lent.whole.0;
    }
