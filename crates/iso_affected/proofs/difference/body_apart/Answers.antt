use Rattle.std.proofs.Common.{map}
use Rattle.iso_affected.proofs.FirstLemmas.{rows-of}
use Rattle.iso_model.specs.SyntaxView.{stmt_of}
use Rattle.iso_affected.proofs.difference.body_apart.Goals as goal

pub returns : goal.returns
returns c =
    rows-of (map stmt_of c.body.result.now) (map stmt_of c.body-2.result.now) _ _ c.rows_apart.result c.body.ensures c.body-2.ensures c.rows_apart.ensures
