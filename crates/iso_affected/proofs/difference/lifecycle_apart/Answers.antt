use Rattle.std.proofs.Common.{map}
use Rattle.iso_affected.proofs.FirstLemmas.{rows-of}
use Rattle.iso_model.specs.SyntaxView.{stmt_of}
use Rattle.iso_affected.proofs.difference.lifecycle_apart.Goals as goal

pub returns : goal.returns
returns c =
    rows-of (map stmt_of c.lifecycle.result.now) (map stmt_of c.lifecycle-2.result.now) _ _ c.rows_apart.result c.lifecycle.ensures c.lifecycle-2.ensures c.rows_apart.ensures
