use Rattle.iso_affected.proofs.DifferenceLemmas.{difference-of}
use Rattle.iso_affected.proofs.difference.what_differs.Goals as goal

pub returns-clause-difference : goal.returns-clause-difference
returns-clause-difference c = difference-of c.args.starts.now.before c.args.starts.now.after _ _ _ _ _ c.own_head-was.ensures c.own_head-now.ensures c.is_other_kind.ensures
    c.declared_apart.ensures c.blocks_apart.ensures c.marks.ensures c.in_ok-first_apart.ensures.first
