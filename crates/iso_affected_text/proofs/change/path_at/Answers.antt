use Rattle.std.proofs.Common.{◌≡◌, length, ap, ◌∙◌, arith}
use Rattle.iso_plan.proofs.ColumnLemmas.{column-read, length-column}
use Rattle.iso_plan.specs.PathTexts.{path_text}
use Rattle.iso_plan.specs.RowView.{tree_of}
use Rattle.iso_affected_text.proofs.change.path_at.Goals as goal

pub bounds-side-node : goal.bounds-side-node
bounds-side-node c =
    let tree = tree_of c.args.side.now.plan.now in
    let count : length c.args.side.now.paths.now ≡ length tree = ap length c.requires.side.paths ∙ length-column (path_text tree) (length tree) in
    let within = c.requires.within in
    omega arith

pub returns : goal.returns
returns c =
    let tree = tree_of c.args.side.now.plan.now in
    c.as_str.ensures ∙ column-read (path_text tree) c.args.side.now.paths.now (length tree) c.args.node _ c.requires.side.paths c.requires.within
