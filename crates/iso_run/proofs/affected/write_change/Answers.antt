use Rattle.std.proofs.Common.{List, cond, map, ap, subst, ◌∙◌}
use Rattle.iso_affected.specs.declared.counts.Counts.{Counts}
use Rattle.iso_affected_text.specs.Affected.{affected_rows}
use Rattle.iso_affected_text.specs.Changes.{change_of}
use Rattle.iso_affected_text.specs.Rows.{RowView, row_of}
use Rattle.iso_affected_text.specs.Texts.{affected_text, last_of, paths_text}
use Rattle.iso_run.proofs.Flushing.{flushed-after}
use Rattle.iso_run.proofs.affected.write_change.Goals as goal
use Rattle.iso_run.specs.Alterations.{change_text}
use Rattle.iso_tap.specs.Sinks.{Wrote}

pub returns-in-Ok : goal.returns-in-Ok
returns-in-Ok g c =
    let old = g.W.Sink.account c.args.output.now in
    let mid = g.W.Sink.account c.write_rows.new.output in
    let new = g.W.Sink.account c.flushed.new.output in
    let last = c.args.last.now in
    let paths = c.args.paths in
    let rows = affected_rows (change_of c.args.change.now) in
    let same = ap (map row_of) c.deref.ensures.value ∙ c.in_ok-rows.ensures in
    let told = subst (λ (rs : List RowView). Wrote old mid (cond paths (paths_text rs) (affected_text rs (last_of last)))) same c.in-Ok.ensures.wrote in
    let counted = subst (λ (k : Counts). Wrote old mid (cond paths (paths_text rows) (affected_text rows (record { counts = k; folder = last.folder.now; missing = last.missing }))))
    c.requires.counts told in
    let text = change_text paths (change_of c.args.change.now) last.folder.now last.missing in
    flushed-after (λ a. Wrote old a text) old mid new text counted counted c.flushed.result c.flushed.ensures
