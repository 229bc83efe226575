use Rattle.std.proofs.Common.{List, flat_map, map}
use Rattle.std.proofs.lemmas.List.{at_drop_all}
use Rattle.std.proofs.lemmas.Result.{err_from_is_err_and}
use Rattle.iso_html.proofs.QuoteLemmas.{lines-next}
use Rattle.iso_html.specs.Quotes.{line_of, line_text}
use Rattle.iso_html.specs.declared.quote.Line.{Line}
use Rattle.iso_tap.proofs.PrinterLemmas.{left_cut, left_end, left_next}
use Rattle.iso_html.proofs.quote.all.Goals as goal

pub returns-in_err-one : goal.returns-in_err-one
returns-in_err-one g c =
    let p = err_from_is_err_and c.from_residual.result c.from_residual.ensures.1 in
    rw p.1 (left_cut _ _ p.0 (lines-next c.args.ended c.args.lines.now c.loop-line.line-index _ c.loop-line-test.true) c.loop-line.invariant c.in_err-one.ensures)

pub loop-line-preserved : goal.loop-line-preserved
loop-line-preserved g c =
    left_next (lines-next c.args.ended c.args.lines.now c.loop-line.line-index _ c.loop-line-test.true) c.loop-line.invariant c.in_ok-one.ensures

pub returns : goal.returns
returns g c =
    left_end (rw (at_drop_all (λ (ls : List Line). flat_map (line_text c.args.ended) (map line_of ls)) c.args.lines.now c.loop-line.line-index c.loop-line-test.false) at c.loop-line.invariant)
