use Rattle.iso_hints.specs.Places.{view_of}
use Rattle.iso_hints.proofs.HintLemmas.{hint-found, hint-none, hint-passed}
use Rattle.iso_hints.proofs.row.hint_in.Goals as goal

pub returns-then-fits : goal.returns-then-fits
returns-then-fits c =
    hint-found c.args.rows.now c.loop-row.row-index _ (view_of c.args.place.now) c.fits.result c.loop-row-test.true c.loop-row.invariant c.fits.ensures c.if-fits.true

pub loop-row-preserved : goal.loop-row-preserved
loop-row-preserved c =
    hint-passed c.args.rows.now c.loop-row.row-index _ (view_of c.args.place.now) c.fits.result c.loop-row-test.true c.loop-row.invariant c.fits.ensures c.if-fits.false

pub returns : goal.returns
returns c = hint-none c.args.rows.now c.loop-row.row-index (view_of c.args.place.now) c.loop-row-test.false c.loop-row.invariant
