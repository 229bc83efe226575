use Rattle.std.proofs.Common.{◌≡◌, length}
use Rattle.iso_model.specs.Verdicts.{verdict}
use Rattle.iso_lifecycle.specs.ResultViews.{verdict_of_view}
use Rattle.iso_lifecycle.proofs.Combined.{before}
use Rattle.iso_lifecycle.proofs.verdict.verdict.Given as goal

abbrev pub invariant-endings : goal.invariant-endings
invariant-endings l = before l.left (verdict_of_view l.verdict) ≡ verdict l.fn.endings

abbrev pub decreases-endings : goal.decreases-endings
decreases-endings l = length l.left
