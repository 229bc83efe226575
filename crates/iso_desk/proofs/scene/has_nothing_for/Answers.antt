use Rattle.std.proofs.Common.{Bool, subst, sym}
use Rattle.std.specs.Bool.{Decides}
use Rattle.iso_desk.specs.Crews.{HasNothing}
use Rattle.iso_desk.proofs.CrewLemmas.{idle_by}
use Rattle.iso_desk.proofs.scene.has_nothing_for.Goals as goal

pub returns : goal.returns
returns c =
    let s = c.args.scene.now in
    subst (λ (b : Bool). Decides b (HasNothing s.table.now.places s.held.now s.written.now s.is_over s.is_loose s.rounds c.args.worker c.args.seen)) (sym c.is_idle.ensures)
    (idle_by s.table.now.places s.held.now s.written.now s.is_over s.is_loose s.rounds c.args.worker c.args.seen c.is_empty-own.result c.offers_nothing-alone.result c.offers_nothing-others.result
    c.has_looked-looked.result c.is_empty-own.ensures c.offers_nothing-alone.ensures c.offers_nothing-others.ensures c.has_looked-looked.ensures)
