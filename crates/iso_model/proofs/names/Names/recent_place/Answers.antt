use Rattle.std.proofs.Common.{ap, sym, ◌∙◌}
use Rattle.std.proofs.lemmas.Slice.Eq.{bytes_eq-Decides}
use Rattle.iso_model.specs.Names.{lent, place_of}
use Rattle.iso_model.proofs.names.Names.recent_place.Goals as goal

pub returns-in-Some : goal.returns-in-Some
returns-in-Some c =
    let b = lent c.in-Some.binding in
    let same = (bytes_eq-Decides c.args.name.now b.name).0 (sym c.if-eq.ensures) in
    rw (← c.self.view_is) (sym (ap (place_of c.self.inside.bindings) same ∙ c.self.invariant b c.in-Some.ensures))
