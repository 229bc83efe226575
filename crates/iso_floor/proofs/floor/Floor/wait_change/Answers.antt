use Rattle.std.proofs.Common.{◌≡◌, Bool, not, true, false, refl, length, of_calls, subst, sym, ◌∙◌}
use Rattle.iso_floor.specs.Answering.{HasRun, has_changed}
use Rattle.iso_floor.specs.Desks.{DeskView}
use Rattle.iso_floor.specs.Grounds.{IsBookOf}
use Rattle.iso_floor.proofs.floor.Floor.wait_change.Goals as goal

is-true : (b : Bool) → false ≡ not b → b ≡ true
is-true true e = refl
is-true false e = e

pub returns : goal.returns
returns g c =
    let changed : has_changed c.args.seen c.wait_while-desk.result.value.book ≡ true = search (of_calls, is-true) in
    let waited = c.end_wait.ensures ∙ c.deref_mut-2.ensures.value in
    record {
      book = c.end_wait.new.self.book;
      ground = subst (λ (d : DeskView). IsBookOf g.G.Ground.plan g.G.Ground.start g.G.Ground.workers d.book) c.deref.ensures c.keep_run.ensures.ground;
      run = subst (λ (d : DeskView). HasRun d.book) c.deref.ensures c.keep_run.ensures.run;
      answer = record {
        changed = subst (λ (d : DeskView). has_changed c.args.seen d.book ≡ true) (sym waited) changed;
        counted = subst (λ (d : DeskView). length d.book.history ≡ c.length.result) c.deref-2.ensures (sym c.length.ensures);
      };
    }
