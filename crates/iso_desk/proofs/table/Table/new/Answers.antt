use Rattle.std.proofs.Common.{◌≡◌, ◌+◌, ◌*◌, None, arith, replicate, rules}
use Rattle.iso_desk.specs.declared.place.Place.TheVariants.{Closed}
use Rattle.iso_desk.proofs.TableLemmas.{new_linked, new_unmarked}
use Rattle.iso_desk.proofs.table.Table.new.Goals as goal

pub invariant_of-result : goal.invariant_of-result
invariant_of-result c =
    let places : c.in_ok-places.places.items ≡ replicate c.args.nodes Closed = search rules in
    let next : c.in_ok-next.next.items ≡ replicate c.args.nodes 0 = search rules in
    let ends : c.in_ok-ends.ends ≡ replicate (576 * (c.args.workers + 1)) None = search rules in
    record {
      order = omega arith;
      young = λ n h. absurd (h (new_unmarked c.args.nodes n c.in_ok-places.places.items places));
      linked = new_linked c.args.workers c.args.nodes c.in_ok-places.places.items c.in_ok-next.next.items c.in_ok-ends.ends places next ends;
    }
