use Rattle.std.proofs.Common.{◌≡◌, ◌<◌, ◌∙◌, ap, arith, length}
use Rattle.iso_desk.specs.Linked.{mark_of}
use Rattle.iso_desk.specs.Places.{TableView, line_in, place_of}
use Rattle.iso_desk.proofs.TableLemmas.{put_linked, young_set}
use Rattle.iso_desk.proofs.table.Table.put.Goals as goal

pub invariant_of-self : goal.invariant_of-self
invariant_of-self c =
    let same : length c.self.inside.places.items ≡ length c.args.self.now.places = ap (λ (v : TableView). length v.places) c.self.view_is in
    let here : c.args.node < length c.self.inside.places.items = omega (arith, c.requires.node) in
    record {
      order = c.self.invariant.order;
      young = young_set c.self.inside.places.items c.args.node c.self.inside.front c.args.place here (λ h. absurd (h (ap mark_of c.requires.place))) c.self.invariant.young;
      linked =
          put_linked c.self.inside.workers c.self.inside.places.items c.self.inside.next.items c.self.inside.ends c.self.inside.clock c.args.node c.args.place
          c.self.invariant.linked here (ap (λ (v : TableView). line_in (place_of v.places c.args.node)) c.self.view_is ∙ c.requires.free) c.requires.place;
    }
