use Rattle.std.proofs.Common.{◌≡◌, [], map, slice_index_or, take}
use Rattle.iso_places.specs.LineStarts.{line_starts}
use Rattle.iso_summary.specs.Views.{located_of}
use Rattle.iso_telling.specs.ToldPlaces.{located_told, told_of}
use Rattle.iso_telling.specs.Written.{lent}
use Rattle.iso_telling.proofs.located.all_located.Given as goal

abbrev pub invariant-lines : goal.invariant-lines
invariant-lines l =
    record {
      places : map located_of l.places.items ≡ map (located_told (lent l.names) (lent l.texts)) (map told_of (take l.told-index l.lines));
      table : l.at_hand.table ≡ line_starts (slice_index_or (lent l.texts) l.at_hand.script []);
    }
