-- Lists of events, as the state machine's.
use Rattle.std.proofs.Common.{◌≡◌, List, [], ◌∷◌, ◌++◌, refl, ap}
use Rattle.iso_isolation.specs.Events as E
use Rattle.iso_standing.specs.CodeEvents.{event_of, events_of}
use Rattle.iso_standing.specs.declared.event.Event.{Event}

pub map-append : (es fs : List Event) → events_of (es ++ fs) ≡ events_of es ++ events_of fs
map-append [] fs = refl
map-append (e ∷ es) fs = ap (λ (gs : List E.Event). event_of e ∷ gs) (map-append es fs)
