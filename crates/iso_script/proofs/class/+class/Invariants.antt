use Rattle.std.proofs.Common.{◌≡◌, ℕ, ◌+◌, ◌*◌, List, length, map}
use Rattle.std.specs.List.{IsDistinct}
use Rattle.std.specs.Str.{bytes_eq}
use Rattle.iso_script.specs.Places.{kept, with_places}
use Rattle.iso_script.specs.Readings.{ArePlaced}
use Rattle.iso_script.specs.declared.place.NodePlace.{NodePlace}
use Rattle.iso_script.specs.Variables.{KnowAll}
use Rattle.iso_model.specs.ScriptView.{member_of}
use Rattle.iso_script_statements.specs.SeenNames.{HasSeen}
use Rattle.iso_script.specs.Grammar.{IsMember, name_of}
use Rattle.iso_script.proofs.class.+class.Given as goal

abbrev pub decreases-read_member : goal.decreases-read_member
decreases-read_member l = 3 * l.classes

abbrev pub decreases-read_members : goal.decreases-read_members
decreases-read_members l = 3 * l.classes + 1

abbrev pub decreases-read_class : goal.decreases-read_class
decreases-read_class l = 3 * l.classes + 2

abbrev pub invariant-read_members-members : goal.invariant-read_members-members
invariant-read_members-members l =
    record {
      read : (taken : List (List ℕ)) → KnowAll l.fn.scopes.items taken
          → (places : List NodePlace) × ArePlaced (IsMember l.classes taken) (map member_of l.members.items) places l.fn.parser.lexer l.parser.lexer
          × (kept l.places ≡ with_places (kept l.fn.places) places);
      names : HasSeen l.seen (map name_of (map member_of l.members.items));
      distinct : IsDistinct bytes_eq (map name_of (map member_of l.members.items));
      kept : l.scopes.items ≡ l.fn.scopes.items;
    }

abbrev pub decreases-read_members-members : goal.decreases-read_members-members
decreases-read_members-members l = length l.parser.lexer
