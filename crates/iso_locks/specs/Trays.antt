-- What contracts see of a tray, and the resources that it holds: the values that nodes lent to it
-- may change, and the starting values that they may look at.
--
-- content of a tray: The value at a key: what was moved in, or else the starting value where a node
-- that is lent holds the key for READ, itself or by its locking node (`resources`, `is_open`).
-- Also in: `Slots`.
--
-- mark of a tray: The values that a node's rights let it change (`kept`), and values gone back to
-- them, all others as they are (`restored`).
--
-- a tray goes on: A tray after changes of its values alone: of the same plan and world, with the
-- same nodes lent to it, the same values there, each only changed further, and the same frames
-- (`IsOnward`, `GoesOn`).
-- Also in: `Onward`.
use Rattle.std.specs.Prelude.{◌≡◌, ℕ, zero, suc, List, [], length, map, replicate, reverse, Option, Some, None, Bool, true, false, ◌||◌, ◌&&◌, cond, is_some, slice_index_or, refl, option_map, slice_set}
use Rattle.std.specs.Option.{option_or}
use Rattle.std.specs.Coded.{Coded, code_by, coded×, coded_list, coded_option, coded_bool, coded_ℕ}
use Rattle.iso_model.specs.Resources.{Resources}
use Rattle.iso_model.specs.Rights.{access_in, is_writable}
use Rattle.iso_model.specs.contracts.resource.Resource as resource
use Rattle.iso_model.specs.declared.access.Access.{Access}
use Rattle.iso_model.specs.declared.access.Access.TheVariants.{Read, Write}
use Rattle.iso_model.specs.declared.resource.Resource.{Resource}
use Rattle.iso_plan.specs.KeyNumbers.{number_below}
use Rattle.iso_plan.specs.KeyTable.{keys}
use Rattle.iso_plan.specs.Locks.{locking_node, taken}
use Rattle.iso_plan.specs.NodeChains.{node_rights}
use Rattle.iso_plan.specs.Paths.{column, path}
use Rattle.iso_plan.specs.Planned.{Planned}
use Rattle.iso_plan.specs.RowView.{tree_of}
use Rattle.iso_plan.specs.Tree.{Row}
use Rattle.iso_plan.specs.contracts.plan.Plan as plan
use Rattle.iso_settings.specs.Worlds.{Start, start_code, starting_value_in}
use Rattle.iso_model.specs.declared.resource.Change.{Change}
use Rattle.iso_store.specs.Histories.{History, after, history_code}
use Rattle.iso_lifecycle.specs.ResultViews.{ResultsView}
use Rattle.iso_lifecycle.specs.Subjects.{Subject, subject, subject_code}
use Rattle.iso_locks.specs.Slots.{Slots, HasLater, slot}
use Rattle.iso_locks.specs.declared.starting.Starting.{Starting}

-- what a tray was made for, whether as a flat map, the nodes that are lent to it, by their numbers,
-- the values that were moved into it, by the numbers of their keys, and the frames handed to it, in
-- that order
pub record TrayView : Type 0 where
  pub plan : Planned
  pub world : Start
  pub flat : Bool
  pub lent : List Bool
  pub values : Slots
  pub frames : List Subject

-- a tray is stored as its parts
abbrev Parts : Type 0
Parts = Planned × (Start × (Bool × (List Bool × (Slots × List Subject))))

abbrev parts : TrayView → Parts
parts t = (t.plan, (t.world, (t.flat, (t.lent, (t.values, t.frames)))))

abbrev with_parts : Parts → TrayView
with_parts p =
    record {
      plan = p.0;
      world = p.1.0;
      flat = p.1.1.0;
      lent = p.1.1.1.0;
      values = p.1.1.1.1.0;
      frames = p.1.1.1.1.1;
    }

abbrev held_code : Coded (Slots × List Subject)
held_code = coded× (coded_list (coded_option history_code)) (coded_list subject_code)

abbrev parts_code : Coded Parts
parts_code =
    coded× plan.the_row.coded
    (coded× start_code (coded× coded_bool (coded× (coded_list coded_bool) held_code)))

abbrev pub tray_code : Coded TrayView
tray_code = code_by Parts parts_code parts with_parts (λ _. refl)

-- a tray to which nothing is lent or handed
abbrev pub empty_tray : Planned → Start → TrayView
empty_tray plan world = record {
  plan = plan;
  world = world;
  flat = false;
  lent = replicate (length plan.rows) false;
  values = replicate (length (keys (tree_of plan))) None;
  frames = [];
}

-- the frames of a class and of its enclosing classes, outermost first
abbrev pub frames_on : ResultsView → ℕ → List Subject
frames_on v n = map (subject v.plan v.start) (reverse (path (tree_of v.plan) n))

-- a key with the value that it starts with
abbrev pub start_at : Start → List ℕ → Starting
start_at world k = record { key = k; value = starting_value_in world k }

-- a key with a value is stored as the two
abbrev pub starting_code : Coded Starting
starting_code =
    code_by (List ℕ × Resource) (coded× (coded_list coded_ℕ) resource.the_row.coded)
    (λ s. (s.key, s.value)) (λ p. record { key = p.0; value = p.1 }) (λ _. refl)

-- the key with a number
abbrev pub key_at : List Row → ℕ → List ℕ
key_at tree i = slice_index_or (keys tree) i []

-- the number of a key, if a node declares it
abbrev pub number_of : List Row → List ℕ → Option ℕ
number_of tree k = number_below (keys tree) k (length (keys tree))

-- whether a node is lent to a tray, and wasn't taken back from it
abbrev pub is_lent : List Bool → ℕ → Bool
is_lent lent n = slice_index_or lent n false

-- whether an access is for READ alone
abbrev pub is_read : Option Access → Bool
is_read None = false
is_read (Some Read) = true
is_read (Some Write) = false

-- whether a node that may be none takes a key for READ
abbrev pub reads : List Row → Option ℕ → List ℕ → Bool
reads tree None k = false
reads tree (Some n) k = is_read (taken tree n k)

-- whether a node holds a key for READ: itself or its locking node takes it so
abbrev pub holds_read : List Row → List ℕ → ℕ → Bool
holds_read tree k n = reads tree (Some n) k || reads tree (locking_node tree n) k

-- whether one of the first n nodes is lent and passes a test
abbrev pub any_lent : List Bool → (ℕ → Bool) → ℕ → Bool
any_lent lent test zero = false
any_lent lent test (suc n) = (is_lent lent n && test n) || any_lent lent test n

-- whether a key is open for looking: a node that is lent holds it for READ
abbrev pub is_open : List Row → List Bool → List ℕ → Bool
is_open tree lent k = any_lent lent (holds_read tree k) (length tree)

-- the value in a slot, or else the starting value where the key is open
abbrev pub seen : Option History → Bool → Resource → Option Resource
seen (Some h) shown start = Some h.now
seen None false start = None
seen None true start = Some start

-- the value at a key with this number
abbrev pub seen_at : List Row → Start → List Bool → Slots → List ℕ → Option ℕ → Option Resource
seen_at tree world lent values k None = None
seen_at tree world lent values k (Some i) =
    seen (slot values i) (is_open tree lent k) (starting_value_in world k)

-- the resources of values that were moved in, where these nodes are lent
abbrev pub resources : List Row → Start → List Bool → Slots → Resources
resources tree world lent values k = seen_at tree world lent values k (number_of tree k)

-- the resources that a tray holds
abbrev pub content : TrayView → Resources
content t = resources (tree_of t.plan) t.world t.lent t.values

-- whether the value with this number was moved into a tray
abbrev pub has_at : Slots → Option ℕ → Bool
has_at slots None = false
has_at slots (Some i) = is_some (slot slots i)

-- whether the value of a key was moved into a tray, so that it may be changed there
abbrev pub has_value : TrayView → List ℕ → Bool
has_value t k = has_at t.values (number_of (tree_of t.plan) k)

-- the value of the key with a number, where rights let it be changed and it is there
abbrev pub kept_at : List (List ℕ × Access) → List (List ℕ) → Slots → ℕ → Option History
kept_at rights keys values i =
    cond (is_writable (access_in rights (slice_index_or keys i []))) (slot values i) None

-- whether a node's rights let it change the value of the key with a number
abbrev pub may_write : List Row → ℕ → ℕ → Bool
may_write tree n i = is_writable (node_rights tree n (key_at tree i))

-- the values that a node's rights let it change
abbrev pub kept : List Row → ℕ → Slots → Slots
kept tree n values = column (λ i. cond (may_write tree n i) (slot values i) None) (length values)

-- values gone back to what was kept of them: what was kept stands as it stood then, all else stays
abbrev pub restored : Slots → Slots → Slots
restored marks values = column (λ i. option_or (slot marks i) (slot values i)) (length values)

-- the values that a node may change, as they stood at one moment, by the numbers of their keys
pub record SavepointView : Type 0 where
  pub node : ℕ
  pub values : Slots

abbrev pub savepoint_code : Coded SavepointView
savepoint_code =
    code_by (ℕ × Slots) (coded× coded_ℕ (coded_list (coded_option history_code)))
    (λ m. (m.node, m.values))
    (λ p. record { node = p.0; values = p.1 }) (λ _. refl)

-- what is kept of a tray for a node
abbrev pub marked : TrayView → ℕ → SavepointView
marked t n = record { node = n; values = kept (tree_of t.plan) n t.values }

-- a tray can go back to a mark: each value that was kept is there, and was only changed further
-- since
pub record CanUndo (mark : SavepointView) (t : TrayView) : Type 0 where
  pub fits : length mark.values ≡ length t.values
  pub later : (i : ℕ) (h : History) → slot mark.values i ≡ Some h → HasLater t.values i h

-- a tray after further changes alone: each value that was there is there, and was only changed
-- further, and no other value is there
pub record GoesOn (old new : TrayView) : Type 0 where
  pub fits : length new.values ≡ length old.values
  pub only : (i : ℕ) → slot old.values i ≡ None → slot new.values i ≡ None
  pub later : (i : ℕ) (h : History) → slot old.values i ≡ Some h → HasLater new.values i h

-- a tray after changes of its values alone: it is of the same plan and world, the same nodes are
-- lent to it, the same values are there and the same frames
pub record IsOnward (old new : TrayView) : Type 0 where
  pub plan : new.plan ≡ old.plan
  pub world : new.world ≡ old.world
  pub flat : new.flat ≡ old.flat
  pub lent : new.lent ≡ old.lent
  pub there : has_value new ≡ has_value old
  pub values : GoesOn old new
  pub frames : new.frames ≡ old.frames

-- the tray with one value changed
abbrev pub with_change : Change → ℕ → TrayView → TrayView
with_change change i t =
    record t { values = slice_set t.values i (option_map (after change) (slot t.values i)) }

-- a tray gone back to a mark: the values that were kept stand as they stood then, all others stay
abbrev pub undone : SavepointView → TrayView → TrayView
undone mark t = record t { values = restored mark.values t.values }
