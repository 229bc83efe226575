-- The flat map of a run, with what each entered node saved, and the states that it is of.
--
-- parts of a core: A flat map of all values, with what each entered node saved, is that of a state
-- (`IsFlatOf`); bodies are those under way at workers' nodes (`AreBodiesOf`); results are those of
-- finished nodes (`AreResultsOf`).
-- Also in: `UnderWay` of `iso_standing`, `ResultStates` of `iso_standing`.
use Rattle.std.specs.Prelude.{◌≡◌, ℕ, ◌<◌, List, Option, Some, None, true, length, is_some, option_map, slice_index_or, refl}
use Rattle.std.specs.Coded.{Coded, code_by, coded×, coded_list, coded_option}
use Rattle.iso_suites.specs.SuiteStates.{RunNodes}
use Rattle.iso_isolation.specs.States.{is_held}
use Rattle.iso_locks.specs.Flats.{IsFlat, flat}
use Rattle.iso_locks.specs.Slots.{Slots, slot}
use Rattle.iso_locks.specs.Trays.{CanUndo, IsOnward, SavepointView, TrayView, content, has_value, savepoint_code, marked, number_of, tray_code}
use Rattle.iso_model.specs.Resources.{Resources}
use Rattle.iso_model.specs.Rights.{is_writable}
use Rattle.iso_model.specs.Touch.{HasKind, kind_of_key}
use Rattle.iso_model.specs.declared.resource.Resource.{Resource}
use Rattle.iso_plan.specs.NodeChains.{node_rights}
use Rattle.iso_plan.specs.RowView.{tree_of}
use Rattle.iso_plan.specs.Tree.{Row}
use Rattle.iso_store.specs.Histories.{History, IsEarlier}

-- a tray with all values; and by node the values that it may change as they stood at its Enter,
-- while it is entered
pub record FlatView : Type 0 where
  pub tray : TrayView
  pub marks : List (Option SavepointView)

abbrev pub flat_code : Coded FlatView
flat_code =
    code_by (TrayView × List (Option SavepointView))
    (coded× tray_code (coded_list (coded_option savepoint_code))) (λ v. (v.tray, v.marks))
    (λ p. record { tray = p.0; marks = p.1 }) (λ _. refl)

abbrev pub mark_at : List (Option SavepointView) → ℕ → Option SavepointView
mark_at marks n = slice_index_or marks n None

-- the values that a mark keeps
abbrev pub value_in : Slots → Option ℕ → Option Resource
value_in slots None = None
value_in slots (Some i) = option_map (λ h. h.now) (slot slots i)

abbrev pub kept_values : List Row → SavepointView → Resources
kept_values tree m k = value_in m.values (number_of tree k)

-- every value of a tray is of its key's kind
abbrev pub AreOfKinds : TrayView → Type 0
AreOfKinds t = (k : List ℕ) → has_value t k ≡ true → HasKind (content t k) (kind_of_key k)

-- a mark was made of a flat map of the same plan and world
pub record WasMade (t : TrayView) (n : ℕ) (m : SavepointView) : Type 0 where
  pub then : TrayView
  pub is : m ≡ marked then n
  pub plan : then.plan ≡ t.plan
  pub world : then.world ≡ t.world
  pub flat : IsFlat then
  pub kinds : AreOfKinds then

-- of a mark made before another, each value that both keep is the earlier one
abbrev pub ComesBefore : SavepointView → SavepointView → Type 0
ComesBefore l m = (i : ℕ) (g h : History) → slot l.values i ≡ Some g → slot m.values i ≡ Some h
    → IsEarlier g h

-- what every flat map of a run is: it can go back to each mark, and of two nodes that saved a value
-- of one key the lower did so first
pub record IsFlatMap (v : FlatView) : Type 0 where
  pub fits : length v.marks ≡ length v.tray.plan.rows
  pub flat : IsFlat v.tray
  pub kinds : AreOfKinds v.tray
  pub made : (n : ℕ) (m : SavepointView) → mark_at v.marks n ≡ Some m → WasMade v.tray n m
  pub undoable : (n : ℕ) (m : SavepointView) → mark_at v.marks n ≡ Some m → CanUndo m v.tray
  pub nested : (p n : ℕ) (l m : SavepointView) → p < n → mark_at v.marks p ≡ Some l
      → mark_at v.marks n ≡ Some m → ComesBefore l m

-- two nodes may change one key
pub record BothWrite (tree : List Row) (m n : ℕ) : Type 0 where
  pub key : List ℕ
  pub left : is_writable (node_rights tree m key) ≡ true
  pub right : is_writable (node_rights tree n key) ≡ true

-- each other entered node that may change a key which this one may change is lower
abbrev pub IsInnermost : FlatView → ℕ → Type 0
IsInnermost v n = (m : ℕ) → is_some (mark_at v.marks m) ≡ true → (m ≡ n → ⊥)
    → BothWrite (tree_of v.tray.plan) m n → m < n

-- of one plan and world
pub record OfSameMap (v u : FlatView) : Type 0 where
  pub plan : u.tray.plan ≡ v.tray.plan
  pub world : u.tray.world ≡ v.tray.world

-- after changes of values alone
pub record MapGoesOn (v u : FlatView) : Type 0 where
  pub tray : IsOnward v.tray u.tray
  pub marks : u.marks ≡ v.marks

-- the flat map of a state, with the values that its entered nodes saved
pub record IsFlatOf (v : FlatView) (s : RunNodes) : Type 0 where
  pub now : (k : List ℕ) → flat v.tray k ≡ s.flat k
  pub marked : (n : ℕ) → is_some (mark_at v.marks n) ≡ true → (0 < n)
      × (is_held (s.status n) ≡ true)
  pub held : (n : ℕ) → 0 < n → is_held (s.status n) ≡ true → is_some (mark_at v.marks n) ≡ true
  pub saved : (n : ℕ) (m : SavepointView) (k : List ℕ) → mark_at v.marks n ≡ Some m
      → is_writable (node_rights (tree_of v.tray.plan) n k) ≡ true
      → s.saved n k ≡ kept_values (tree_of v.tray.plan) m k
