-- The values of flat maps: at declared keys, at the start, in marks, and once one has gone back to
-- a mark.
use Rattle.std.proofs.Common.{◌≡◌, ℕ, zero, suc, ◌<◌, List, [], ◌∷◌, length, get_or, Option, Some, None, Bool, true, false, ◌||◌, cond, bytes_eq, nat_eq, is_some, option_map, inl, inr, refl, sym, ap, ◌∙◌, arith, Result, Ok, Err, OnOk, OnErr}
use Rattle.std.proofs.lemmas.Bool.{cases_eq, cases_lt}
use Rattle.std.proofs.lemmas.List.{get_or_past}
use Rattle.std.proofs.lemmas.Slice.Eq.{bytes_eq-Decides}
use Rattle.std.specs.List.{list_any, starts_with}
use Rattle.std.specs.Option.{option_or}
use Rattle.iso_suites.proofs.LanguageLaws.{readable-of}
use Rattle.iso_suites.proofs.SuiteLaws.{chain-rights, suite-laws}
use Rattle.iso_core.specs.FlatMaps.{AreOfKinds, kept_values, value_in}
use Rattle.iso_lifecycle.specs.Subjects.{started}
use Rattle.iso_locks.proofs.FlatLemmas.{back, flat-undone}
use Rattle.iso_locks.proofs.NumberLemmas.{number-spells}
use Rattle.iso_locks.specs.Flats.{IsFlat, flat}
use Rattle.iso_locks.specs.Slots.{Slots, slot}
use Rattle.iso_locks.specs.Trays.{TrayView, content, has_at, has_value, is_open, kept, key_at, marked, may_write, number_of, restored, seen, seen_at, undone}
use Rattle.iso_model.proofs.TouchLemmas.{changed_at-kind}
use Rattle.iso_model.specs.ResourceKeys.{file_prefix, locale_key, properties_key}
use Rattle.iso_model.specs.Resources.{Resources, changed_at}
use Rattle.iso_model.specs.Rights.{is_readable, is_writable}
use Rattle.iso_model.specs.Touch.{HasKeys, HasKind, Kind, kind_of_key, kind_of_value}
use Rattle.iso_model.specs.declared.resource.Change.{Change}
use Rattle.iso_model.specs.declared.resource.Resource.{Resource}
use Rattle.iso_plan.proofs.ColumnLemmas.{column-read, length-column}
use Rattle.iso_plan.proofs.LawLemmas.{taken-known}
use Rattle.iso_plan.specs.KeyNumbers.{number_below}
use Rattle.iso_plan.specs.KeyTable.{keys}
use Rattle.iso_plan.specs.NodeChains.{node_rights}
use Rattle.iso_plan.specs.Paths.{IsTree}
use Rattle.iso_plan.specs.Planned.{Planned}
use Rattle.iso_plan.specs.RowView.{tree_of}
use Rattle.iso_plan.specs.Tree.{Row}
use Rattle.iso_settings.specs.Worlds.{Start, starting_value_in}
use Rattle.iso_store.specs.Histories.{History}

-- a key among keys has a number
record IsPlaced (ks : List (List ℕ)) (k : List ℕ) : Type 0 where
  pub place : ℕ
  pub within : place < length ks
  pub equal : k ≡ get_or ks place []

placed-by : (ks : List (List ℕ)) (j k : List ℕ) (t : Bool) → bytes_eq k j ≡ t → (t || list_any (bytes_eq k) ks) ≡ true → (list_any (bytes_eq k) ks ≡ true → IsPlaced ks k) → IsPlaced (j ∷ ks) k
placed-by ks j k true e h ih = record { place = 0; within = omega arith; equal = (bytes_eq-Decides k j).0 e }
placed-by ks j k false e h ih = let p = ih h in let w = p.within in record { place = suc p.place; within = omega arith; equal = p.equal }

placed : (ks : List (List ℕ)) (k : List ℕ) → list_any (bytes_eq k) ks ≡ true → IsPlaced ks k
placed [] k h = absurd (cc)
placed (j ∷ ks) k h = placed-by ks j k (bytes_eq k j) refl h (placed ks k)

found-by : (b : Bool) (n : ℕ) (rest : Option ℕ) → (b ≡ false → is_some rest ≡ true) → is_some (cond b (Some n) rest) ≡ true
found-by true n rest h = refl
found-by false n rest h = h refl

found : (ks : List (List ℕ)) (k : List ℕ) (n p : ℕ) → p < n → k ≡ get_or ks p [] → is_some (number_below ks k n) ≡ true
found ks k zero p less e = absurd (omega arith)
found ks k (suc n) p less e =
    found-by (bytes_eq k (get_or ks n [])) n (number_below ks k n)
    (λ other. elim (cases_eq p n) [
      | inl same ↦
          let equal : bytes_eq k (get_or ks n []) ≡ true = (bytes_eq-Decides k (get_or ks n [])).1 (e ∙ ap (λ (j : ℕ). get_or ks j []) same) in
          absurd (cc)
      | inr apart ↦ found ks k n p (omega arith) e
    ])

-- a key that a node may look at has a number
pub numbered : (plan : Planned) (world : Start) → IsTree (tree_of plan) → (n : ℕ) (k : List ℕ) → is_readable (node_rights (tree_of plan) n k) ≡ true → is_some (number_of (tree_of plan) k) ≡ true
numbered plan world t n k r =
    let tree = tree_of plan in
    let c = (suite-laws tree t plan.settings (started world)).covered n k (ap is_readable (chain-rights tree t plan.settings (started world) k n) ∙ r) in
    let p = placed (keys tree) k (taken-known tree t c.by k c.takes) in
    found (keys tree) k (length (keys tree)) p.place p.within p.equal

pub record HasNumber (tree : List Row) (k : List ℕ) : Type 0 where
  pub number : ℕ
  pub is : number_of tree k ≡ Some number

number-by : (tree : List Row) (k : List ℕ) (o : Option ℕ) → number_of tree k ≡ o → is_some o ≡ true → HasNumber tree k
number-by tree k (Some i) e h = record { number = i; is = e }
number-by tree k None e h = absurd (cc)

pub number-in : (tree : List Row) (k : List ℕ) → is_some (number_of tree k) ≡ true → HasNumber tree k
number-in tree k h = number-by tree k (number_of tree k) refl h

-- a value is there
pub record IsThere (o : Option History) : Type 0 where
  pub value : History
  pub is : o ≡ Some value

pub there-of : (o : Option History) → is_some o ≡ true → IsThere o
there-of (Some h) e = record { value = h; is = refl }
there-of None e = absurd (cc)

pub within-of : (slots : Slots) (i : ℕ) (h : History) → slot slots i ≡ Some h → i < length slots
within-of slots i h e = elim (cases_lt i (length slots)) [
  | inl less ↦ less
  | inr past ↦ let nothing : None ≡ Some h = sym (get_or_past slots i None past) ∙ e in absurd (cc)
]

-- what a tray holds at a key whose value it has
content-some : (t : TrayView) (k : List ℕ) (i : ℕ) (h : History) → number_of (tree_of t.plan) k ≡ Some i → slot t.values i ≡ Some h → content t k ≡ Some h.now
content-some t k i h e is =
    ap (seen_at (tree_of t.plan) t.world t.lent t.values k) e ∙ ap (λ (o : Option History). seen o (is_open (tree_of t.plan) t.lent k) (starting_value_in t.world k)) is

content-by : (t : TrayView) (k : List ℕ) (o : Option ℕ) → number_of (tree_of t.plan) k ≡ o → has_at t.values o ≡ true → is_some (content t k) ≡ true
content-by t k None e h = absurd (cc)
content-by t k (Some i) e h = let v = there-of (slot t.values i) h in ap is_some (content-some t k i v.value e v.is)

or-some : (o p : Option Resource) → is_some o ≡ true → o ≡ option_or o p
or-some (Some v) p h = refl
or-some None p h = absurd (cc)

-- a flat map tells of a value that is there what the tray holds
pub content-flat : (t : TrayView) (k : List ℕ) → has_value t k ≡ true → content t k ≡ flat t k
content-flat t k h = or-some (content t k) (started t.world k) (content-by t k (number_of (tree_of t.plan) k) refl h)

module _ (t : TrayView) (is : IsFlat t) where
  pub slot-there : (k : List ℕ) (i : ℕ) → number_of (tree_of t.plan) k ≡ Some i → IsThere (slot t.values i)
  slot-there k i e = there-of (slot t.values i) (sym (ap (has_at t.values) e) ∙ is k ∙ ap is_some e)

  -- at a declared key a flat map has the value in the key's slot
  pub flat-now : (k : List ℕ) (i : ℕ) → number_of (tree_of t.plan) k ≡ Some i → flat t k ≡ value_in t.values (Some i)
  flat-now k i e =
      let v = slot-there k i e in
      ap (λ (o : Option Resource). option_or o (started t.world k)) (content-some t k i v.value e v.is) ∙ sym (ap (option_map (λ (h : History). h.now)) v.is)

-- what a mark keeps of a slot
none-either : (b : Bool) (o : Option History) → o ≡ None → None ≡ cond b o None
none-either true o e = sym e
none-either false o e = refl

kept-at : (tree : List Row) (n : ℕ) (values : Slots) (i : ℕ) → slot (kept tree n values) i ≡ cond (may_write tree n i) (slot values i) None
kept-at tree n values i = elim (cases_lt i (length values)) [
  | inl within ↦ column-read (λ (j : ℕ). cond (may_write tree n j) (slot values j) None) (kept tree n values) (length values) i None refl within
  | inr past ↦
      let count : length (kept tree n values) ≡ length values = length-column (λ (j : ℕ). cond (may_write tree n j) (slot values j) None) (length values) in
      get_or_past (kept tree n values) i None (omega arith) ∙ none-either (may_write tree n i) (slot values i) (get_or_past values i None past)
]

both-of : (b : Bool) (o : Option History) (h : History) → cond b o None ≡ Some h → (b ≡ true) × (o ≡ Some h)
both-of true o h e = (refl, e)
both-of false o h e = absurd (cc)

-- what was kept was there, and its node may change it
pub kept-from : (tree : List Row) (n : ℕ) (values : Slots) (i : ℕ) (h : History) → slot (kept tree n values) i ≡ Some h → (may_write tree n i ≡ true) × (slot values i ≡ Some h)
kept-from tree n values i h e = both-of (may_write tree n i) (slot values i) h (sym (kept-at tree n values i) ∙ e)

-- a mark keeps the values that its flat map had at the keys that the node may change
pub kept-value : (t : TrayView) (n : ℕ) (k : List ℕ) → IsTree (tree_of t.plan) → IsFlat t
    → is_writable (node_rights (tree_of t.plan) n k) ≡ true → kept_values (tree_of t.plan) (marked t n) k ≡ flat t k
kept-value t n k tr is w =
    let tree = tree_of t.plan in
    let r : is_readable (node_rights tree n k) ≡ true = readable-of (node_rights tree n k) w in
    let p = number-in tree k (numbered t.plan t.world tr n k r) in
    let spelled : key_at tree p.number ≡ k = number-spells (keys tree) k (length (keys tree)) p.number p.is in
    let may : may_write tree n p.number ≡ true = ap (λ (q : List ℕ). is_writable (node_rights tree n q)) spelled ∙ w in
    ap (value_in (kept tree n t.values)) p.is ∙ ap (option_map (λ (h : History). h.now)) (kept-at tree n t.values p.number ∙ ap (λ (b : Bool). cond b (slot t.values p.number) None) may)
    ∙ sym (flat-now t is k p.number p.is)

-- a slot gone back to a mark
pub restored-at : (marks values : Slots) (i : ℕ) → i < length values → slot (restored marks values) i ≡ option_or (slot marks i) (slot values i)
restored-at marks values i within = column-read (λ (j : ℕ). option_or (slot marks j) (slot values j)) (restored marks values) (length values) i None refl within

-- a value that a world starts with is of its key's kind
start-by : (world : Start) (k : List ℕ) (a b c : Bool) → bytes_eq k properties_key ≡ a → bytes_eq k locale_key ≡ b
    → starts_with nat_eq k file_prefix ≡ c → kind_of_value (starting_value_in world k) ≡ kind_of_key k
start-by world k true b c ea eb ec = rw ea refl
start-by world k false true c ea eb ec = rw (ea, eb) refl
start-by world k false false true ea eb ec = rw (ea, eb, ec) refl
start-by world k false false false ea eb ec = rw (ea, eb, ec) refl

start-kind : (world : Start) (k : List ℕ) → kind_of_value (starting_value_in world k) ≡ kind_of_key k
start-kind world k = start-by world k (bytes_eq k properties_key) (bytes_eq k locale_key) (starts_with nat_eq k file_prefix) refl refl refl

-- each value is of its key's kind: at the start, after a change, and once a flat map has gone back
-- to a mark
pub kinds-start : (t : TrayView) → flat t ≡ started t.world → AreOfKinds t
kinds-start t is k h =
    ap (option_map kind_of_value) (content-flat t k h ∙ ap (λ (m : Resources). m k) is) ∙ ap (λ (kind : Kind). Some kind) (start-kind t.world k)

pub kinds-changed : {A B : Type 0} (r : Result A B) (t u : TrayView) (k : List ℕ) (change : Change) → has_value u ≡ has_value t
    → OnOk r (content u ≡ changed_at (content t) k change) → OnErr r (content u ≡ content t) → AreOfKinds t → AreOfKinds u
kinds-changed (Ok x) t u k change there ok err is q h =
    ap (λ (m : Resources). option_map kind_of_value (m q)) ok ∙ changed_at-kind (content t) k q change ∙ is q (sym (ap (λ (f : List ℕ → Bool). f q) there) ∙ h)
kinds-changed (Err e) t u k change there ok err is q h =
    ap (λ (m : Resources). option_map kind_of_value (m q)) err ∙ is q (sym (ap (λ (f : List ℕ → Bool). f q) there) ∙ h)

kind-either : (b : Bool) (v w : Option Resource) (kind : Kind) → HasKind v kind → HasKind w kind → HasKind (cond b v w) kind
kind-either true v w kind a c = a
kind-either false v w kind a c = c

pub kinds-undone : (t u : TrayView) (n : ℕ) → IsFlat t → IsFlat u → u.plan ≡ t.plan → u.world ≡ t.world → AreOfKinds t → AreOfKinds u → AreOfKinds (undone (marked t n) u)
kinds-undone t u n ft fu plan world kt ku k h =
    let some : is_some (number_of (tree_of u.plan) k) ≡ true = sym (flat-undone u (marked t n) fu k) ∙ h in
    let had : has_value t k ≡ true = ft k ∙ sym (ap (λ (p : Planned). is_some (number_of (tree_of p) k)) plan) ∙ some in
    let has : has_value u k ≡ true = fu k ∙ some in
    let then : HasKind (flat t k) (kind_of_key k) = sym (ap (option_map kind_of_value) (content-flat t k had)) ∙ kt k had in
    let now : HasKind (flat u k) (kind_of_key k) = sym (ap (option_map kind_of_value) (content-flat u k has)) ∙ ku k has in
    ap (option_map kind_of_value) (content-flat (undone (marked t n) u) k h ∙ ap (λ (m : Resources). m k) (back t u n ft fu plan world))
    ∙ kind-either (is_writable (node_rights (tree_of t.plan) n k)) (flat t k) (flat u k) (kind_of_key k) then now

-- what the rights of a node let be looked at is there
pub value-there : (t : TrayView) (n : ℕ) (k : List ℕ) → IsTree (tree_of t.plan) → IsFlat t → is_readable (node_rights (tree_of t.plan) n k) ≡ true → has_value t k ≡ true
value-there t n k tr is r = is k ∙ numbered t.plan t.world tr n k r

-- a flat map has what the body of a node asks for
pub flat-keys : (t : TrayView) (n : ℕ) → IsTree (tree_of t.plan) → IsFlat t → AreOfKinds t → HasKeys (node_rights (tree_of t.plan) n) (content t) (has_value t)
flat-keys t n tr is kinds = record {
  looks = λ k r. kinds k (value-there t n k tr is r);
  changes = λ k w. value-there t n k tr is (readable-of (node_rights (tree_of t.plan) n k) w);
}
