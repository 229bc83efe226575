-- Trays that have every value.
use Rattle.std.proofs.Common.{◌≡◌, ℕ, ◌<◌, List, length, map, replicate, Option, Some, None, Bool, true, false, cond, get_or, is_some, ap, sym, ◌∙◌, arith, refl, inl, inr}
use Rattle.std.specs.Option.{option_or}
use Rattle.std.proofs.lemmas.Bool.{cases_lt}
use Rattle.std.proofs.lemmas.List.{get_or-map, get_or-replicate, get_or_past, length-map, length-replicate}
use Rattle.iso_lifecycle.specs.Subjects.{started}
use Rattle.iso_locks.proofs.NumberLemmas.{number-spells, number-within}
use Rattle.iso_locks.specs.Flats.{IsFlat, flat, with_saved}
use Rattle.iso_locks.specs.Slots.{Slots, slot}
use Rattle.iso_locks.specs.Trays.{IsOnward, SavepointView, TrayView, has_at, is_open, kept, key_at, marked, may_write, number_of, restored, seen, seen_at, undone}
use Rattle.iso_model.specs.Rights.{is_writable}
use Rattle.iso_model.specs.declared.resource.Resource.{Resource}
use Rattle.iso_plan.proofs.ColumnLemmas.{column-read}
use Rattle.iso_plan.specs.KeyTable.{keys}
use Rattle.iso_plan.specs.NodeChains.{node_rights}
use Rattle.iso_plan.specs.Planned.{Planned}
use Rattle.iso_plan.specs.RowView.{tree_of}
use Rattle.iso_plan.specs.Tree.{Row}
use Rattle.iso_settings.specs.Worlds.{Start, starting_value_in}
use Rattle.iso_store.specs.Histories.{History}

flat-none : (t : TrayView) (k : List ℕ) → number_of (tree_of t.plan) k ≡ None → flat t k ≡ started t.world k
flat-none t k e = ap (λ (o : Option ℕ). option_or (seen_at (tree_of t.plan) t.world t.lent t.values k o) (started t.world k)) e

flat-some : (t : TrayView) (k : List ℕ) (i : ℕ) (h : History) → number_of (tree_of t.plan) k ≡ Some i → slot t.values i ≡ Some h → flat t k ≡ Some h.now
flat-some t k i h e is =
    ap (λ (o : Option ℕ). option_or (seen_at (tree_of t.plan) t.world t.lent t.values k o) (started t.world k)) e
    ∙ ap (λ (o : Option History). option_or (seen o (is_open (tree_of t.plan) t.lent k) (starting_value_in t.world k)) (started t.world k)) is

some_of : (o : Option History) → is_some o ≡ true → (h : History) × (o ≡ Some h)
some_of (Some h) e = (h, refl)
some_of None e = absurd (cc)

there : (t : TrayView) (k : List ℕ) (i : ℕ) → IsFlat t → number_of (tree_of t.plan) k ≡ Some i → is_some (slot t.values i) ≡ true
there t k i is e = sym (ap (has_at t.values) e) ∙ is k ∙ ap is_some e

below : (values : Slots) (i : ℕ) → is_some (slot values i) ≡ true → i < length values
below values i is =
    elim (cases_lt i (length values)) [
      | inl within ↦ within
      | inr past ↦ absurd (let nothing : slot values i ≡ None = get_or_past values i None past in let no : is_some (slot values i) ≡ false = ap is_some nothing in cc)
    ]

either : (o p : Option History) → is_some p ≡ true → is_some (option_or o p) ≡ true
either (Some h) p is = refl
either None p is = is

-- a slot of values gone back to marks
restored-slot : (marks values : Slots) (i : ℕ) → i < length values → slot (restored marks values) i ≡ option_or (slot marks i) (slot values i)
restored-slot marks values i within = column-read (λ j. option_or (slot marks j) (slot values j)) (restored marks values) (length values) i None refl within

kept-slot : (tree : List Row) (n : ℕ) (values : Slots) (i : ℕ) → i < length values → slot (kept tree n values) i ≡ cond (may_write tree n i) (slot values i) None
kept-slot tree n values i within = column-read (λ j. cond (may_write tree n j) (slot values j) None) (kept tree n values) (length values) i None refl within

has_by : (marks values : Slots) (o : Option ℕ) → has_at values o ≡ is_some o → has_at (restored marks values) o ≡ is_some o
has_by marks values None is = refl
has_by marks values (Some i) is = ap is_some (restored-slot marks values i (below values i is)) ∙ either (slot marks i) (slot values i) is

pub flat-undone : (t : TrayView) (mark : SavepointView) → IsFlat t → IsFlat (undone mark t)
flat-undone t mark is k = has_by mark.values t.values (number_of (tree_of t.plan) k) (is k)

pub flat-onward : (t u : TrayView) → IsOnward t u → IsFlat t → IsFlat u
flat-onward t u on is k = ap (λ (f : List ℕ → Bool). f k) on.there ∙ is k ∙ ap (λ (p : Planned). is_some (number_of (tree_of p) k)) (sym on.plan)

same-world : (b : Bool) (v w : Option Resource) → v ≡ w → v ≡ cond b w v
same-world true v w e = e
same-world false v w e = refl

chosen : (b : Bool) (g h : History) → option_or (cond b (Some g) None) (Some h) ≡ Some (cond b g h)
chosen true g h = refl
chosen false g h = refl

now-of : (b : Bool) (g h : History) → Some (cond b g h).now ≡ cond b (Some g.now) (Some h.now)
now-of true g h = refl
now-of false g h = refl

back-at : (t u : TrayView) (n : ℕ) (k : List ℕ) (o : Option ℕ) → IsFlat t → IsFlat u → u.plan ≡ t.plan → u.world ≡ t.world → number_of (tree_of t.plan) k ≡ o
    → flat (undone (marked t n) u) k ≡ with_saved t n (flat t) (flat u) k
back-at t u n k None ft fu plan world e =
    let b = is_writable (node_rights (tree_of t.plan) n k) in
    let e2 : number_of (tree_of u.plan) k ≡ None = ap (λ (p : Planned). number_of (tree_of p) k) plan ∙ e in
    let was : flat u k ≡ flat t k = flat-none u k e2 ∙ ap (λ (w : Start). started w k) world ∙ sym (flat-none t k e) in
    flat-none (undone (marked t n) u) k e2 ∙ sym (flat-none u k e2) ∙ same-world b (flat u k) (flat t k) was
back-at t u n k (Some i) ft fu plan world e =
    let tree = tree_of t.plan in
    let b = is_writable (node_rights tree n k) in
    let e2 : number_of (tree_of u.plan) k ≡ Some i = ap (λ (p : Planned). number_of (tree_of p) k) plan ∙ e in
    let g = some_of (slot t.values i) (there t k i ft e) in
    let h = some_of (slot u.values i) (there u k i fu e2) in
    let spelled : key_at tree i ≡ k = number-spells (keys tree) k (length (keys tree)) i e in
    let may : may_write tree n i ≡ b = ap (λ (q : List ℕ). is_writable (node_rights tree n q)) spelled in
    let mark : slot (kept tree n t.values) i ≡ cond b (Some g.0) None =
    kept-slot tree n t.values i (below t.values i (there t k i ft e)) ∙ ap (λ (c : Bool). cond c (slot t.values i) None) may ∙ ap (λ (x : Option History). cond b x None) g.1 in
    let back : slot (restored (kept tree n t.values) u.values) i ≡ Some (cond b g.0 h.0) =
    restored-slot (kept tree n t.values) u.values i (below u.values i (there u k i fu e2)) ∙ ap (λ (x : Option History). option_or x (slot u.values i)) mark
    ∙ ap (λ (x : Option History). option_or (cond b (Some g.0) None) x) h.1 ∙ chosen b g.0 h.0 in
    flat-some (undone (marked t n) u) k i (cond b g.0 h.0) e2 back ∙ now-of b g.0 h.0
    ∙ ap (λ (x : Option Resource). cond b x (Some h.0.now)) (sym (flat-some t k i g.0 e g.1)) ∙ ap (λ (x : Option Resource). cond b (flat t k) x) (sym (flat-some u k i h.0 e2 h.1))

pub back : (t u : TrayView) (n : ℕ) → IsFlat t → IsFlat u → u.plan ≡ t.plan → u.world ≡ t.world → flat (undone (marked t n) u) ≡ with_saved t n (flat t) (flat u)
back t u n ft fu plan world = λ p k. back-at t u n k (number_of (tree_of t.plan) k) ft fu plan world refl p

-- slots that all have values
pub all-there : (values : Slots) (n i : ℕ) → map is_some values ≡ replicate n true → i < n → is_some (slot values i) ≡ true
all-there values n i e h =
    let count : length values ≡ n = sym (length-map values is_some) ∙ ap length e ∙ length-replicate n true in
    sym (get_or-map is_some values i None false (omega arith)) ∙ ap (λ (bs : List Bool). get_or bs i false) e ∙ get_or-replicate n i true false h

full_by : (tree : List Row) (values : Slots) (k : List ℕ) (o : Option ℕ) → map is_some values ≡ replicate (length (keys tree)) true → number_of tree k ≡ o → has_at values o ≡ is_some o
full_by tree values k None e at = refl
full_by tree values k (Some i) e at = all-there values (length (keys tree)) i e (number-within (keys tree) k (length (keys tree)) i at)

pub full : (t : TrayView) → map is_some t.values ≡ replicate (length (keys (tree_of t.plan))) true → IsFlat t
full t e k = full_by (tree_of t.plan) t.values k (number_of (tree_of t.plan) k) e refl

starts_by : (t : TrayView) (k : List ℕ) (o : Option ℕ) → IsFlat t → ((i : ℕ) (h : History) → slot t.values i ≡ Some h → h.now ≡ starting_value_in t.world (key_at (tree_of t.plan) i))
    → number_of (tree_of t.plan) k ≡ o → flat t k ≡ started t.world k
starts_by t k None is starts e = flat-none t k e
starts_by t k (Some i) is starts e =
    let h = some_of (slot t.values i) (there t k i is e) in
    let spelled : key_at (tree_of t.plan) i ≡ k = number-spells (keys (tree_of t.plan)) k (length (keys (tree_of t.plan))) i e in
    flat-some t k i h.0 e h.1 ∙ ap (λ (v : Resource). Some v) (starts i h.0 h.1 ∙ ap (starting_value_in t.world) spelled)

pub at-start : (t : TrayView) → IsFlat t → ((i : ℕ) (h : History) → slot t.values i ≡ Some h → h.now ≡ starting_value_in t.world (key_at (tree_of t.plan) i)) → flat t ≡ started t.world
at-start t is starts = λ p k. starts_by t k (number_of (tree_of t.plan) k) is starts refl p
