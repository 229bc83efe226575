-- The flat map of a run follows its events: an Enter, a Step, and a Leave that goes back to what
-- was saved.
use Rattle.std.proofs.Common.{◌≡◌, ◌⊎◌, ℕ, ◌<◌, List, [], length, set, replicate, Option, Some, None, Bool, true, false, cond, is_some, inl, inr, refl, sym, ap, ◌∙◌, subst, arith}
use Rattle.std.proofs.lemmas.Bool.{cases_eq, cases_lt}
use Rattle.std.proofs.lemmas.List.{get_or_past, get_or-replicate, get_or-set_other, get_or-set_same, length-replicate, length-set}
use Rattle.std.specs.Option.{option_or}
use Rattle.iso_core.proofs.FlatValues.{content-flat, kept-from, kept-value, kinds-undone, restored-at, value-there, within-of}
use Rattle.iso_suites.proofs.SuiteLaws.{chain-rights}
use Rattle.iso_core.specs.FlatMaps.{AreOfKinds, ComesBefore, FlatView, IsFlatMap, IsFlatOf, IsInnermost, MapGoesOn, WasMade, kept_values, mark_at}
use Rattle.iso_suites.specs.ScriptLanguage.{chain_rights, scripts}
use Rattle.iso_suites.specs.SuiteStates.{RunNodes, suite_at}
use Rattle.iso_isolation.proofs.Changes.{put_elsewhere, put_here, unmoved}
use Rattle.iso_isolation.specs.Alone.{restricted}
use Rattle.iso_isolation.specs.Events as E
use Rattle.iso_isolation.specs.Restoring.{finishing}
use Rattle.iso_isolation.specs.States.{Status, Waiting, Begun, Open, Barred, Closing, Finished, first, is_held, nothing, put, with_body}
use Rattle.iso_isolation.specs.Suites.{chain, may_write}
use Rattle.iso_lifecycle.specs.BodyViews.{Stands, subject_of}
use Rattle.iso_lifecycle.specs.Subjects.{rights_of_subject, started}
use Rattle.iso_lifecycle.specs.declared.body.Body.{Body}
use Rattle.iso_locks.proofs.FlatLemmas.{back, flat-onward, flat-undone}
use Rattle.iso_locks.proofs.LawLemmas.{other-mark, own-mark}
use Rattle.iso_locks.specs.Flats.{IsFlat, flat}
use Rattle.iso_locks.specs.Onward.{on-still}
use Rattle.iso_locks.specs.Slots.{HasLater, slot}
use Rattle.iso_locks.specs.Trays.{CanUndo, IsOnward, SavepointView, TrayView, content, has_value, key_at, marked, restored, undone}
use Rattle.iso_model.proofs.BodyKeys.{body-step-alike, body-step-untouched}
use Rattle.iso_model.specs.BodyAgreement.{AlikeGoing}
use Rattle.iso_model.specs.Bodies.{Going, Stage, body_step, going}
use Rattle.iso_model.specs.Openings.{Frame}
use Rattle.iso_model.specs.Resources.{Resources}
use Rattle.iso_model.specs.Rights.{Rights, is_readable, is_writable}
use Rattle.iso_model.specs.declared.access.Access.{Access}
use Rattle.iso_model.specs.declared.outcome.Outcome.{Outcome}
use Rattle.iso_model.specs.declared.resource.Resource.{Resource}
use Rattle.iso_plan.proofs.ColumnLemmas.{length-column}
use Rattle.iso_plan.specs.NodeChains.{node_rights}
use Rattle.iso_plan.specs.Paths.{IsTree}
use Rattle.iso_plan.specs.Planned.{Planned}
use Rattle.iso_plan.specs.RowView.{tree_of}
use Rattle.iso_plan.specs.Tree.{Row}
use Rattle.iso_settings.specs.Worlds.{Start}
use Rattle.iso_store.specs.Histories.{History, IsEarlier}

abbrev Marks : Type 0
Marks = List (Option SavepointView)

-- a list of marks without a mark
pub no-mark : (count n : ℕ) → mark_at (replicate count None) n ≡ None
no-mark count n = elim (cases_lt n count) [
  | inl less ↦ get_or-replicate count n None None less
  | inr past ↦
      let none : Option SavepointView = None in
      let long : length (replicate count none) ≡ count = length-replicate count none in
      get_or_past (replicate count none) n None (omega arith)
]

-- a mark of a list with one changed: the changed one, or one of the others
set-mark : (marks : Marks) (node n : ℕ) (o : Option SavepointView) (m : SavepointView) → node < length marks → mark_at (set marks node o) n ≡ Some m
    → ((n ≡ node) × (o ≡ Some m)) ⊎ ((n ≡ node → ⊥) × (mark_at marks n ≡ Some m))
set-mark marks node n o m within e = elim (cases_eq n node) [
  | inl same ↦ inl (same, sym (ap (λ (j : ℕ). mark_at (set marks node o) j) same ∙ get_or-set_same marks node o None within) ∙ e)
  | inr other ↦ inr (other, sym (get_or-set_other marks node n o None other) ∙ e)
]

put-at : {A : Type 0} (n : ℕ) (a : A) (f : ℕ → A) (m : ℕ) → m ≡ n → put n a f m ≡ a
put-at n a f m e = ap (λ (j : ℕ). put n a f j) e ∙ put_here n a f

-- what a mark of a flat map keeps, its node may change, and it was there
mark-writes : (t : TrayView) (n : ℕ) (m : SavepointView) (i : ℕ) (h : History) → WasMade t n m
    → slot m.values i ≡ Some h → is_writable (node_rights (tree_of t.plan) n (key_at (tree_of t.plan) i)) ≡ true
mark-writes t n m i h made e =
    let tree = tree_of made.then.plan in
    let at : slot (marked made.then n).values i ≡ Some h = sym (ap (λ (x : SavepointView). slot x.values i) made.is) ∙ e in
    let may = (kept-from tree n made.then.values i h at).0 in
    subst (λ (p : Planned). is_writable (node_rights (tree_of p) n (key_at (tree_of p) i)) ≡ true) made.plan may

-- after changes of values alone
pub map-onward : (v : FlatView) (u : TrayView) → IsOnward v.tray u → AreOfKinds u → IsFlatMap v → IsFlatMap (record { tray = u; marks = v.marks })
map-onward v u on kinds is = record {
  fits = is.fits ∙ ap (λ (p : Planned). length p.rows) (sym on.plan);
  flat = flat-onward v.tray u on is.flat;
  kinds = kinds;
  made = λ n m e.
      let w = is.made n m e in
      record { then = w.then; is = w.is; plan = w.plan ∙ sym on.plan; world = w.world ∙ sym on.world; flat = w.flat; kinds = w.kinds };
  undoable = λ n m e. other-mark v.tray u m on.values (is.undoable n m e);
  nested = is.nested;
}

-- the first flat map
pub map-first : (t : TrayView) (count : ℕ) → count ≡ length t.plan.rows → IsFlat t → AreOfKinds t → IsFlatMap (record { tray = t; marks = replicate count None })
map-first t count fits flat kinds =
    let none : (n : ℕ) (m : SavepointView) → mark_at (replicate count None) n ≡ Some m → ⊥ = (λ n m e. let wrong : None ≡ Some m = sym (no-mark count n) ∙ e in absurd (cc)) in
    let empty : Option SavepointView = None in
    record {
      fits = length-replicate count empty ∙ fits;
      flat = flat;
      kinds = kinds;
      made = λ n m e. absurd (none n m e);
      undoable = λ n m e. absurd (none n m e);
      nested = λ p n l m less e g. absurd (none p l e);
    }

module _ (plan : Planned) (world : Start) where
  pub state-first : (t : TrayView) (count : ℕ) → flat t ≡ started world → IsFlatOf (record { tray = t; marks = replicate count None }) (first scripts (suite_at plan world)).nodes
  state-first t count start =
      let none : (n : ℕ) → is_some (mark_at (replicate count None) n) ≡ true → ⊥ = (λ n h. let wrong : false ≡ true = sym (ap is_some (no-mark count n)) ∙ h in absurd (cc)) in
      let waits : Status Stage Frame Outcome = Waiting in
      record {
        now = λ k. ap (λ (m : Resources). m k) start;
        marked = λ n h. absurd (none n h);
        held = λ n pos h. elim (cases_eq n 0) [
          | inl root ↦ absurd (omega arith)
          | inr other ↦ let wrong : false ≡ true = sym (ap is_held (put_elsewhere n 0 (Open []) (λ _. waits) other)) ∙ h in absurd (cc)
        ];
        saved = λ n m k e w. absurd (none n (ap is_some e));
      }

abbrev NodeStatus : Type 0
NodeStatus = Status Stage Frame Outcome

-- a node's mark and its status that change together
marked-put : (marks : Marks) (node : ℕ) (o : Option SavepointView) (st : ℕ → NodeStatus) (a : NodeStatus) → node < length marks → 0 < node → is_some o ≡ is_held a
    → ((n : ℕ) → is_some (mark_at marks n) ≡ true → (0 < n) × (is_held (st n) ≡ true))
    → (n : ℕ) → is_some (mark_at (set marks node o) n) ≡ true → (0 < n) × (is_held (put node a st n) ≡ true)
marked-put marks node o st a within pos same old n h = elim (cases_eq n node) [
  | inl here ↦
      let there : is_some (mark_at (set marks node o) n) ≡ is_some o = ap (λ (j : ℕ). is_some (mark_at (set marks node o) j)) here ∙ ap is_some (get_or-set_same marks node o None within) in
      (omega arith, ap is_held (put-at node a st n here) ∙ sym same ∙ sym there ∙ h)
  | inr other ↦
      let was = old n (sym (ap is_some (get_or-set_other marks node n o None other)) ∙ h) in
      (was.0, ap is_held (put_elsewhere n node a st other) ∙ was.1)
]

held-put : (marks : Marks) (node : ℕ) (o : Option SavepointView) (st : ℕ → NodeStatus) (a : NodeStatus) → node < length marks → is_some o ≡ is_held a
    → ((n : ℕ) → 0 < n → is_held (st n) ≡ true → is_some (mark_at marks n) ≡ true)
    → (n : ℕ) → 0 < n → is_held (put node a st n) ≡ true → is_some (mark_at (set marks node o) n) ≡ true
held-put marks node o st a within same old n pos h = elim (cases_eq n node) [
  | inl here ↦
      let there : is_some (mark_at (set marks node o) n) ≡ is_some o = ap (λ (j : ℕ). is_some (mark_at (set marks node o) j)) here ∙ ap is_some (get_or-set_same marks node o None within) in
      there ∙ same ∙ sym (ap is_held (put-at node a st n here)) ∙ h
  | inr other ↦ ap is_some (get_or-set_other marks node n o None other) ∙ old n pos (sym (ap is_held (put_elsewhere n node a st other)) ∙ h)
]

-- an Enter
module _ (v : FlatView) (is : IsFlatMap v) (node : ℕ) (within : node < length v.marks) where
  abbrev tree : List Row
  tree = tree_of v.tray.plan

  abbrev own : SavepointView
  own = marked v.tray node

  abbrev more : Marks
  more = set v.marks node (Some own)

  -- what another mark keeps of a value that this one keeps is earlier
  earlier-now : (p : ℕ) (l : SavepointView) → mark_at v.marks p ≡ Some l → ComesBefore l own
  earlier-now p l e i g h at here =
      let later = (is.undoable p l e).later i g at in
      let there : slot v.tray.values i ≡ Some h = (kept-from tree node v.tray.values i h here).1 in
      let both : Some later.now ≡ Some h = sym later.there ∙ there in
      let same : later.now ≡ h = cc in
      subst (λ (x : History). IsEarlier g x) same later.later

  -- no node below it keeps a value that it keeps
  none-below : IsInnermost v node → (n : ℕ) (l m : SavepointView) → own ≡ l → node < n → mark_at v.marks n ≡ Some m → ComesBefore l m
  none-below inner n l m same less old i g h at there =
      let kept : slot own.values i ≡ Some g = ap (λ (x : SavepointView). slot x.values i) same ∙ at in
      let right = (kept-from tree node v.tray.values i g kept).0 in
      let apart : n ≡ node → ⊥ = λ e. absurd (omega arith) in
      let lower : n < node = inner n (ap is_some old) apart (record { key = key_at tree i; left = mark-writes v.tray n m i h (is.made n m old) there; right = right }) in
      absurd (omega arith)

  nested-more : IsInnermost v node → (p n : ℕ) (l m : SavepointView) → p < n → mark_at more p ≡ Some l → mark_at more n ≡ Some m → ComesBefore l m
  nested-more inner p n l m less e f = elim (set-mark v.marks node n (Some own) m within f) [
    | inl a ↦ elim (set-mark v.marks node p (Some own) l within e) [
      | inl b ↦ let first = a.0 in let second = b.0 in absurd (omega arith)
      | inr b ↦
          let both : Some own ≡ Some m = a.1 in
          let same : own ≡ m = cc in
          subst (λ (x : SavepointView). ComesBefore l x) same (earlier-now p l b.1)
    ]
    | inr a ↦ elim (set-mark v.marks node p (Some own) l within e) [
      | inl b ↦
          let both : Some own ≡ Some l = b.1 in
          let same : own ≡ l = cc in
          let here = b.0 in
          none-below inner n l m same (omega arith) a.1
      | inr b ↦ is.nested p n l m less b.1 a.1
    ]
  ]

  pub map-entered : IsInnermost v node → IsFlatMap (record { tray = v.tray; marks = more })
  map-entered inner = record {
    fits = length-set v.marks node (Some own) ∙ is.fits;
    flat = is.flat;
    kinds = is.kinds;
    made = λ n m e. elim (set-mark v.marks node n (Some own) m within e) [
      | inl a ↦
          let both : Some own ≡ Some m = a.1 in
          let same : own ≡ m = cc in
          record { then = v.tray; is = sym same ∙ ap (marked v.tray) (sym a.0); plan = refl; world = refl; flat = is.flat; kinds = is.kinds }
      | inr a ↦ is.made n m a.1
    ];
    undoable = λ n m e. elim (set-mark v.marks node n (Some own) m within e) [
      | inl a ↦
          let both : Some own ≡ Some m = a.1 in
          let same : own ≡ m = cc in
          subst (λ (x : SavepointView). CanUndo x v.tray) same (own-mark v.tray v.tray node (on-still v.tray))
      | inr a ↦ is.undoable n m a.1
    ];
    nested = nested-more inner;
  }

  module _ (t : IsTree tree) (s : RunNodes) (of : IsFlatOf v s) where
    abbrev begins : NodeStatus
    begins = Begun (scripts.begin (chain (suite_at v.tray.plan v.tray.world) node) (E.frames_of (s.status ((suite_at v.tray.plan v.tray.world).parent node))))

    abbrev keeps : Resources
    keeps = restricted (may_write scripts (suite_at v.tray.plan v.tray.world) node) s.flat

    saved-here : (n : ℕ) (m : SavepointView) (k : List ℕ) → n ≡ node → Some own ≡ Some m → is_writable (node_rights tree n k) ≡ true → put node keeps s.saved n k ≡ kept_values tree m k
    saved-here n m k here both w =
        let same : own ≡ m = cc in
        let own_right : is_writable (node_rights tree node k) ≡ true = ap (λ (j : ℕ). is_writable (node_rights tree j k)) (sym here) ∙ w in
        let may : may_write scripts (suite_at v.tray.plan v.tray.world) node k ≡ true = ap is_writable (chain-rights tree t v.tray.plan.settings (started v.tray.world) k node) ∙ own_right in
        ap (λ (f : Resources). f k) (put-at node keeps s.saved n here) ∙ ap (λ (b : Bool). cond b (s.flat k) None) may ∙ sym (of.now k)
        ∙ sym (kept-value v.tray node k t is.flat own_right) ∙ ap (λ (x : SavepointView). kept_values tree x k) same

    pub state-entered : 0 < node → IsFlatOf (record { tray = v.tray; marks = more }) (E.entering scripts (suite_at v.tray.plan v.tray.world) node s)
    state-entered pos = record {
      now = of.now;
      marked = marked-put v.marks node (Some own) s.status begins within pos refl of.marked;
      held = held-put v.marks node (Some own) s.status begins within refl of.held;
      saved = λ n m k e w. elim (set-mark v.marks node n (Some own) m within e) [
        | inl a ↦ saved-here n m k a.0 a.1 w
        | inr a ↦ ap (λ (f : Resources). f k) (put_elsewhere n node keeps s.saved a.0) ∙ of.saved n m k a.1 w
      ];
    }

-- a Leave
within-marks : (marks : Marks) (n : ℕ) (m : SavepointView) → mark_at marks n ≡ Some m → n < length marks
within-marks marks n m e = elim (cases_lt n (length marks)) [
  | inl less ↦ less
  | inr past ↦ let nothing : None ≡ Some m = sym (get_or_past marks n None past) ∙ e in absurd (cc)
]

cond-same : (b c : Bool) (p q r s : Option Resource) → b ≡ c → (b ≡ true → p ≡ r) → q ≡ s → cond b p q ≡ cond c r s
cond-same true c p q r s e h g = h refl ∙ ap (λ (x : Bool). cond x r s) e
cond-same false c p q r s e h g = g ∙ ap (λ (x : Bool). cond x r s) e

module _ (v : FlatView) (is : IsFlatMap v) (node : ℕ) (mark : SavepointView) (at : mark_at v.marks node ≡ Some mark) where
  abbrev now_tree : List Row
  now_tree = tree_of v.tray.plan

  abbrev less : Marks
  less = set v.marks node None

  inside : node < length v.marks
  inside = within-marks v.marks node mark at

  made : WasMade v.tray node mark
  made = is.made node mark at

  -- another mark of a value that goes back is of a lower node, and earlier
  later-back : IsInnermost v node → (n : ℕ) (m : SavepointView) → (n ≡ node → ⊥) → mark_at v.marks n ≡ Some m → (i : ℕ) (g : History) → slot m.values i ≡ Some g
      → (o : Option History) → slot mark.values i ≡ o → HasLater (restored mark.values v.tray.values) i g
  later-back inner n m apart e i g has None is_o =
      let old = (is.undoable n m e).later i g has in
      let within = within-of v.tray.values i old.now old.there in
      record { now = old.now; there = restored-at mark.values v.tray.values i within ∙ ap (λ (o : Option History). option_or o (slot v.tray.values i)) is_o ∙ old.there; later = old.later }
  later-back inner n m apart e i g has (Some h) is_o =
      let old = (is.undoable n m e).later i g has in
      let within = within-of v.tray.values i old.now old.there in
      let lower : n < node = inner n (ap is_some e) apart
      (record { key = key_at now_tree i; left = mark-writes v.tray n m i g (is.made n m e) has; right = mark-writes v.tray node mark i h made is_o }) in
      record {
        now = h;
        there = restored-at mark.values v.tray.values i within
            ∙ ap (λ (o : Option History). option_or o (slot v.tray.values i)) is_o;
        later = is.nested n node m mark lower e at i g h has is_o;
      }

  other-undoable : IsInnermost v node → (n : ℕ) (m : SavepointView) → (n ≡ node → ⊥) → mark_at v.marks n ≡ Some m → CanUndo m (undone mark v.tray)
  other-undoable inner n m apart e = record {
    fits = (is.undoable n m e).fits ∙ sym (length-column (λ (i : ℕ). option_or (slot mark.values i) (slot v.tray.values i)) (length v.tray.values));
    later = λ i g has. later-back inner n m apart e i g has (slot mark.values i) refl;
  }

  -- the marks that are left
  left-mark : (n : ℕ) (m : SavepointView) → mark_at less n ≡ Some m → (n ≡ node → ⊥) × (mark_at v.marks n ≡ Some m)
  left-mark n m e = elim (set-mark v.marks node n None m inside e) [
    | inl a ↦ let wrong : None ≡ Some m = a.1 in absurd (cc)
    | inr a ↦ a
  ]

  pub map-left : IsInnermost v node → IsFlatMap (record { tray = undone mark v.tray; marks = less })
  map-left inner = record {
    fits = length-set v.marks node None ∙ is.fits;
    flat = flat-undone v.tray mark is.flat;
    kinds = subst (λ (x : SavepointView). AreOfKinds (undone x v.tray)) (sym made.is) (kinds-undone made.then v.tray node made.flat is.flat (sym made.plan) (sym made.world) made.kinds is.kinds);
    made = λ n m e.
        let w = is.made n m (left-mark n m e).1 in
        record { then = w.then; is = w.is; plan = w.plan; world = w.world; flat = w.flat; kinds = w.kinds };
    undoable = λ n m e. let a = left-mark n m e in other-undoable inner n m a.0 a.1;
    nested = λ p n l m below e f. is.nested p n l m below (left-mark p l e).1 (left-mark n m f).1;
  }

  module _ (t : IsTree now_tree) (s : RunNodes) (of : IsFlatOf v s) (r : Outcome) where
    -- what was saved is what the flat map had at the Enter
    saved-then : (k : List ℕ) → is_writable (node_rights (tree_of made.then.plan) node k) ≡ true → flat made.then k ≡ s.saved node k
    saved-then k w =
        let then_tree : IsTree (tree_of made.then.plan) = subst (λ (p : Planned). IsTree (tree_of p)) (sym made.plan) t in
        let now_right : is_writable (node_rights now_tree node k) ≡ true = ap (λ (p : Planned). is_writable (node_rights (tree_of p) node k)) (sym made.plan) ∙ w in
        sym (of.saved node mark k at now_right ∙ ap (λ (p : Planned). kept_values (tree_of p) mark k) (sym made.plan)
        ∙ ap (λ (x : SavepointView). kept_values (tree_of made.then.plan) x k) made.is ∙ kept-value made.then node k then_tree made.flat w)

    back-at : (k : List ℕ) → flat (undone mark v.tray) k ≡ cond (may_write scripts (suite_at v.tray.plan v.tray.world) node k) (s.saved node k) (s.flat k)
    back-at k =
        let right : is_writable (node_rights (tree_of made.then.plan) node k) ≡ may_write scripts (suite_at v.tray.plan v.tray.world) node k =
        ap (λ (p : Planned). is_writable (node_rights (tree_of p) node k)) made.plan ∙ sym (ap is_writable (chain-rights now_tree t v.tray.plan.settings (started v.tray.world) k node)) in
        ap (λ (x : SavepointView). flat (undone x v.tray) k) made.is
        ∙ ap (λ (m : Resources). m k) (back made.then v.tray node made.flat is.flat (sym made.plan) (sym made.world))
        ∙ cond-same (is_writable (node_rights (tree_of made.then.plan) node k)) (may_write scripts (suite_at v.tray.plan v.tray.world) node k) (flat made.then k) (flat v.tray k)
        (s.saved node k) (s.flat k) right (saved-then k) (of.now k)

    pub state-left : IsFlatOf (record { tray = undone mark v.tray; marks = less }) (finishing scripts (suite_at v.tray.plan v.tray.world) node r s)
    state-left =
        let pos = (of.marked node (ap is_some at)).0 in
        record {
          now = back-at;
          marked = marked-put v.marks node None s.status (Finished r) inside pos refl of.marked;
          held = held-put v.marks node None s.status (Finished r) inside refl of.held;
          saved = λ n m k e w. let a = left-mark n m e in ap (λ (f : Resources). f k) (put_elsewhere n node nothing s.saved a.0) ∙ of.saved n m k a.1 w;
        }

-- a Step
held-with : (st : NodeStatus) (b : Stage) → is_held (with_body st b) ≡ is_held st
held-with Waiting b = refl
held-with (Begun c) b = refl
held-with (Open fs) b = refl
held-with (Barred fs) b = refl
held-with (Closing fs c) b = refl
held-with (Finished r) b = refl

unwritten : (a : Option Access) → is_readable a ≡ false → is_writable a ≡ false
unwritten None e = refl
unwritten (Some a) e = absurd (cc)

module _ (v u : FlatView) (t : IsTree (tree_of v.tray.plan)) (whole : IsFlat v.tray) (on : MapGoesOn v u) (n : ℕ) (b c : Stage)
    (step : going c (content u.tray) ≡ body_step (node_rights (tree_of v.tray.plan) n) (going b (content v.tray))) where
  abbrev rights : Rights
  rights = node_rights (tree_of v.tray.plan) n

  alike : AlikeGoing rights (body_step rights (going b (content v.tray))) (body_step rights (going b (flat v.tray)))
  alike = body-step-alike rights (going b (content v.tray)) (going b (flat v.tray))
      (record { stage = refl; resources = record { same = λ k may. content-flat v.tray k (value-there v.tray n k t whole may) } })

  pub stage-stepped : c ≡ (body_step rights (going b (flat v.tray))).stage
  stage-stepped = ap (λ (g : Going). g.stage) step ∙ alike.stage

  after-by : (k : List ℕ) (may : Bool) → is_readable (rights k) ≡ may → flat u.tray k ≡ (body_step rights (going b (flat v.tray))).resources k
  after-by k true may =
      let has : has_value u.tray k ≡ true = ap (λ (f : List ℕ → Bool). f k) on.tray.there ∙ value-there v.tray n k t whole may in
      sym (content-flat u.tray k has) ∙ ap (λ (g : Going). g.resources k) step ∙ alike.resources.same k may
  after-by k false may =
      let locked : is_writable (rights k) ≡ false = unwritten (rights k) may in
      ap (λ (o : Option Resource). option_or o (started u.tray.world k)) (ap (λ (g : Going). g.resources k) step ∙ body-step-untouched rights k locked (going b (content v.tray)))
      ∙ ap (λ (w : Start). option_or (content v.tray k) (started w k)) on.tray.world
      ∙ sym (body-step-untouched rights k locked (going b (flat v.tray)))

  module _ (s : RunNodes) (of : IsFlatOf v s) where
    abbrev chain_here : Rights
    chain_here = chain_rights (chain (suite_at v.tray.plan v.tray.world) n)

    chain-is : chain_here ≡ rights
    chain-is = λ i k. chain-rights (tree_of v.tray.plan) t v.tray.plan.settings (started v.tray.world) k n i

    flat-is : flat v.tray ≡ s.flat
    flat-is = λ i k. of.now k i

    abbrev stepped : Going
    stepped = body_step chain_here (going b s.flat)

    now-at : (k : List ℕ) → flat u.tray k ≡ stepped.resources k
    now-at k =
        after-by k (is_readable (rights k)) refl ∙ ap (λ (q : Rights). (body_step q (going b (flat v.tray))).resources k) (sym chain-is)
        ∙ ap (λ (m : Resources). (body_step chain_here (going b m)).resources k) flat-is

    held-same : (m : ℕ) → is_held (put n (with_body (s.status n) stepped.stage) s.status m) ≡ is_held (s.status m)
    held-same m = unmoved is_held n (with_body (s.status n) stepped.stage) s.status (held-with (s.status n) stepped.stage) m

    marks-same : (m : ℕ) → mark_at u.marks m ≡ mark_at v.marks m
    marks-same m = ap (λ (marks : Marks). mark_at marks m) on.marks

    pub state-stepped : IsFlatOf u (E.stepping scripts (suite_at v.tray.plan v.tray.world) n s b)
    state-stepped = record {
      now = now-at;
      marked = λ m h. let old = of.marked m (sym (ap is_some (marks-same m)) ∙ h) in (old.0, held-same m ∙ old.1);
      held = λ m pos h. ap is_some (marks-same m) ∙ of.held m pos (sym (held-same m) ∙ h);
      saved = λ m mark k e w.
          of.saved m mark k (sym (marks-same m) ∙ e) (ap (λ (p : Planned). is_writable (node_rights (tree_of p) m k)) (sym on.tray.plan) ∙ w)
          ∙ ap (λ (p : Planned). kept_values (tree_of p) mark k) (sym on.tray.plan);
    }

-- a body stands on what the tray holds where it stands on its flat map
pub stands-flat : (b : Body) (t : TrayView) (n : ℕ) → IsTree (tree_of t.plan) → IsFlat t → rights_of_subject (subject_of b) ≡ node_rights (tree_of t.plan) n → Stands b (flat t) → Stands b (content t)
stands-flat b t n tree whole rights_are stands = record {
  steps = stands.steps;
  stage = stands.stage;
  resources = record {
    same = λ k may. content-flat t k (value-there t n k tree whole (ap (λ (r : Rights). is_readable (r k)) (sym rights_are) ∙ may)) ∙ stands.resources.same k may;
  };
}
