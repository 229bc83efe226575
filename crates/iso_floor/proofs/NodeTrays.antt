-- The tray of a worker from the Enter of a node to its Leave, where it has the values of all writers on the node's path.
use Rattle.std.proofs.Common.{◌≡◌, ℕ, ◌<◌, List, length, Some, true, false, ◌⊎◌, inl, inr, refl, sym, ap, ap₂, ◌∙◌, subst, arith}
use Rattle.iso_book.specs.Leaves.{MayBring, after_leave, is_last}
use Rattle.iso_book.specs.Turns.{IsEntered, IsShut, handed}
use Rattle.iso_lifecycle.specs.DoneViews.{DoneView}
use Rattle.iso_lifecycle.specs.Subjects.{Subject, is_kind_of, opening_of, subject}
use Rattle.iso_lifecycle.specs.WholeBodies.{CanBegin}
use Rattle.iso_lifecycle.specs.declared.kind.BodyKind.{BodyKind}
use Rattle.iso_lifecycle.specs.declared.kind.BodyKind.TheVariants.{BeforeAll, Test, AfterAll}
use Rattle.iso_locks.proofs.LawLemmas.{own-mark}
use Rattle.iso_locks.specs.Moves.{is_written}
use Rattle.iso_locks.specs.Trays.{CanUndo, GoesOn, SavepointView, TrayView, key_at, marked, undone}
use Rattle.iso_locks.specs.Vaults.{IsLentTo, giving_back, value_in}
use Rattle.iso_plan.specs.Locks.{locks}
use Rattle.iso_plan.specs.Paths.{IsTree, is_test, parent, row_at}
use Rattle.iso_plan.specs.Planned.{Planned}
use Rattle.iso_plan.specs.RowView.{tree_of}
use Rattle.iso_plan.specs.Tree.{Row}
use Rattle.iso_serial.proofs.LeaveLemmas.{at-start, home-further, home-stands}
use Rattle.iso_serial.proofs.OpeningLemmas.{opened-by}
use Rattle.iso_serial.proofs.ReadyLemmas.{closing-ready, opening-ready, test-ready}
use Rattle.iso_serial.proofs.ResultLemmas.{true-or-false}
use Rattle.iso_serial.proofs.StepLemmas.{class-fits, test-fits}
use Rattle.iso_serial.proofs.TrayLemmas.{closed-apart, lent-stands, opened-stands, tested-apart}
use Rattle.iso_serial.specs.OpenedTrays.{IsTrayAfter, StandsApart, StandsAsOpened}
use Rattle.iso_settings.specs.Worlds.{Start, starting_value_in}
use Rattle.iso_floor.specs.Workers.{CanPerform, FurtherFromEntry, IsAtEntry, IsEnclosed, IsInside, IsLastOf}

-- a body begins with the same frames for an equal plan and equal starting values
pub begin-in : (p q : Planned) (w x : Start) (n : ℕ) (kind : BodyKind) (fs : List Subject) → p ≡ q → w ≡ x → CanBegin (subject p w n) kind fs → CanBegin (subject q x n) kind fs
begin-in p q w x n kind fs e f c =
    let there = subst (λ (y : Planned). CanBegin (subject y w n) kind fs) e c in
    subst (λ (y : Start). CanBegin (subject q y n) kind fs) f there

-- frames don't count
pub stands-handed : (plan : Planned) (start : Start) (n p : ℕ) (t : TrayView) (fs : List Subject) → StandsAsOpened plan start n p t → StandsAsOpened plan start n p (record t { frames = fs })
stands-handed plan start n p t fs s =
    let h = s.holds in
    record { holds = record { plan_is = h.plan_is; world_is = h.world_is; there = h.there; only = h.only }; values = s.values }

pub further-handed : (t u : TrayView) (fs : List Subject) → GoesOn (record t { frames = fs }) u → GoesOn t u
further-handed t u fs g = record { fits = g.fits; only = g.only; later = g.later }

-- the last body of a node gives the node back
gives-back : (k : BodyKind) (n : ℕ) (t : TrayView) → is_last k ≡ true → after_leave k n t ≡ giving_back n t
gives-back BeforeAll n t e = absurd (cc)
gives-back Test n t e = refl
gives-back AfterAll n t e = refl

module _ (plan : Planned) (start : Start) where
  abbrev tr : List Row
  tr = tree_of plan

  well-by : (n : ℕ) (fs : List Subject) → IsTree tr → 0 < n → n < length plan.rows
      → ((kind : BodyKind) → (kind ≡ BeforeAll) ⊎ (kind ≡ Test) → is_kind_of kind (row_at tr n).kind ≡ true → CanBegin (subject plan start n) kind fs)
      → (opening_of (subject plan start (parent tr n))).well ≡ true
  well-by n fs tree pos within begins = elim (true-or-false (is_test (row_at tr n).kind)) [
    | inl test ↦ (begins Test (inr refl) (test-fits (row_at tr n).kind test)).well
    | inr class ↦ (begins BeforeAll (inl refl) (class-fits (row_at tr n).kind class (tree.full n pos within)).0).well
  ]

  -- a node is entered with a tray on which all stands as its parent's opening has left it
  pub entry-of : (n : ℕ) (t u : TrayView) → IsTree tr → 0 < n → n < length plan.rows → StandsAsOpened plan start (parent tr n) (parent tr n) t → IsEntered n t u → IsAtEntry plan start n u
  entry-of n t u tree pos within st e =
      let h = st.holds in
      let from = handed t (parent (tree_of t.plan) n) in
      let l : IsLentTo n from u = e.lent in
      let up : u.plan ≡ plan = l.plan ∙ h.plan_is in
      let uw : u.world ≡ start = l.world ∙ h.world_is in
      record {
        enclosed = record {
          tree = tree;
          inner = pos;
          within = within;
          well = well-by n u.frames tree pos within (λ kind first fits. elim first [
            | inl opening ↦ begin-in u.plan plan u.world start n kind u.frames up uw (e.begins kind (rw opening refl) (ap (λ (p : Planned). is_kind_of kind (row_at (tree_of p) n).kind) up ∙ fits))
            | inr test ↦ begin-in u.plan plan u.world start n kind u.frames up uw (e.begins kind (rw test refl) (ap (λ (p : Planned). is_kind_of kind (row_at (tree_of p) n).kind) up ∙ fits))
          ]);
        };
        lent = l.holds;
        begins = λ kind first fits. begin-in u.plan plan u.world start n kind u.frames up uw (e.begins kind first (ap (λ (p : Planned). is_kind_of kind (row_at (tree_of p) n).kind) up ∙ fits));
        tray = lent-stands plan start tree from u n pos within (stands-handed plan start (parent tr n) (parent tr n) t from.frames st) l;
      }

  -- its bodies can be done
  pub test-can : (n : ℕ) (t : TrayView) → IsAtEntry plan start n t → is_test (row_at tr n).kind ≡ true → CanPerform plan start Test n t
  test-can n t at test =
      let e = at.enclosed in
      record { begins = at.begins Test refl (test-fits (row_at tr n).kind test); ready = test-ready plan start e.tree n t e.inner e.within at.lent test at.tray }

  pub opening-can : (n : ℕ) (t : TrayView) → IsAtEntry plan start n t → is_test (row_at tr n).kind ≡ false → CanPerform plan start BeforeAll n t
  opening-can n t at class =
      let e = at.enclosed in
      record {
        begins = at.begins BeforeAll refl (class-fits (row_at tr n).kind class (e.tree.full n e.inner e.within)).0;
        ready = opening-ready plan start e.tree n t e.inner e.within at.lent at.tray;
      }

  pub shut-stands : (n : ℕ) (t u : TrayView) → StandsAsOpened plan start n n t → IsShut n t u → StandsAsOpened plan start n n u
  shut-stands n t u st s = subst (λ (x : TrayView). StandsAsOpened plan start n n x) (sym s.tray) (stands-handed plan start n n t (handed t n).frames st)

  pub closing-can : (n : ℕ) (t u : TrayView) → IsTree tr → StandsAsOpened plan start n n t → IsShut n t u → CanPerform plan start AfterAll n u
  closing-can n t u tree st s =
      let st2 = shut-stands n t u st s in
      let begins = begin-in u.plan plan u.world start n AfterAll u.frames st2.holds.plan_is st2.holds.world_is s.begins in
      record { begins = begins; ready = closing-ready plan start tree n u begins.inner begins.within s.lent st2 }

  -- what they leave
  pub tested : (n : ℕ) (t u : TrayView) → IsAtEntry plan start n t → IsTrayAfter plan start Test n t u → StandsApart plan start n u
  tested n t u at d = tested-apart plan start at.enclosed.tree t u n at.tray d

  pub opened : (n : ℕ) (t u : TrayView) → IsAtEntry plan start n t → is_test (row_at tr n).kind ≡ false → IsTrayAfter plan start BeforeAll n t u → IsInside plan start n u
  opened n t u at class d =
      let e = at.enclosed in
      record { tree = e.tree; within = e.within; tray = opened-stands plan start e.tree t u n (opened-by plan start n e.tree e.inner e.within class e.well) at.tray d }

  pub closed : (n : ℕ) (t u : TrayView) → IsEnclosed plan start n → is_test (row_at tr n).kind ≡ false
      → StandsAsOpened plan start n n t → IsTrayAfter plan start AfterAll n t u → StandsApart plan start n u
  closed n t u e class st d = closed-apart plan start e.tree t u n (opened-by plan start n e.tree e.inner e.within class e.well) st d

  -- the last body of a node is told by its kind
  pub last-by : (n : ℕ) (k : BodyKind) (d : DoneView) → is_last k ≡ true → d ≡ record { subject = subject plan start n; kind = k } → IsLastOf plan start n d
  last-by n k d last e = record { subject_is = ap (λ (x : DoneView). x.subject) e; last = ap (λ (x : DoneView). is_last x.kind) e ∙ last }

  -- a body that isn't the last of its node asks nothing of the values
  pub brings-opening : (n : ℕ) (d : DoneView) (t : TrayView) → d ≡ record { subject = subject plan start n; kind = BeforeAll } → t.plan ≡ plan → t.world ≡ start → MayBring d t
  brings-opening n d t e tp tw = record {
    plan = ap (λ (x : DoneView). x.subject.plan) e ∙ sym tp;
    start = ap (λ (x : DoneView). x.subject.start) e ∙ sym tw;
    at_start = λ last i less writes some. let wrong : false ≡ true = sym (ap (λ (x : DoneView). is_last x.kind) e) ∙ last in absurd (cc);
  }

  -- a node was entered with v, and its bodies left w: the mark is undone, and the node is left
  module _ (n : ℕ) (v w : TrayView) (at : IsAtEntry plan start n v) (aw : StandsApart plan start n w) (on : GoesOn v w) where
    abbrev back : TrayView
    back = undone (marked v n) w

    abbrev e : IsEnclosed plan start n
    e = at.enclosed

    pub may-undo : (m : SavepointView) → m ≡ marked v n → CanUndo m w
    may-undo m is = subst (λ (x : SavepointView). CanUndo x w) (sym is) (own-mark v w n on)

    back-is : (m : SavepointView) (b : TrayView) → m ≡ marked v n → b ≡ undone m w → b ≡ back
    back-is m b is be = be ∙ ap (λ (x : SavepointView). undone x w) is

    starts : (i : ℕ) → is_written (locks tr n) i ≡ true → value_in back.values i ≡ Some (starting_value_in start (key_at tr i))
    starts = at-start plan start e.tree v w n e.inner e.within at.tray on aw

    brings-back : (d : DoneView) → IsLastOf plan start n d → MayBring d back
    brings-back d last =
        let h = aw.holds in
        record {
          plan = ap (λ (x : Subject). x.plan) last.subject_is ∙ sym h.plan_is;
          start = ap (λ (x : Subject). x.start) last.subject_is ∙ sym h.world_is;
          at_start = λ is i less writes some.
              let own : is_written (locks tr n) i ≡ true = sym (ap₂ (λ (p : Planned) (m : ℕ). is_written (locks (tree_of p) m) i) h.plan_is (ap (λ (x : Subject). x.node) last.subject_is)) ∙ writes in
              starts i own ∙ sym (ap₂ (λ (p : Planned) (x : Start). Some (starting_value_in x (key_at (tree_of p) i))) h.plan_is h.world_is);
        }

    pub may-bring : (m : SavepointView) (b : TrayView) (d : DoneView) → m ≡ marked v n → b ≡ undone m w → IsLastOf plan start n d → MayBring d b
    may-bring m b d is be last = subst (λ (x : TrayView). MayBring d x) (sym (back-is m b is be)) (brings-back d last)

    home-is : (m : SavepointView) (b h : TrayView) (d : DoneView) → m ≡ marked v n → b ≡ undone m w → IsLastOf plan start n d → h ≡ after_leave d.kind d.subject.node b → h ≡ giving_back n back
    home-is m b h d is be last he =
        he ∙ gives-back d.kind d.subject.node b last.last ∙ ap₂ (λ (j : ℕ) (x : TrayView). giving_back j x) (ap (λ (x : Subject). x.node) last.subject_is) (back-is m b is be)

    pub left : (m : SavepointView) (b h : TrayView) (d : DoneView) → m ≡ marked v n → b ≡ undone m w
        → IsLastOf plan start n d → h ≡ after_leave d.kind d.subject.node b → IsInside plan start (parent tr n) h
    left m b h d is be last he =
        let below = e.tree.below n e.inner in
        let less = e.within in
        record {
          tree = e.tree;
          within = omega (arith, below, less);
          tray = subst (λ (x : TrayView). StandsAsOpened plan start (parent tr n) (parent tr n) x) (sym (home-is m b h d is be last he))
              (home-stands plan start e.tree v w n e.inner e.within at.tray on aw);
        }

    pub left-further : (m : SavepointView) (b h : TrayView) (d : DoneView) → m ≡ marked v n → b ≡ undone m w
        → IsLastOf plan start n d → h ≡ after_leave d.kind d.subject.node b → FurtherFromEntry plan start n v h
    left-further m b h d is be last he before st lent =
        subst (λ (x : TrayView). GoesOn before x) (sym (home-is m b h d is be last he)) (home-further plan start e.tree v w n e.inner e.within at.tray on aw before st lent)
