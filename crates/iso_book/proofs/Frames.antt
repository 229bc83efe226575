-- The frames that are handed before a body begins, and what its beginning asks for.
use Rattle.std.proofs.Common.{◌≡◌, ℕ, zero, suc, ◌<◌, List, length, map, reverse, true, false, Result, Ok, Err, OnOk, refl, ap, sym, ◌∙◌, subst, arith}
use Rattle.std.specs.Prelude.{unwrap_or}
use Rattle.iso_book.specs.Turns.{BeginsIn, frames_of, handed}
use Rattle.iso_lifecycle.specs.ResultViews.{ResultsView}
use Rattle.iso_lifecycle.specs.Subjects.{Subject, enclosing, framed, is_kind_of, opening_of, subject}
use Rattle.iso_lifecycle.specs.WholeBodies.{CanBegin}
use Rattle.iso_lifecycle.specs.declared.kind.BodyKind.{BodyKind}
use Rattle.iso_lifecycle.specs.declared.kind.BodyKind.TheVariants.{BeforeAll, Test, AfterAll}
use Rattle.iso_locks.specs.Trays.{TrayView, frames_on}
use Rattle.iso_plan.specs.Paths.{IsTree, is_class_or_test, is_test, parent, parent_of, path, row_at}
use Rattle.iso_plan.specs.Planned.{Planned}
use Rattle.iso_plan.specs.RowView.{tree_of}
use Rattle.iso_plan.specs.Tree.{Kind, Row, root, class_node, test_node}
use Rattle.iso_settings.specs.Worlds.{Start}
use Rattle.iso_standing.proofs.Looks.{nodes-are}
use Rattle.iso_standing.specs.UnderWay.{is_after_all}

pub parent-is : (tree : List Row) (n m : ℕ) → 0 < n → m ≡ unwrap_or (parent_of tree n) 0 → m ≡ parent tree n
parent-is tree zero m pos e = absurd (omega (arith, pos))
parent-is tree (suc n) m pos e = e

-- the frames on results are those of the tray's plan and world
pub handed-is : (r : ResultsView) (t u : TrayView) (class : ℕ) → r.plan ≡ t.plan → r.start ≡ t.world → u ≡ record t { frames = frames_on r class } → u ≡ handed t class
handed-is r t u class p s e =
    e
    ∙ ap (λ (q : Planned). record t { frames = map (subject q r.start) (reverse (path (tree_of q) class)) }) p
    ∙ ap (λ (w : Start). record t { frames = map (subject t.plan w) (reverse (path (tree_of t.plan) class)) }) s

first-framed : (k : BodyKind) (s : Subject) → is_after_all k ≡ false → framed k s ≡ reverse (path (tree_of s.plan) (parent (tree_of s.plan) s.node))
first-framed BeforeAll s e = refl
first-framed Test s e = refl
first-framed AfterAll s e = absurd cc

closing-fits : (k : Kind) → is_class_or_test k ≡ true → is_test k ≡ false → is_kind_of AfterAll k ≡ true
closing-fits root w e = absurd cc
closing-fits (class_node isolated head) w e = refl
closing-fits (test_node head) w e = absurd cc

module _ (plan : Planned) (world : Start) (n : ℕ) (t : TrayView) (of_plan : t.plan ≡ plan) (of_world : t.world ≡ world) (inner : 0 < n) (within : n < length plan.rows)
    (well : (opening_of (enclosing (subject plan world n))).well ≡ true) where
  within-tray : n < length t.plan.rows
  within-tray = subst (λ (p : Planned). n < length p.rows) (sym of_plan) within

  well-tray : (opening_of (enclosing (subject t.plan t.world n))).well ≡ true
  well-tray =
      subst (λ (p : Planned). (opening_of (enclosing (subject p t.world n))).well ≡ true) (sym of_plan)
      (subst (λ (s : Start). (opening_of (enclosing (subject plan s n))).well ≡ true) (sym of_world) well)

  -- what a node is entered with may begin
  begins-around : BeginsIn n (handed t (parent (tree_of t.plan) n))
  begins-around = λ kind opens fits. record {
    inner = inner;
    within = within-tray;
    fits = fits;
    frames = ap (map (subject t.plan t.world)) (sym (first-framed kind (subject t.plan t.world n) opens));
    well = well-tray;
  }

  pub begins-in : (u : TrayView) → u ≡ handed t (parent (tree_of t.plan) n) → BeginsIn n u
  begins-in u e = subst (BeginsIn n) (sym e) begins-around

  -- and so may an `after_all`
  closing-around : IsTree (tree_of t.plan) → is_test (row_at (tree_of t.plan) n).kind ≡ false → CanBegin (subject t.plan t.world n) AfterAll (frames_of t n)
  closing-around tree class = record {
    inner = inner;
    within = within-tray;
    fits = closing-fits (row_at (tree_of t.plan) n).kind (tree.full n inner (let count = nodes-are t.plan in let less = within-tray in omega arith)) class;
    frames = refl;
    well = well-tray;
  }

  pub closes-in : (u : TrayView) → u ≡ handed t n → IsTree (tree_of plan) → is_test (row_at (tree_of plan) n).kind ≡ false → CanBegin (subject u.plan u.world n) AfterAll u.frames
  closes-in u e tree class =
      subst (λ (q : TrayView). CanBegin (subject q.plan q.world n) AfterAll q.frames) (sym e)
      (closing-around (subst (λ (p : Planned). IsTree (tree_of p)) (sym of_plan) tree) (ap (λ (p : Planned). is_test (row_at (tree_of p) n).kind) of_plan ∙ class))

-- what holds on Ok of what else holds then
pub on-ok : {A E : Type 0} {P Q : Type 0} (r : Result A E) → OnOk r P → (P → Q) → OnOk r Q
on-ok (Ok x) p f = f p
on-ok (Err e) p f = tt

abbrev BeginsWith : ℕ → Planned → Start → List Subject → Type 0
BeginsWith n plan world frames = (kind : BodyKind) → is_after_all kind ≡ false → is_kind_of kind (row_at (tree_of plan) n).kind ≡ true → CanBegin (subject plan world n) kind frames

-- what may begin with a tray's frames, may begin with those of another of the same plan, world and frames
pub begins-still : (n : ℕ) (t u : TrayView) → u.plan ≡ t.plan → u.world ≡ t.world → u.frames ≡ t.frames → BeginsIn n t → BeginsIn n u
begins-still n t u p w f b =
    subst (λ (q : Planned). BeginsWith n q u.world u.frames) (sym p)
    (subst (λ (s : Start). BeginsWith n t.plan s u.frames) (sym w) (subst (λ (fs : List Subject). BeginsWith n t.plan t.world fs) (sym f) b))
