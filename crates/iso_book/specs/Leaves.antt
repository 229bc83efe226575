-- What a Leave asks of the body and the tray that its worker brings, and how book, tray and receipt
-- stand after it.
--
-- Leave of a book: What is brought to it (`MayBring`); whether the body that is brought is the
-- worker's (`is_of_worker`), and why the Leave is refused but for its tray (`leave_refusal_in`);
-- how book, tray and receipt stand after one that was taken, and after one that wasn't (`IsLeft`,
-- `IsNotLeft`, `after_leave`); a worker's last event, and that it is the Enter or the Shut of a
-- node (`last_of`, `Began`).
use Rattle.std.specs.Prelude.{◌≡◌, ℕ, ◌<◌, List, [], ◌∷◌, Option, Some, None, Bool, true, false, ◌&&◌, ◌==◌, cond, eqb, is_some, length, not, refl}
use Rattle.std.specs.Coded.{Coded, code_by, coded×, coded_ℕ}
use Rattle.std.specs.Option.{option_or}
use Rattle.iso_book.specs.Books.{BookView, state_in, suite_in, with_event}
use Rattle.iso_book.specs.Turns.{GoesOnWith, IsRefusedBy}
use Rattle.iso_isolation.specs.Events.{where_some}
use Rattle.iso_isolation.specs.Refusals as Why
use Rattle.iso_isolation.specs.Refusals.{refuse}
use Rattle.iso_isolation.specs.States.{is_closing}
use Rattle.iso_lifecycle.specs.DoneViews.{DoneView}
use Rattle.iso_lifecycle.specs.declared.kind.BodyKind.{BodyKind}
use Rattle.iso_lifecycle.specs.declared.kind.BodyKind.TheVariants.{BeforeAll, Test, AfterAll}
use Rattle.iso_locks.specs.Moves.{is_written}
use Rattle.iso_locks.specs.Slots.{slot}
use Rattle.iso_locks.specs.Trays.{TrayView}
use Rattle.iso_locks.specs.Vaults.{StandsAtStart, VaultView, giving_back, regaining}
use Rattle.iso_plan.specs.KeyTable.{keys}
use Rattle.iso_plan.specs.Locks.{locks}
use Rattle.iso_plan.specs.Paths.{is_test, row_at}
use Rattle.iso_plan.specs.RowView.{tree_of}
use Rattle.iso_standing.specs.CodeEvents.{worker_of}
use Rattle.iso_standing.specs.declared.event.Event.{Event}
use Rattle.iso_standing.specs.declared.event.Event.TheVariants as Code
use Rattle.iso_suites.specs.SuiteStates.{booking_refusal}

-- the place of a Leave in the history of a book, counted from 0, its worker, and the node that it
-- left
pub record ReceiptView : Type 0 where
  pub number : ℕ
  pub worker : ℕ
  pub node : ℕ

abbrev pub receipt_code : Coded ReceiptView
receipt_code =
    code_by (ℕ × (ℕ × ℕ)) (coded× coded_ℕ (coded× coded_ℕ coded_ℕ))
    (λ r. (r.number, (r.worker, r.node)))
    (λ p. record { number = p.0; worker = p.1.0; node = p.1.1 }) (λ _. refl)

-- whether a body is the last of its node: a whole test, or an `after_all`
abbrev pub is_last : BodyKind → Bool
is_last BeforeAll = false
is_last Test = true
is_last AfterAll = true

-- whether the body under way at a node, where one is, is of this kind
abbrev pub is_under_way : BookView → ℕ → BodyKind → Bool
is_under_way b n BeforeAll =
    not (is_closing ((state_in b).nodes.status n)) && not (is_test (row_at (tree_of b.plan) n).kind)
is_under_way b n Test =
    not (is_closing ((state_in b).nodes.status n)) && is_test (row_at (tree_of b.plan) n).kind
is_under_way b n AfterAll = is_closing ((state_in b).nodes.status n)

-- whether a body was that of a node which is under way there
abbrev pub is_body_at : BookView → DoneView → ℕ → Bool
is_body_at b d n = n == d.subject.node && is_under_way b n d.kind

-- whether a body was the one that a worker has
abbrev pub is_of_worker : BookView → ℕ → DoneView → Bool
is_of_worker b w d = where_some ((state_in b).busy w) false (is_body_at b d)

-- why no Leave of a worker can be taken, whatever it brings
abbrev pub booking_in : BookView → ℕ → Option Why.Refused
booking_in b w = booking_refusal (suite_in b) b.workers (state_in b) w

-- why a Leave is refused whatever tray comes with it, if it is: by the first of these kinds, or
-- else since the body that is brought isn't the worker's
abbrev pub leave_refusal_in : BookView → ℕ → DoneView → Option Why.Refused
leave_refusal_in b w d =
    option_or (booking_in b w) (refuse (not (is_of_worker b w d)) (Why.OtherBody d.subject.node))

-- What may be brought to a Leave: the body is of the tray's plan and starting values, and where it
-- is the last of its node, each value that the node takes for READ_WRITE and that the tray has
-- stands at its start.
pub record MayBring (d : DoneView) (t : TrayView) : Type 0 where
  pub plan : d.subject.plan ≡ t.plan
  pub start : d.subject.start ≡ t.world
  pub at_start : is_last d.kind ≡ true → (i : ℕ) → i < length (keys (tree_of t.plan))
      → is_written (locks (tree_of t.plan) d.subject.node) i ≡ true → is_some (slot t.values i)
      ≡ true → StandsAtStart t i

-- the tray after the Leave of a body: the last one of a node gives the node back
abbrev pub after_leave : BodyKind → ℕ → TrayView → TrayView
after_leave BeforeAll n t = t
after_leave Test n t = giving_back n t
after_leave AfterAll n t = giving_back n t

-- the vault after the Leave of a body: the last one of a node brings the node's values home
abbrev pub home_after : BodyKind → ℕ → VaultView → VaultView
home_after BeforeAll n v = v
home_after Test n v = regaining n v
home_after AfterAll n v = regaining n v

-- a Leave was taken: nothing refuses it, the tray is as asked, the book has this one event more,
-- and the receipt tells of it
pub record IsLeft (w : ℕ) (d : DoneView) (r : ReceiptView) (b c : BookView)
    (t : TrayView) : Type 0 where
  pub allowed : leave_refusal_in b w d ≡ None
  pub tray : GoesOnWith b d.subject.node t
  pub book : c ≡ with_event b (Code.Leave w)
  pub receipt : r ≡ record { number = length b.history; worker = w; node = d.subject.node }

-- a Leave was refused: neither the book nor the tray has changed, and what was brought is handed
-- back
pub record IsNotLeft (kind : Why.Refused) (back : DoneView) (w : ℕ) (d : DoneView) (b c : BookView)
    (t u : TrayView) : Type 0 where
  pub why : IsRefusedBy (leave_refusal_in b w d) (GoesOnWith b d.subject.node t) kind
  pub done : back ≡ d
  pub book : c ≡ b
  pub tray : u ≡ t

-- the node whose body an event begins, if it begins one
abbrev pub begun_by : Event → Option ℕ
begun_by (Code.Enter worker node) = Some node
begun_by (Code.Step worker) = None
begun_by (Code.Leave worker) = None
begun_by (Code.Shut worker node) = Some node

-- the last event of a worker in a history, if it has one
abbrev pub last_of : ℕ → List Event → Option Event
last_of w [] = None
last_of w (e ∷ es) = option_or (last_of w es) (cond (eqb w (worker_of e)) (Some e) None)

-- the last event of a worker is the Enter or the Shut of a node
abbrev pub Began : List Event → ℕ → ℕ → Type 0
Began h w n = where_some (last_of w h) None begun_by ≡ Some n
