-- What contracts see of a seat, and how it stands after a worker's call.
--
-- floor: A worker's number, its tray, its receipts and the room for them (`SeatView`), and how a
-- seat stands after a Leave (`HasLeft`); trays and books of one plan and start (`IsTrayOf`,
-- `IsBookOf`); a book that is whole beside the receipts of seats (`IsWhole`), and why none is
-- handed out (`IsCloseFault`); why a worker gets no seat (`IsSeatFault`, `IsPlaceFault`).
-- Also in: `Grounds`, `Closing`.
use Rattle.std.specs.Prelude.{◌≡◌, ◌*◌, ℕ, Bool, List, [], ◌∷◌, ◌++◌, length, map, refl}
use Rattle.std.proofs.Common.{◌∙◌}
use Rattle.std.specs.Coded.{Coded, code_by, coded×, coded_list, coded_ℕ}
use Rattle.iso_book.specs.Leaves.{ReceiptView, after_leave, receipt_code}
use Rattle.iso_lifecycle.specs.DoneViews.{DoneView}
use Rattle.iso_locks.specs.Onward.{onward-further, onward-still, onward-writes}
use Rattle.iso_locks.specs.Trays.{IsOnward, TrayView, content, empty_tray, has_value, tray_code}
use Rattle.iso_model.specs.Resources.{Resources}
use Rattle.iso_plan.specs.Planned.{Planned}
use Rattle.iso_settings.specs.Worlds.{Start}

-- a worker's number, its tray, the receipts of its Leaves, in the order of its calls, and how many
-- of them it has room for
pub record SeatView : Type 0 where
  pub worker : ℕ
  pub tray : TrayView
  pub receipts : List ReceiptView
  pub room : ℕ

abbrev pub seat_code : Coded SeatView
seat_code =
    code_by (ℕ × (TrayView × (List ReceiptView × ℕ)))
    (coded× coded_ℕ (coded× tray_code (coded× (coded_list receipt_code) coded_ℕ)))
    (λ s. (s.worker, (s.tray, (s.receipts, s.room))))
    (λ p. record { worker = p.0; tray = p.1.0; receipts = p.1.1.0; room = p.1.1.1 }) (λ _. refl)

-- a seat to whose tray nothing is lent, and which has no receipt, and room for two Leaves of each
-- node
abbrev pub new_seat : Planned → Start → ℕ → SeatView
new_seat plan start worker = record {
  worker = worker;
  tray = empty_tray plan start;
  receipts = [];
  room = 2 * length plan.rows;
}

-- the receipts of seats, list by list
abbrev pub lists_of : List SeatView → List (List ReceiptView)
lists_of seats = map (λ s. s.receipts) seats

-- a seat after a Leave: its tray gave back what the body's node was lent, if this was its last
-- body, and one receipt more is its last, of its worker and this node
pub record HasLeft (d : DoneView) (old new : SeatView) : Type 0 where
  pub number : ℕ
  pub worker : new.worker ≡ old.worker
  pub tray : new.tray ≡ after_leave d.kind d.subject.node old.tray
  pub receipts : new.receipts ≡ old.receipts
      ++ record { number = number; worker = old.worker; node = d.subject.node } ∷ []
  pub room : new.room ≡ old.room

-- the resources that a seat holds, and whether it may change one: its tray's
abbrev pub seat_content : SeatView → Resources
seat_content s = content s.tray

abbrev pub seat_has_value : SeatView → List ℕ → Bool
seat_has_value s k = has_value s.tray k

-- a seat whose tray alone has gone on, by changes of values
pub record SeatGoesOn (old new : SeatView) : Type 0 where
  pub worker : new.worker ≡ old.worker
  pub tray : IsOnward old.tray new.tray
  pub receipts : new.receipts ≡ old.receipts
  pub room : new.room ≡ old.room

pub seat-still : (s : SeatView) → SeatGoesOn s s
seat-still s = record { worker = refl; tray = onward-still s.tray; receipts = refl; room = refl }

pub seat-further : (s t u : SeatView) → SeatGoesOn s t → SeatGoesOn t u → SeatGoesOn s u
seat-further s t u a b = record {
  worker = b.worker ∙ a.worker;
  tray = onward-further s.tray t.tray u.tray a.tray b.tray;
  receipts = b.receipts ∙ a.receipts;
  room = b.room ∙ a.room;
}

pub seat-writes : (s t : SeatView) → SeatGoesOn s t → seat_has_value t ≡ seat_has_value s
seat-writes s t a = onward-writes s.tray t.tray a.tray
