use Rattle.std.proofs.Common.{◌≡◌, ℕ, Option, Some, None, Bool, true, false, ◌&&◌, option_map, refl, ap, ap₂, sym, ◌∙◌, subst}
use Rattle.iso_book.specs.Books.{BookView}
use Rattle.iso_book.specs.Leaves.{leave_refusal_in}
use Rattle.iso_book.specs.Turns.{GoesOnWith, IsRefusedBy, has_around}
use Rattle.iso_isolation.specs.Refusals as Why
use Rattle.iso_isolation.specs.Refusals.{Refused}
use Rattle.iso_locks.specs.Trays.{TrayView, is_lent}
use Rattle.iso_standing.specs.CodeEvents.{refused_of}
use Rattle.iso_suites.proofs.StateRuns.{both-true}
use Rattle.iso_book.proofs.book.Book.refusal_of_leave.Goals as goal

pub returns-in-Some : goal.returns-in-Some
returns-in-Some c =
    let b : BookView = c.args.self.now in
    let d = c.args.done.now in
    let t : TrayView = c.args.tray.now in
    let told : Some (refused_of c.in-Some.refused) ≡ leave_refusal_in b c.args.worker d =
    sym (ap (option_map refused_of) c.in-Some.is) ∙ c.kind_of_leave.ensures.kind in
    subst (λ (o : Option Refused). IsRefusedBy o (GoesOnWith b d.subject.node t) (refused_of c.in-Some.refused)) told refl

pub returns-then-not-goes_on_with : goal.returns-then-not-goes_on_with
returns-then-not-goes_on_with c =
    let b : BookView = c.args.self.now in
    let d = c.args.done.now in
    let t : TrayView = c.args.tray.now in
    let told : None ≡ leave_refusal_in b c.args.worker d = sym (ap (option_map refused_of) c.in_default.is) ∙ c.kind_of_leave.ensures.kind in
    let ill : (has_around t d.subject.node && is_lent t.lent d.subject.node) ≡ false =
    ap (λ (m : ℕ). has_around t m && is_lent t.lent m) (sym c.node.ensures) ∙ sym c.goes_on_with.ensures ∙ c.if-not-goes_on_with.true in
    subst (λ (o : Option Refused). IsRefusedBy o (GoesOnWith b d.subject.node t) Why.Stranger) told (
      refl,
      λ (asked : GoesOnWith b d.subject.node t).
          let well : (has_around t d.subject.node && is_lent t.lent d.subject.node) ≡ true = ap₂ (λ (p q : Bool). p && q) asked.own.around asked.lent in
          cc,
    )

pub returns : goal.returns
returns c =
    let b : BookView = c.args.self.now in
    let d = c.args.done.now in
    let t : TrayView = c.args.tray.now in
    let told : leave_refusal_in b c.args.worker d ≡ None = sym c.kind_of_leave.ensures.kind ∙ ap (option_map refused_of) c.in_default.is in
    let well : (has_around t d.subject.node && is_lent t.lent d.subject.node) ≡ true =
    ap (λ (m : ℕ). has_around t m && is_lent t.lent m) (sym c.node.ensures) ∙ sym c.goes_on_with.ensures ∙ c.if-not-goes_on_with.false in
    let parts = both-true (has_around t d.subject.node) (is_lent t.lent d.subject.node) well in
    record {
      allowed = told;
      tray = record { own = record { plan = c.requires.plan; world = c.requires.world; around = parts.0 }; lent = parts.1 };
    }
