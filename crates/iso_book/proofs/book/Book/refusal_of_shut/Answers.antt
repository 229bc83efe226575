use Rattle.std.proofs.Common.{◌≡◌, ◌&&◌, false, sym, ◌∙◌}
use Rattle.iso_book.proofs.Homes.{went-on-with, may-go-on-with, refused-by, stranger-by}
use Rattle.iso_book.specs.Books.{refusal_in}
use Rattle.iso_book.specs.Turns.{GoesOnWith, has_around}
use Rattle.iso_locks.specs.Trays.{is_lent}
use Rattle.iso_standing.specs.CodeEvents.{refused_of}
use Rattle.iso_standing.specs.declared.event.Event.TheVariants as Code
use Rattle.iso_book.proofs.book.Book.refusal_of_shut.Goals as goal

pub returns-in-Some : goal.returns-in-Some
returns-in-Some c =
    let b = c.args.self.now in
    refused-by (refusal_in b (Code.Shut c.args.worker c.args.node)) (GoesOnWith b c.args.node c.args.tray.now) (refused_of c.in-Some.refused) c.in-Some.ensures.kind

pub returns-then-not-goes_on_with : goal.returns-then-not-goes_on_with
returns-then-not-goes_on_with c =
    let b = c.args.self.now in
    let n = c.args.node in
    let t = c.args.tray.now in
    stranger-by (refusal_in b (Code.Shut c.args.worker n)) (GoesOnWith b n t) c.in_default.ensures.kind (λ m.
    let held = went-on-with b n t c.requires.plan c.requires.world m in
    let missed : (has_around t n && is_lent t.lent n) ≡ false = sym c.goes_on_with.ensures ∙ c.if-not-goes_on_with.true in
    absurd cc)

pub returns : goal.returns
returns c = record {
  allowed = sym c.in_default.ensures.kind;
  tray = may-go-on-with c.args.self.now c.args.node c.args.tray.now c.requires.plan c.requires.world (sym c.goes_on_with.ensures ∙ c.if-not-goes_on_with.false);
}
