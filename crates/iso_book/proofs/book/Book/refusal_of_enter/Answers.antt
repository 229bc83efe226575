use Rattle.std.proofs.Common.{◌≡◌, true, false, sym}
use Rattle.iso_book.proofs.Homes.{entered-with, may-enter-with, refused-by, stranger-by}
use Rattle.iso_book.specs.Books.{refusal_in}
use Rattle.iso_book.specs.Turns.{MayEnterWith}
use Rattle.iso_standing.specs.CodeEvents.{refused_of}
use Rattle.iso_standing.specs.declared.event.Event.TheVariants as Code
use Rattle.iso_book.proofs.book.Book.refusal_of_enter.Goals as goal

pub returns-in-Some-clause-kind : goal.returns-in-Some-clause-kind
returns-in-Some-clause-kind c =
    let b = c.args.self.now in
    refused-by (refusal_in b (Code.Enter c.args.worker c.args.node)) (MayEnterWith b c.args.node c.args.tray.now) (refused_of c.in-Some.refused) c.in-Some.ensures.kind

pub returns-then-not-enters_with-clause-kind : goal.returns-then-not-enters_with-clause-kind
returns-then-not-enters_with-clause-kind c =
    let b = c.args.self.now in
    let n = c.args.node in
    let t = c.args.tray.now in
    stranger-by (refusal_in b (Code.Enter c.args.worker n)) (MayEnterWith b n t) c.in_default.ensures.kind (λ m.
    let held : c.enters_with.result ≡ true = c.enters_with.ensures.refuses (entered-with b n t c.requires.plan c.requires.world m) in
    let missed : c.enters_with.result ≡ false = c.if-not-enters_with.true in
    absurd cc)

pub returns-clause-kind : goal.returns-clause-kind
returns-clause-kind c = record {
  allowed = sym c.in_default.ensures.kind;
  tray = may-enter-with c.args.self.now c.args.node c.args.tray.now c.requires.plan c.requires.world (c.enters_with.ensures.holds c.if-not-enters_with.false);
}
