use Rattle.std.proofs.Common.{◌≡◌}
use Rattle.iso_book_tests.proofs.refusals.expect_each.Given as goal

abbrev pub invariant-events : goal.invariant-events
invariant-events g l = record {
  plan : l.book.plan ≡ l.fn.book.plan;
  world : l.book.world ≡ l.fn.book.world;
}
