use Rattle.std.proofs.Common.{◌≡◌}
use Rattle.iso_book_tests.proofs.opened.expect_refused.Given as goal

abbrev pub invariant-rows : goal.invariant-rows
invariant-rows g l = record {
  plan : l.book.plan ≡ l.fn.book.plan;
  world : l.book.world ≡ l.fn.book.world;
}
