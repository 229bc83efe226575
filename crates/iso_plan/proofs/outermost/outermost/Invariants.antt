use Rattle.std.proofs.Common.{◌≡◌, ℕ, Bool, length, map}
use Rattle.iso_plan.specs.Paths.{column, outermost, path}
use Rattle.iso_plan.specs.RowView.{row_of}
use Rattle.iso_plan.proofs.outermost.outermost.Given as goal

abbrev pub invariant-nodes : goal.invariant-nodes
invariant-nodes l = record {
  each : length l.found.items ≡ l.n;
  found_are : (test : ℕ → Bool) → l.passes ≡ column test (length l.rows) → l.found.items ≡ column (λ n. outermost test (path (map row_of l.rows) n)) l.n;
}
