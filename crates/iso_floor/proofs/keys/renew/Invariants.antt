use Rattle.std.proofs.Common.{◌≡◌, ◌<◌, ◌||◌, ℕ, drop}
use Rattle.iso_desk.specs.Marking.{has}
use Rattle.iso_floor.specs.KeyMarks.{AreMarks, is_taken, renewed}
use Rattle.iso_model.specs.declared.access.Access.TheVariants.{Read, Write}
use Rattle.iso_plan.specs.RowView.{tree_of}
use Rattle.iso_floor.proofs.keys.renew.Given as goal

abbrev pub invariant-locks : goal.invariant-locks
invariant-locks l = record {
  marks : AreMarks (record { held = l.held; written = l.written });
  written : (k : ℕ) → k < 256
      → renewed (drop l.lock-index l.locks) k (is_taken (tree_of l.nodes.plan) l.nodes.held Write k) (has l.written k)
      ≡ renewed l.locks k (is_taken (tree_of l.nodes.plan) l.nodes.held Write k) (has l.initial.written k);
  held : (k : ℕ) → k < 256
      → renewed (drop l.lock-index l.locks) k (is_taken (tree_of l.nodes.plan) l.nodes.held Write k || is_taken (tree_of l.nodes.plan) l.nodes.held Read k) (has l.held k)
      ≡ renewed l.locks k (is_taken (tree_of l.nodes.plan) l.nodes.held Write k || is_taken (tree_of l.nodes.plan) l.nodes.held Read k) (has l.initial.held k);
}
