use Rattle.std.proofs.Common.{◌≡◌, ℕ, ◌<◌, ◌≤◌, ◌-◌, length, cond, eqb}
use Rattle.iso_standing.specs.Standings.{nodes_in, phase_at, phase_under}
use Rattle.iso_standing.specs.declared.phase.Phase.TheVariants.{Barred}
use Rattle.iso_plan.specs.Paths.{parent}
use Rattle.iso_plan.specs.RowView.{tree_of}
use Rattle.iso_standing.proofs.standing.Standing.bar.Given as goal

abbrev pub invariant-inside : goal.invariant-inside
invariant-inside l = record {
  rest : l.self ≡ record l.fn.self { phases = l.self.phases };
  long : length l.self.phases ≡ nodes_in l.fn.self;
  behind : l.class < l.node;
  inside : (m : ℕ) → l.class < m → m < l.node → l.class ≤ parent (tree_of l.fn.self.plan) m;
  before : (m : ℕ) → m < l.node → phase_at l.self m ≡ cond (eqb m l.class) Barred (phase_under l.fn.self l.class m);
  later : (m : ℕ) → l.node ≤ m → phase_at l.self m ≡ cond (eqb m l.class) Barred (phase_at l.fn.self m);
}

abbrev pub decreases-inside : goal.decreases-inside
decreases-inside l = l.nodes - l.node
