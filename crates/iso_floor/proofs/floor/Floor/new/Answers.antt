use Rattle.std.proofs.Common.{rules, ◌≡◌, ℕ, ◌*◌, length, replicate, false, ap, ◌∙◌, arith}
use Rattle.iso_plan.specs.Planned.{Planned}
use Rattle.iso_floor.proofs.floor.Floor.new.Goals as goal

pub invariant_of-result : goal.invariant_of-result
invariant_of-result g c =
    let rows : c.len.result ≡ length g.G.Ground.plan.rows = c.len.ensures ∙ ap (λ (p : Planned). length p.rows) c.requires.plan in
    let events : c.len.result * 4 ≡ 4 * length g.G.Ground.plan.rows = omega (arith, rows) in
    record {
      plan_is = c.requires.plan;
      world_is = c.requires.start;
      workers_are = c.requires.workers;
      clear = c.in_ok-vec.ensures.items_if_clones_equal (λ y h. search rules) ∙ ap (λ (n : ℕ). replicate n false) events;
    }
