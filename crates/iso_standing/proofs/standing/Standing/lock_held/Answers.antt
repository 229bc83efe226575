use Rattle.std.proofs.Common.{◌≡◌, ℕ, Bool, false, Option, None, Some, is_some, option_map, ap, sym, ◌∙◌, refl}
use Rattle.iso_standing.proofs.Below.{lowest-as}
use Rattle.iso_standing.proofs.Looks.{holders-are}
use Rattle.iso_standing.specs.Phases.{bare}
use Rattle.iso_standing.specs.Standings.{nodes_in, phase_at}
use Rattle.iso_isolation.specs.Refusals as Why
use Rattle.iso_isolation.specs.States.{is_held}
use Rattle.iso_plan.specs.Conflicts.{is_in_the_way, lowest_in_the_way}
use Rattle.iso_plan.specs.Planned.{Planned}
use Rattle.iso_plan.specs.RowView.{tree_of}
use Rattle.iso_standing.proofs.standing.Standing.lock_held.Goals as goal

pub returns-in-Some : goal.returns-in-Some
returns-in-Some c = λ start s like.
    let v = c.args.self.now in
    let n = c.args.node in
    let held : ℕ → Bool = λ j. is_held (bare (phase_at v j)) in
    let test : ℕ → Bool = is_in_the_way (tree_of v.plan) held n in
    holders-are v start s like n ∙ ap (option_map Why.LockHeld)
    (lowest-as (nodes_in v) test ∙ ap (λ (p : Planned). lowest_in_the_way (tree_of p) held n) (sym c.plan.ensures) ∙ sym c.lowest_in_the_way.ensures ∙ c.in-Some.is)

pub returns-in-None : goal.returns-in-None
returns-in-None c = λ start s like.
    let v = c.args.self.now in
    let n = c.args.node in
    let held : ℕ → Bool = λ j. is_held (bare (phase_at v j)) in
    let test : ℕ → Bool = is_in_the_way (tree_of v.plan) held n in
    holders-are v start s like n ∙ ap (option_map Why.LockHeld)
    (lowest-as (nodes_in v) test ∙ ap (λ (p : Planned). lowest_in_the_way (tree_of p) held n) (sym c.plan.ensures) ∙ sym c.lowest_in_the_way.ensures ∙ c.in-None.is)

none-there : (o : Option ℕ) → is_some o ≡ false → o ≡ None
none-there None e = refl
none-there (Some n) e = absurd (cc)

pub returns-then-not-excludes : goal.returns-then-not-excludes
returns-then-not-excludes c = λ start s like.
    let v = c.args.self.now in
    let n = c.args.node in
    let held : ℕ → Bool = λ j. is_held (bare (phase_at v j)) in
    let test : ℕ → Bool = is_in_the_way (tree_of v.plan) held n in
    holders-are v start s like n ∙ ap (option_map Why.LockHeld) (lowest-as (nodes_in v) test ∙ none-there (lowest_in_the_way (tree_of v.plan) held n) (sym c.excludes.ensures ∙ c.if-not-excludes.true))
