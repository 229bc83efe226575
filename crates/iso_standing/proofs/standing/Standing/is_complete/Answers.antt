use Rattle.std.proofs.Common.{◌≡◌, ℕ, ◌<◌, ◌&&◌, Bool, true, false, not, ap, ap₂, sym, ◌∙◌, arith, inl, inr, refl}
use Rattle.std.proofs.lemmas.Bool.{cases_eq}
use Rattle.iso_standing.proofs.Below.{any-at, any-none, root-not}
use Rattle.iso_standing.proofs.Looks.{complete-is}
use Rattle.iso_standing.specs.Phases.{bare}
use Rattle.iso_standing.specs.Standings.{nodes_in, phase_at}
use Rattle.iso_standing.specs.declared.phase.Phase.{Phase}
use Rattle.iso_isolation.specs.Refusals.{is_root}
use Rattle.iso_isolation.specs.States.{is_finished}
use Rattle.iso_standing.proofs.standing.Standing.is_complete.Goals as goal

pub returns-then-not-is_finished : goal.returns-then-not-is_finished
returns-then-not-is_finished c = λ start s like.
    let v = c.args.self.now in
    let m = c.nodes.node in
    let test : ℕ → Bool = λ j. not (is_root j) && not (is_finished (bare (phase_at v j))) in
    let count : c.len-node-end.result ≡ nodes_in v = c.len-node-end.ensures ∙ ap nodes_in c.self.view_is in
    let inside : m < nodes_in v = omega (arith, c.nodes-test.true) in
    let inner : 0 < m = omega (arith, c.nodes.auto.node) in
    let left : is_finished (bare (phase_at v m)) ≡ false = ap (λ (p : Phase). is_finished (bare p)) (sym c.phase.ensures) ∙ sym c.is_finished.ensures ∙ c.if-not-is_finished.true in
    complete-is v start s like ∙ ap not (any-at (nodes_in v) m test inside (ap₂ (λ (a b : Bool). not a && not b) (root-not m inner) left))

and-false : (a : Bool) → (a && false) ≡ false
and-false true = refl
and-false false = refl

pub returns : goal.returns
returns c = λ start s like.
    let v = c.args.self.now in
    let test : ℕ → Bool = λ j. not (is_root j) && not (is_finished (bare (phase_at v j))) in
    let count : c.len-node-end.result ≡ nodes_in v = c.len-node-end.ensures ∙ ap nodes_in c.self.view_is in
    let none : (m : ℕ) → m < nodes_in v → test m ≡ false = λ m l. elim (cases_eq m 0) [
      | inl root ↦ ap (λ j. not (is_root j) && not (is_finished (bare (phase_at v j)))) root
      | inr other ↦
          let inner : 0 < m = omega (arith, other) in
          let past : m < c.nodes.node = omega (arith, c.nodes-test.false) in
          ap (λ (b : Bool). not (is_root m) && not b) (c.nodes.invariant m inner past) ∙ and-false (not (is_root m))
    ] in
    complete-is v start s like ∙ ap not (any-none (nodes_in v) test none)
