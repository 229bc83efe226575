use Rattle.std.proofs.Common.{◌≡◌, ◌∷◌, ℕ, ap, sym, ◌∙◌}
use Rattle.std.proofs.lemmas.Result.{on_ok_weaker}
use Rattle.iso_affected_text.proofs.RowLemmas.{has-parent, in_two, no-parent, unchanged}
use Rattle.iso_affected_text.specs.Affected.{reasons_on}
use Rattle.iso_affected_text.specs.Changes.{change_of}
use Rattle.iso_plan.specs.Paths.{path}
use Rattle.iso_plan.specs.RowView.{tree_of}
use Rattle.iso_affected_text.proofs.rows.+reasons.Goals as goal

pub returns-in-None : goal.returns-in-None
returns-in-None t c =
    let tree = tree_of c.args.change.now.new.plan.now in
    let told = reasons_on (change_of c.args.change.now) in
    let root : c.args.node ≡ 0 = no-parent tree c.args.node (sym c.parent.ensures ∙ c.in-None.is) in
    unchanged _ _ (ap (λ (n : ℕ). told (path tree n)) root ∙ ap told c.paths_lead_up.ensures.root)

pub returns-in_ok-add_reasons-in-Some : goal.returns-in_ok-add_reasons-in-Some
returns-in_ok-add_reasons-in-Some t c =
    let tree = tree_of c.args.change.now.new.plan.now in
    let n = c.args.node in
    let class = c.in-Some.class in
    let p = has-parent tree n class (sym c.parent.ensures ∙ c.in-Some.is) in
    let step : path tree n ≡ n ∷ path tree class = c.paths_lead_up.ensures.step n p.above ∙ ap (λ (k : ℕ). n ∷ path tree k) p.is in
    rw step (on_ok_weaker c.add_own.result (in_two _ _ _ _ _ c.in_ok-add_reasons-in-Some.ensures) c.add_own.ensures)
