use Rattle.std.proofs.Common.{sym, ◌∙◌, rules, tests}
use Rattle.std.proofs.lemmas.Iterator.{YieldsList-from_slice}
use Rattle.std.proofs.lemmas.Iterator.Search.{position_from_yields_List}
use Rattle.iso_model.proofs.LineLemmas.{is_end, position-none, position-some}
use Rattle.iso_model.proofs.lines.LineSlice.split_first.Goals as goal

pub returns-in_err-end : goal.returns-in_err-end
returns-in_err-end c =
    let bs = c.args.self.bytes.now in
    let found = position_from_yields_List is_end _ _ c.position.result c.position.ensures.ran (YieldsList-from_slice bs cc) (λ x b q k. search (rules, tests)) in
    rw c.from_residual.ensures (position-none bs (sym c.in_err-end.was ∙ found) c.args.self.ended)

pub invariant_of-result : goal.invariant_of-result
invariant_of-result c =
    let bs = c.args.self.bytes.now in
    let found = position_from_yields_List is_end _ _ c.position.result c.position.ensures.ran (YieldsList-from_slice bs cc) (λ x b q k. search (rules, tests)) in
    record { ended = (position-some bs c.in_ok-end.end (sym c.in_ok-end.was ∙ found)).2 c.args.self.ended }

pub returns : goal.returns
returns c =
    let bs = c.args.self.bytes.now in
    let found = position_from_yields_List is_end _ _ c.position.result c.position.ensures.ran (YieldsList-from_slice bs cc) (λ x b q k. search (rules, tests)) in
    (position-some bs c.in_ok-end.end (sym c.in_ok-end.was ∙ found)).1
