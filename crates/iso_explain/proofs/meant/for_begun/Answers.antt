use Rattle.std.proofs.Common.{Bor, List, ℕ, Option, ap, option_map, sym, ◌∙◌}
use Rattle.std.proofs.lemmas.Result.{IfOk-weaker}
use Rattle.iso_explain.specs.Meant.{begun_for}
use Rattle.iso_explain.proofs.meant.for_begun.Goals as goal

pub returns-in-Some : goal.returns-in-Some
returns-in-Some c =
    IfOk-weaker c.nearest_of.result _ _
    (λ found e. e ∙ ap (λ (n : Option (Bor (List ℕ))). begun_for (option_map (λ (b : Bor (List ℕ)). b.now) n)) (sym c.in-Some.is)) c.nearest_of.ensures
