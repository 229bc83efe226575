use Rattle.std.proofs.Common.{List, Option, ℕ, [], ◌∷◌, ◌++◌, ap₂, sym, ◌∙◌, arith}
use Rattle.std.proofs.lemmas.List.FromFn.{map-range_with_len_more}
use Rattle.iso_times.specs.Tables.{node_time}
use Rattle.iso_times.proofs.times.Times.by_node.Goals as goal

pub nodes-preserved : goal.nodes-preserved
nodes-preserved c =
    c.in_ok-push.ensures.items
    ∙ ap₂ (λ (xs : List (Option ℕ)) (x : Option ℕ). xs ++ x ∷ []) c.nodes.invariant c.node.ensures
    ∙ sym (map-range_with_len_more (node_time c.args.self.now) 0 c.nodes.node c.nodes.node (omega arith))
