use Rattle.std.proofs.Common.{◌≡◌, ◌+◌, ◌++◌, ◌∷◌, [], ℕ, List, Option, Bool, true, false, is_none, is_some, length, not, ap, sym, ◌∙◌, add-one, subst, arith}
use Rattle.std.specs.List.{All}
use Rattle.iso_affected.proofs.FateLemmas.{gone-nodes}
use Rattle.iso_affected.specs.Fates.{IsNode, has_gone}
use Rattle.iso_affected.specs.Namesakes.{namesake}
use Rattle.iso_plan.proofs.ColumnLemmas.{column-read, length-column}
use Rattle.iso_plan.proofs.NumberLemmas.{those-next, those-skip}
use Rattle.iso_plan.specs.RowView.{tree_of}
use Rattle.iso_plan.specs.KeptNodes.{those_below}
use Rattle.iso_affected.proofs.affected.gone.Goals as goal
use Rattle.iso_affected.proofs.affected.gone.Goals.{then-is_none+in_ok-push, else-is_none}

found_more : (passes : ℕ → Bool) (found after : List ℕ) (n : ℕ) → true ≡ passes n → found ≡ those_below passes n → after ≡ found ++ n ∷ [] → after ≡ those_below passes (n + 1)
found_more passes found after n e before more =
    more ∙ ap (λ (ns : List ℕ). ns ++ n ∷ []) before ∙ sym (ap (those_below passes) (add-one n) ∙ those-next passes n (sym e))

found_same : (passes : ℕ → Bool) (found : List ℕ) (n : ℕ) → false ≡ passes n → found ≡ those_below passes n → found ≡ those_below passes (n + 1)
found_same passes found n e before = before ∙ sym (ap (those_below passes) (add-one n) ∙ those-skip passes n (sym e))

turned : (a b : Bool) → a ≡ not b → b ≡ not a
turned a true e = ap not (sym e)
turned a false e = ap not (sym e)

pub index-requires : goal.index-requires
index-requires c =
    let f : ℕ → Option ℕ = namesake (tree_of c.args.new.now) (tree_of c.args.old.now) in
    let count : length c.in_ok-namesakes.namesakes.items ≡ length c.args.old.now.rows = ap length c.in_ok-namesakes.ensures ∙ length-column f (length c.args.old.now.rows) in
    let end : c.len-node-end.result ≡ length c.args.old.now.rows = c.len-node-end.ensures in
    omega (arith, c.in_ok-namesakes.namesakes.ok.0)

pub nodes-preserved : goal.nodes-preserved
nodes-preserved c =
    let passes = has_gone (tree_of c.args.old.now) (tree_of c.args.new.now) in
    let f : ℕ → Option ℕ = namesake (tree_of c.args.new.now) (tree_of c.args.old.now) in
    let n = c.nodes.node in
    let end : c.len-node-end.result ≡ length c.args.old.now.rows = c.len-node-end.ensures in
    let at : c.index.result.now ≡ f n = c.index.ensures ∙ column-read f c.in_ok-namesakes.namesakes.items (length c.args.old.now.rows) n c.index.result.now c.in_ok-namesakes.ensures (omega arith) in
    let told : c.is_none.result ≡ passes n = turned (is_some c.index.result.now) c.is_none.result c.is_none.ensures ∙ ap is_none at in
    elim c.if-is_none.branch [
      | then-is_none+in_ok-push w ↦ rw w.gone-is (found_more passes c.nodes.gone.items _ n (sym w.if-is_none.true ∙ told) c.nodes.invariant w.in_ok-push.ensures.items)
      | else-is_none w ↦ rw w.gone-is (found_same passes c.nodes.gone.items n (sym w.if-is_none.false ∙ told) c.nodes.invariant)
    ]

pub returns-clause-nodes : goal.returns-clause-nodes
returns-clause-nodes c =
    let old = tree_of c.args.old.now in
    let new = tree_of c.args.new.now in
    let all : c.nodes.node ≡ length old = omega (arith, c.len-node-end.ensures) in
    subst (All (IsNode old)) (sym (c.nodes.invariant ∙ ap (those_below (has_gone old new)) all)) (gone-nodes old new)
