use Rattle.std.proofs.Common.{◌≡◌, ◌==◌, ◌&&◌, ◌+◌, ◌%◌, ℕ, Some, Bool, false, get_or, length, refl, ap, ap₂, sym, ◌∙◌, arith}
use Rattle.iso_plan.proofs.ColumnLemmas.{column-push, length-column}
use Rattle.iso_plan.specs.Paths.{column}
use Rattle.iso_selection.proofs.TurnLemmas.{count-is, turn-is}
use Rattle.iso_plan.specs.KeptNodes.{number_among}
use Rattle.iso_selection.specs.Shards.{holds, is_in}
use Rattle.iso_selection.proofs.turns.those_of.Goals as goal
use Rattle.iso_selection.proofs.turns.those_of.Goals.{then-named-n, else-named-n}

pub nodes-preserved : goal.nodes-preserved
nodes-preserved c = λ tree passes are marked.
    let n = c.nodes.n in
    let classes = c.args.classes.now in
    let named = c.args.named.now in
    let shard = c.args.shard in
    let held = c.deref.result.now in
    let places = c.in_ok-places.places.items in
    let count : length classes ≡ length tree = count-is tree passes classes named are marked in
    let held_are : held ≡ column (holds tree passes) (length tree) = c.deref.ensures.value ∙ c.in_ok-held.ensures.held tree passes are marked in
    let each : length held ≡ length tree = ap length held_are ∙ length-column (holds tree passes) (length tree) in
    let are_places : places ≡ column (number_among (holds tree passes)) (length held) = c.in_ok-places.ensures.places (holds tree passes) (held_are ∙ ap (column (holds tree passes)) (sym each)) in
    let above = c.requires.above n (omega arith) in
    let class = get_or classes n 0 in
    let turn : (get_or named n false && (c.index.result.now % shard.count + 1 == shard.index)) ≡ (passes n && is_in tree passes (Some shard) n) =
    turn-is tree passes classes named are marked held places shard n c.index.result.now class 0 _ (omega arith) held_are are_places refl (omega arith) c.index.ensures in
    let this : c.if-named-n.push ≡ (passes n && is_in tree passes (Some shard) n) = elim c.if-named-n.branch [
      | then-named-n w ↦
          w.push-is ∙ ap₂ (λ (count index : ℕ). c.index.result.now % count + 1 == index) c.count.ensures.value c.index-in-nodes.ensures
          ∙ sym (ap (λ (b : Bool). b && (c.index.result.now % shard.count + 1 == shard.index)) w.if-named-n.true) ∙ turn
      | else-named-n w ↦ w.push-is ∙ w.if-named-n.false ∙ sym (ap (λ (b : Bool). b && (c.index.result.now % shard.count + 1 == shard.index)) w.if-named-n.false) ∙ turn
    ] in
    c.in_ok-push.ensures.items ∙ column-push (λ k. passes k && is_in tree passes (Some shard) k) c.nodes.kept.items n c.if-named-n.push (c.nodes.invariant tree passes are marked) this

pub returns : goal.returns
returns c = λ tree passes are marked.
    let count = count-is tree passes c.args.classes.now c.args.named.now are marked in
    let last : c.nodes.n ≡ length tree = omega arith in
    c.nodes.invariant tree passes are marked ∙ ap (column (λ n. passes n && is_in tree passes (Some c.args.shard) n)) last
