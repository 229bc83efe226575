use Rattle.std.proofs.Common.{◌≡◌, ◌==◌, ◌&&◌, ◌≤◌, ℕ, true, false, get_or, length, ap, ◌∙◌, arith}
use Rattle.std.proofs.lemmas.List.{length-set}
use Rattle.std.specs.List.{list_any, range_with_len}
use Rattle.iso_plan.proofs.KeptLemmas.{set-true}
use Rattle.iso_selection.proofs.NodeLemmas.{left-more, marked-more}
use Rattle.iso_selection.proofs.TurnLemmas.{held-is}
use Rattle.iso_selection.proofs.turns.held.Goals as goal
use Rattle.iso_selection.proofs.turns.held.Goals.{then-named-n, else-named-n}

pub nodes-preserved : goal.nodes-preserved
nodes-preserved c =
    let named = c.args.named.now in
    let classes = c.args.classes.now in
    let n = c.nodes.n in
    let old = c.nodes.held.items in
    let i = c.nodes.invariant in
    let above : get_or classes n 0 ≤ n = c.requires.above n (omega arith) in
    let each = i.each in
    elim c.if-named-n.branch [
      | then-named-n w ↦ record {
        each = rw w.held-is (length-set old (get_or classes n 0) true ∙ i.each);
        so_far = λ m. rw w.held-is (set-true old (get_or classes n 0) m (omega arith)
            ∙ marked-more (λ k. get_or named k false) (λ k. get_or classes k 0) m n (get_or old m false) w.if-named-n.true (i.so_far m));
      }
      | else-named-n w ↦ record {
        each = rw w.held-is i.each;
        so_far = λ m. rw w.held-is (left-more (λ k. get_or named k false) (λ k. get_or classes k 0) m n (get_or old m false) w.if-named-n.false (i.so_far m));
      }
    ]

pub returns-clause-held : goal.returns-clause-held
returns-clause-held c = λ tree passes are marked.
    let i = c.nodes.invariant in
    let last : c.nodes.n ≡ length c.args.classes.now = omega arith in
    held-is tree passes c.args.classes.now c.args.named.now are marked c.nodes.held.items i.each
    (λ m. i.so_far m ∙ ap (λ (k : ℕ). list_any (λ j. get_or c.args.named.now j false && (get_or c.args.classes.now j 0 == m)) (range_with_len 0 k)) last)
