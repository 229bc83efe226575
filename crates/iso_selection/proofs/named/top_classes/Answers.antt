use Rattle.std.proofs.Common.{◌≡◌, ◌==◌, ◌&&◌, ◌<◌, ℕ, Bool, true, false, nat_lt, get_or, length, ap, ap₂, sym, ◌∙◌, arith}
use Rattle.std.proofs.lemmas.Bool.Decides.{nat_tests}
use Rattle.iso_plan.proofs.ColumnLemmas.{column-push, column-read, length-column}
use Rattle.iso_plan.specs.Paths.{column, is_top}
use Rattle.iso_plan.specs.TopClasses.{top_class}
use Rattle.iso_selection.proofs.NodeLemmas.{is_top-by}
use Rattle.iso_selection.proofs.named.top_classes.Goals as goal
use Rattle.iso_selection.proofs.named.top_classes.Goals.{then-n-gt0, else-n-gt0}

some : (n : ℕ) → 0 < n → nat_lt 0 n ≡ true
some n h = grind (arith, nat_tests)

none : (n : ℕ) → n ≡ 0 → nat_lt 0 n ≡ false
none n e = ap (nat_lt 0) e

pub nodes-preserved : goal.nodes-preserved
nodes-preserved c = λ tree t are.
    let n = c.nodes.n in
    let classes = c.args.classes.now in
    let count : length classes ≡ length tree = ap length are ∙ length-column (top_class tree) (length tree) in
    let own : get_or classes n 0 ≡ top_class tree n = column-read (top_class tree) classes (length tree) n 0 are (omega arith) in
    let this : c.if-n-gt0.push ≡ is_top tree n = elim c.if-n-gt0.branch [
      | then-n-gt0 w ↦ w.push-is ∙ sym (is_top-by tree t n ∙ ap₂ (λ (b : Bool) (k : ℕ). b && (k == n)) (some n w.if-n-gt0.true) (sym own))
      | else-n-gt0 w ↦ let h = w.if-n-gt0.false in let zero : n ≡ 0 = omega arith in w.push-is ∙ none n zero ∙ sym (is_top-by tree t n ∙ ap (λ (b : Bool). b && (top_class tree n == n)) (none n zero))
    ] in
    c.in_ok-push.ensures.items ∙ column-push (is_top tree) c.nodes.tops.items n c.if-n-gt0.push (c.nodes.invariant tree t are) this

pub returns : goal.returns
returns c = λ tree t are.
    let count : length c.args.classes.now ≡ length tree = ap length are ∙ length-column (top_class tree) (length tree) in
    let last : c.nodes.n ≡ length tree = omega arith in
    c.nodes.invariant tree t are ∙ ap (column (is_top tree)) last
