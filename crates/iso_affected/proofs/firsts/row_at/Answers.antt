use Rattle.std.proofs.Common.{◌≡◌, ℕ, Some, get_or, option_map, sym, ap, ◌∙◌, rules}
use Rattle.std.proofs.lemmas.Option.{slice_get-get_or, slice_get-map, slice_get_past}
use Rattle.iso_model.specs.Syntax.{Act}
use Rattle.iso_model.specs.SyntaxView.{form_of, stmt_of}
use Rattle.iso_model.specs.declared.tree.Form as F
use Rattle.iso_model.specs.declared.tree.Stmt.{Stmt}
use Rattle.iso_affected.proofs.firsts.row_at.Goals as goal

abbrev first : ℕ × Act → ℕ
first s = s.0

row-of : (s : Stmt) → stmt_of s ≡ (s.row, form_of s.form)
row-of s = search (rules, F.the_lemmas)

pub returns-then-place-block : goal.returns-then-place-block
returns-then-place-block c =
    let xs = c.args.block.now in
    let i = c.args.place in
    let d = c.index-block-place.result in
    sym (ap (option_map first) (slice_get-map stmt_of xs i ∙ ap (option_map stmt_of) (slice_get-get_or xs i d c.if-place-block.true)) ∙ ap (λ (s : ℕ × Act). Some (first s)) (row-of (get_or xs i d)))

pub returns-else-place-block : goal.returns-else-place-block
returns-else-place-block c =
    let xs = c.args.block.now in
    let i = c.args.place in
    sym (ap (option_map first) (slice_get-map stmt_of xs i ∙ ap (option_map stmt_of) (slice_get_past xs i c.if-place-block.false)))
