use Rattle.std.proofs.Common.{rules, List, [], ◌∷◌, ◌≡◌, ◌<◌, ◌≤◌, ◌||◌, ◌&&◌, ℕ, Option, Some, None, Bool, false, IfSome, length, map, get_or, refl, ap, ap₂, sym, ◌∙◌, add-one, arith}
use Rattle.std.proofs.lemmas.List.{length-map, get_or_default}
use Rattle.std.specs.List.{list_any}
use Rattle.iso_plan.proofs.ColumnLemmas.{length-column, column-read, column-from, replicate-column, row-at}
use Rattle.iso_plan.proofs.NoIsolation.{asks, none-isolated}
use Rattle.iso_plan.proofs.SoFar.{all-isolate, isolates_below}
use Rattle.iso_plan.proofs.TopLemmas.{top, top-le, isolates-next}
use Rattle.iso_plan.specs.KeyTable.{kind_marks}
use Rattle.iso_plan.specs.Locks.{holds_isolated, is_isolated, is_that, isolates, marks_global}
use Rattle.iso_plan.specs.Paths.{column, is_top}
use Rattle.iso_plan.specs.RowView.{kind_of, row_of, written_in}
use Rattle.iso_plan.specs.declared.row.Row.{Row}
use Rattle.iso_plan.specs.Tree as T
use Rattle.iso_plan.proofs.isolated.isolated.Goals as goal

asked : (rs : List Row) → list_any asks (map row_of rs) ≡ list_any (λ (r : Row). is_isolated (kind_of r.kind) || marks_global (written_in r.extras)) rs
asked [] = refl
asked (r ∷ rs) = ap (λ (b : Bool). asks (row_of r) || b) (asked rs)

pub returns-then-not-any_isolates : goal.returns-then-not-any_isolates
returns-then-not-any_isolates c =
    let rows = c.args.rows.now in
    let tree = map row_of rows in
    let off : c.any_isolates.result ≡ false = c.if-not-any_isolates.true in
    let calm : list_any asks tree ≡ false = asked rows ∙ sym c.any_isolates.ensures ∙ off in
    c.in_ok-vec.ensures.items_if_clones_equal (λ y h. search rules) ∙ replicate-column false (length rows)
    ∙ ap (λ (f : ℕ → Bool). column f (length rows)) (λ i n. sym (none-isolated tree c.requires.tree calm n) i)

pub index-requires : goal.index-requires
index-requires c =
    let rows = c.args.rows.now in
    let v = c.in_ok-tops.tops in
    let count : length v.items ≡ length rows = ap length c.in_ok-tops.ensures ∙ length-column (top (map row_of rows)) (length rows) in
    omega (arith, v.ok.0)

bound : (o : Option ℕ) (l : ℕ) → ((t : ℕ) → o ≡ Some t → t < l) → IfSome o (λ t. t < l)
bound None l f = tt
bound (Some t) l f = f t refl

pub note_isolation-requires : goal.note_isolation-requires
note_isolation-requires c =
    let rows = c.args.rows.now in
    let tree = map row_of rows in
    let n = c.nodes.n in
    let own : c.index.result.now ≡ top tree n = c.index.ensures ∙ column-read (top tree) c.in_ok-tops.tops.items (length rows) n c.index.result.now c.in_ok-tops.ensures (omega arith) in
    bound c.index.result.now (length c.nodes.isolated.items) (λ t e.
    let le : t ≤ n = top-le tree c.requires.tree.below n t (sym own ∙ e) in
    let each : length c.nodes.isolated.items ≡ length rows = c.nodes.invariant.each in
    omega arith)

pub nodes-preserved : goal.nodes-preserved
nodes-preserved c =
    let rows = c.args.rows.now in
    let tree = map row_of rows in
    let n = c.nodes.n in
    let own : c.index.result.now ≡ top tree n = c.index.ensures ∙ column-read (top tree) c.in_ok-tops.tops.items (length rows) n c.index.result.now c.in_ok-tops.ensures (omega arith) in
    let asks : c.isolates.result ≡ isolates tree n = c.isolates.ensures
    ∙ ap (λ (r : T.Row). is_isolated r.kind || marks_global (kind_marks r.kind)) (sym (row-at rows n c.index-rows-n.result (omega arith))) in
    record {
      each = c.note_isolation.ensures.fits ∙ c.nodes.invariant.each;
      so_far = λ m h.
          let old = get_or c.nodes.isolated.items m false in
          rw add-one (c.note_isolation.ensures.noted m
          ∙ ap₂ (λ (o : Option ℕ) (i : Bool). (is_that o m && i) || old) own asks
          ∙ ap (λ (b : Bool). (is_that (top tree n) m && isolates tree n) || b) (c.nodes.invariant.so_far m h)
          ∙ isolates-next tree c.requires.tree.below m n);
    }

pub returns : goal.returns
returns c =
    let rows = c.args.rows.now in
    let tree = map row_of rows in
    let v = c.nodes.isolated in
    let last : c.nodes.n ≡ length tree = rw (length-map rows row_of) (omega arith) in
    column-from (holds_isolated tree) v.items (length rows) c.nodes.invariant.each
    (λ m d h. get_or_default v.items m d false (rw c.nodes.invariant.each h) ∙ c.nodes.invariant.so_far m h ∙ ap (λ (n : ℕ). is_top tree m && isolates_below tree m n) last ∙ sym (all-isolate tree m))
