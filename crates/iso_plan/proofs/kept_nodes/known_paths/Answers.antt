use Rattle.std.proofs.Common.{◌≡◌, ◌<◌, ◌+◌, ◌-◌, ◌∷◌, [], ◌++◌, ℕ, List, length, map, ap, subst, sym, ◌∙◌, arith}
use Rattle.std.proofs.lemmas.List.{length-map}
use Rattle.std.proofs.lemmas.List.FromFn.{map-range_with_len_more}
use Rattle.std.specs.List.{range_with_len}
use Rattle.iso_model.specs.NameSets.{Knows}
use Rattle.iso_plan.proofs.ColumnLemmas.{column-read, length-column}
use Rattle.iso_plan.specs.PathTexts.{path_text}
use Rattle.iso_plan.specs.RowView.{row_of}
use Rattle.iso_plan.proofs.kept_nodes.known_paths.Goals as goal

pub nodes-preserved : goal.nodes-preserved
nodes-preserved c =
    let rows = c.args.rows.now in
    let n = c.nodes.n in
    let f : ℕ → List ℕ = path_text (map row_of rows) in
    let before = map f (range_with_len 1 (n - 1)) in
    let count : length c.args.paths.now ≡ length rows = ap length c.requires.paths ∙ length-column f (length rows) in
    let own : c.as_str.result.now ≡ f n = c.as_str.ensures ∙ c.index-paths-n.is ∙ column-read f c.args.paths.now (length rows) n c.index-paths-n.result c.requires.paths (omega arith) in
    let one : n + 1 - 1 ≡ n - 1 + 1 = omega arith in
    let more : map f (range_with_len 1 (n + 1 - 1)) ≡ before ++ f n ∷ [] = ap (λ (k : ℕ). map f (range_with_len 1 k)) one ∙ map-range_with_len_more f 1 (n - 1) n (omega arith) in
    let claimed = c.in_ok-claim.ensures before c.nodes.invariant in
    subst (Knows c.claim.new.seen) (ap (λ (t : List ℕ). before ++ t ∷ []) own ∙ sym more) claimed.1

pub returns : goal.returns
returns c =
    let rows = c.args.rows.now in
    let f : ℕ → List ℕ = path_text (map row_of rows) in
    let count : length c.args.paths.now ≡ length rows = ap length c.requires.paths ∙ length-column f (length rows) in
    let nodes : length (map row_of rows) ≡ length rows = length-map rows row_of in
    let some : 0 < length rows = rw nodes at c.requires.tree.rooted in
    let last : c.nodes.n - 1 ≡ length (map row_of rows) - 1 = omega arith in
    subst (Knows c.nodes.known) (ap (λ (k : ℕ). map f (range_with_len 1 k)) last) c.nodes.invariant
