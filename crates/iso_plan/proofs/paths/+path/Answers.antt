use Rattle.std.proofs.Common.{◌≡◌, ◌≢◌, ◌<◌, ◌++◌, ◌==◌, [], ℕ, List, None, Some, Bool, false, bytes_eq, codes, cond, get_or, length, map, ap, ap₂, refl, sym, ◌∙◌, arith}
use Rattle.std.proofs.lemmas.Bool.Decides.{Decides-eqb, nat_tests}
use Rattle.std.proofs.lemmas.Slice.Eq.{strip_suffix_is}
use Rattle.iso_plan.proofs.ColumnLemmas.{parent-at, row-at}
use Rattle.iso_plan.proofs.PathTextLemmas.{empty-by, ends-by, ends-not, front_in, path_text-front}
use Rattle.iso_plan.specs.Paths.{IsTree, parent, row_at}
use Rattle.iso_plan.specs.PathTexts.{path_text}
use Rattle.iso_plan.specs.RowView.{row_of}
use Rattle.iso_plan.specs.Tree as T
use Rattle.iso_plan.specs.declared.row.Row.{Row}
use Rattle.iso_plan.proofs.paths.+path.Goals as goal

-- the path of a node, by what its row says
by_row : (rows : List Row) (n p : ℕ) (d e : Row) (name : List ℕ) → IsTree (map row_of rows) → 0 < n → n < length rows → name ≡ (get_or rows n d).name → p ≡ (get_or rows n e).parent
    → path_text (map row_of rows) n ≡ front_in p (path_text (map row_of rows) p) ++ name
by_row rows n p d e name tree pos h own up =
    let nodes = map row_of rows in
    let is : parent nodes n ≡ p = parent-at rows n e h ∙ sym up in
    let named : (row_at nodes n).name ≡ name = ap (λ (r : T.Row). r.name) (row-at rows n d h) ∙ sym own in
    path_text-front nodes tree.below n pos ∙ ap₂ (λ (q : ℕ) (x : List ℕ). front_in q (path_text nodes q) ++ x) is named

-- of a class that is not the root
inner : (tree : List T.Row) (p : ℕ) (name : List ℕ) → p ≢ 0 → front_in p (path_text tree p) ++ name ≡ (path_text tree p ++ codes ".") ++ name
inner tree p name apart =
    let some : (p == 0) ≡ false = grind (arith, nat_tests) in
    ap (λ (b : Bool). cond b [] (path_text tree p ++ codes ".") ++ name) some

pub returns-in_default : goal.returns-in_default
returns-in_default t c =
    let rows = c.args.rows.now in
    let name = c.as_bytes-name.result.now in
    let other = strip_suffix_is Decides-eqb c.args.path.now name None c.in_default.ensures.cases in
    let p = (get_or rows c.args.node c.index-rows-node-2.result).parent in
    let own = c.as_bytes-name.ensures.value ∙ c.as_str.ensures in
    let whole = by_row rows c.args.node p c.index-rows-node.result c.index-rows-node-2.result name c.requires.tree c.requires.above c.requires.within own refl in
    ends-not c.args.path.now name other (front_in p (path_text (map row_of rows) p)) ∙ sym (ap (λ (x : List ℕ). bytes_eq x c.args.path.now) whole)

pub returns-then-class-eq0 : goal.returns-then-class-eq0
returns-then-class-eq0 t c =
    let rows = c.args.rows.now in
    let tree = map row_of rows in
    let path = c.args.path.now in
    let name = c.as_bytes-name.result.now in
    let has = strip_suffix_is Decides-eqb path name (Some c.in-Some.rest) c.in-Some.ensures.cases in
    let p = (get_or rows c.args.node c.index-rows-node-2.result).parent in
    let own = c.as_bytes-name.ensures.value ∙ c.as_str.ensures in
    let whole = by_row rows c.args.node p c.index-rows-node.result c.index-rows-node-2.result name c.requires.tree c.requires.above c.requires.within own refl in
    c.is_empty.ensures ∙ empty-by c.in-Some.rest.now ∙ ends-by path name c.in-Some.rest.now [] has
    ∙ sym (ap (λ (x : List ℕ). bytes_eq x path) (whole ∙ ap (λ (q : ℕ). front_in q (path_text tree p) ++ name) c.if-class-eq0.true))

pub is_path_of-requires : goal.is_path_of-requires
is_path_of-requires t c =
    let rows = c.args.rows.now in
    let p = (get_or rows c.args.node c.index-rows-node-2.result).parent in
    let up = parent-at rows c.args.node c.index-rows-node-2.result c.requires.within in
    let below : parent (map row_of rows) c.args.node < c.args.node = c.requires.tree.below c.args.node c.requires.above in
    let within = c.requires.within in
    let apart = c.if-class-eq0.false in
    let some : 0 < p = grind (arith, nat_tests) in
    (omega arith, (c.requires.tree, (some, omega arith)))

pub returns-in-Some-strip_suffix : goal.returns-in-Some-strip_suffix
returns-in-Some-strip_suffix t c =
    let rows = c.args.rows.now in
    let tree = map row_of rows in
    let path = c.args.path.now in
    let name = c.as_bytes-name.result.now in
    let rest = c.in-Some.rest.now in
    let above = c.in-Some-strip_suffix.above.now in
    let has = strip_suffix_is Decides-eqb path name (Some c.in-Some.rest) c.in-Some.ensures.cases in
    let dot = strip_suffix_is Decides-eqb rest (codes ".") (Some c.in-Some-strip_suffix.above) c.in-Some-strip_suffix.ensures.cases in
    let p = (get_or rows c.args.node c.index-rows-node-2.result).parent in
    let own = c.as_bytes-name.ensures.value ∙ c.as_str.ensures in
    let whole = by_row rows c.args.node p c.index-rows-node.result c.index-rows-node-2.result name c.requires.tree c.requires.above c.requires.within own refl in
    c.is_path_of.ensures ∙ ends-by rest (codes ".") above (path_text tree p) dot ∙ ends-by path name rest (path_text tree p ++ codes ".") has
    ∙ sym (ap (λ (x : List ℕ). bytes_eq x path) (whole ∙ inner tree p name c.if-class-eq0.false))

pub returns-in-None : goal.returns-in-None
returns-in-None t c =
    let rows = c.args.rows.now in
    let tree = map row_of rows in
    let path = c.args.path.now in
    let name = c.as_bytes-name.result.now in
    let rest = c.in-Some.rest.now in
    let has = strip_suffix_is Decides-eqb path name (Some c.in-Some.rest) c.in-Some.ensures.cases in
    let other = strip_suffix_is Decides-eqb rest (codes ".") None c.in-None.ensures.cases in
    let p = (get_or rows c.args.node c.index-rows-node-2.result).parent in
    let own = c.as_bytes-name.ensures.value ∙ c.as_str.ensures in
    let whole = by_row rows c.args.node p c.index-rows-node.result c.index-rows-node-2.result name c.requires.tree c.requires.above c.requires.within own refl in
    ends-not rest (codes ".") other (path_text tree p) ∙ ends-by path name rest (path_text tree p ++ codes ".") has
    ∙ sym (ap (λ (x : List ℕ). bytes_eq x path) (whole ∙ inner tree p name c.if-class-eq0.false))
