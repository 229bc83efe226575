-- Tables of nodes by their names, name by name and class by class.
use Rattle.std.proofs.Common.{◌≡◌, ℕ, suc, ◌+◌, ◌<◌, List, [], ◌∷◌, ◌++◌, drop, length, get_or, cond, Bool, true, false, Option, Some, bytes_eq, nat_lt, refl, sym, ap, ap₂, ◌∙◌, subst, arith}
use Rattle.std.proofs.Math.ListN.{drop_of_length-le}
use Rattle.std.proofs.Math.Seq.{drop-cons}
use Rattle.std.proofs.lemmas.Bool.Decides.{nat_tests}
use Rattle.std.proofs.lemmas.List.{get_or_append_left, get_or_push, length-append}
use Rattle.std.proofs.lemmas.Map.Text.{btree_map_updates_str}
use Rattle.std.specs.BTreeMap.{BTreeMap, IsEmpty, UpdatesBy, is_at}
use Rattle.std.specs.Borrow.{Bor}
use Rattle.std.specs.Cmp.Lexicographic.{slice_cmp}
use Rattle.std.specs.Map.{lookup}
use Rattle.std.specs.Ordering.{nat_cmp}
use Rattle.iso_affected.specs.NameTables.{FindsNamed}
use Rattle.iso_affected.specs.Namesakes.{named}
use Rattle.iso_plan.specs.Paths.{children, row_at}
use Rattle.iso_plan.specs.Tree.{Row}

abbrev Table : Type 0
Table = BTreeMap (Bor (List ℕ)) ℕ

-- past the last node there is none
pub table-none : (tree : List Row) (table : Table) (nodes : List ℕ) (count : ℕ) → IsEmpty table → count ≡ length nodes → FindsNamed tree (drop count nodes) table
table-none tree table nodes count empty is name =
    ap (lookup (is_at (λ (key : Bor (List ℕ)). slice_cmp nat_cmp name key.now))) empty
    ∙ sym (ap (named tree name) (drop_of_length-le nodes (omega arith)))

-- a node before the others is found first
pub table-more : (tree : List Row) (table new : Table) (nodes : List ℕ) (j : ℕ) (key : List ℕ) (node : ℕ) → j < length nodes → node ≡ get_or nodes j 0 → key ≡ (row_at tree node).name
    → UpdatesBy (λ x y. slice_cmp nat_cmp x.now y.now) (λ k. slice_cmp nat_cmp key k.now) table new (Some node) → FindsNamed tree (drop (suc j) nodes) table → FindsNamed tree (drop j nodes) new
table-more tree table new nodes j key node h is named_so updates finds name =
    btree_map_updates_str key table new (Some node) updates name
    ∙ ap₂ (λ (k : List ℕ) (o : Option ℕ). cond (bytes_eq k name) (Some node) o) named_so (finds name)
    ∙ sym (ap (named tree name) (drop-cons nodes j 0 h ∙ ap (λ (n : ℕ). n ∷ drop (suc j) nodes) (sym is)))

-- the tables of the classes below a number
pub record FindBelow (tree : List Row) (tables : List Table) (count : ℕ) : Type 0 where
  pub each : length tables ≡ count
  pub find : (class : ℕ) (d : Table) → class < count → FindsNamed tree (children tree class) (get_or tables class d)

pub none-below : (tree : List Row) (tables : List Table) → tables ≡ [] → FindBelow tree tables 0
none-below tree tables e = record { each = ap length e; find = λ class d h. absurd (omega arith) }

find-by : (tree : List Row) (tables : List Table) (table : Table) (count class : ℕ) (d : Table) (b : Bool) → nat_lt class count ≡ b → class < count + 1 → FindBelow tree tables count
    → FindsNamed tree (children tree count) table → FindsNamed tree (children tree class) (get_or (tables ++ table ∷ []) class d)
find-by tree tables table count class d true e h below own =
    let less : class < count = grind (arith, nat_tests) in
    let within : class < length tables = let each = below.each in omega arith in
    subst (FindsNamed tree (children tree class)) (sym (get_or_append_left tables (table ∷ []) d class within)) (below.find class d less)
find-by tree tables table count class d false e h below own =
    let last : class ≡ count = grind (arith, nat_tests) in
    let at : get_or (tables ++ table ∷ []) class d ≡ table = get_or_push tables table d class (below.each ∙ sym last) in
    subst (FindsNamed tree (children tree class)) (sym at) (subst (λ (n : ℕ). FindsNamed tree (children tree n) table) (sym last) own)

-- a table more
pub more-below : (tree : List Row) (tables more : List Table) (table : Table) (count : ℕ) → more ≡ tables ++ table ∷ [] → FindBelow tree tables count → FindsNamed tree (children tree count) table
    → FindBelow tree more (count + 1)
more-below tree tables more table count e below own =
    subst (λ (ts : List Table). FindBelow tree ts (count + 1)) (sym e)
    (record {
      each = length-append tables (table ∷ []) ∙ ap (λ (n : ℕ). n + 1) below.each;
      find = λ class d h. find-by tree tables table count class d (nat_lt class count) refl h below own;
    })
