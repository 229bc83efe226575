-- Trees in which no node asks for isolation.
use Rattle.std.proofs.Common.{◌≡◌, inl, inr, ℕ, zero, suc, ◌<◌, List, [], ◌∷◌, Bool, true, false, ◌||◌, ◌&&◌, bytes_eq, length, refl, ap, ap₂, ◌∙◌, arith}
use Rattle.std.proofs.lemmas.Bool.{cases_lt}
use Rattle.std.proofs.lemmas.List.{get_or_past}
use Rattle.std.proofs.lemmas.List.Folds.{list_any-append}
use Rattle.std.specs.List.{list_any}
use Rattle.iso_model.specs.ResourceKeys.{global_key}
use Rattle.iso_model.specs.Targets.{is_target, marks_for}
use Rattle.iso_model.specs.declared.heads.Mark.{Mark}
use Rattle.iso_model.specs.declared.heads.Target.{Target}
use Rattle.iso_model.specs.declared.heads.Target.TheVariants.{Itself, Children}
use Rattle.iso_plan.specs.KeyTable.{kind_marks}
use Rattle.iso_plan.specs.Locks.{holds_isolated, is_isolated, isolates, marks_global}
use Rattle.iso_plan.specs.Paths.{IsTree, is_top, nodes_under, parent, row_at}
use Rattle.iso_plan.specs.Tree.{Row, root_row}

-- whether a node is an isolated class, or a mark that is written on it names the global key
abbrev pub asks : Row → Bool
asks r = is_isolated r.kind || marks_global r.written

or_left : (a b : Bool) → (a || b) ≡ false → a ≡ false
or_left true b h = h
or_left false b h = refl

or_right : (a b : Bool) → (a || b) ≡ false → b ≡ false
or_right true b h = absurd (cc)
or_right false b h = h

none_at : (rs : List Row) → list_any asks rs ≡ false → (n : ℕ) → asks (row_at rs n) ≡ false
none_at [] h n = refl
none_at (r ∷ rs) h zero = or_left (asks r) (list_any asks rs) h
none_at (r ∷ rs) h (suc n) = none_at rs (or_right (asks r) (list_any asks rs) h) n

none_for_by : (t : Target) (m : Mark) (ms : List Mark) → bytes_eq global_key m.key ≡ false → marks_global (marks_for t ms) ≡ false → (b : Bool) → is_target t m.target ≡ b
    → marks_global (marks_for t (m ∷ ms)) ≡ false
none_for_by t m ms own rest true e = rw (e, own) rest
none_for_by t m ms own rest false e = rw e rest

none_for : (t : Target) (ms : List Mark) → marks_global ms ≡ false → marks_global (marks_for t ms) ≡ false
none_for t [] h = refl
none_for t (m ∷ ms) h =
    none_for_by t m ms (or_left (bytes_eq global_key m.key) (marks_global ms) h) (none_for t ms (or_right (bytes_eq global_key m.key) (marks_global ms) h)) (is_target t m.target) refl

root_calm : (tree : List Row) (n : ℕ) → row_at tree n ≡ root_row → isolates tree n ≡ false
root_calm tree n is = ap (λ (r : Row). is_isolated r.kind || marks_global (kind_marks r.kind)) is

both : (a b : Bool) → a ≡ false → b ≡ false → (a || b) ≡ false
both a b h g = ap₂ (λ (x y : Bool). x || y) h g

node_calm : (tree : List Row) → IsTree tree → list_any asks tree ≡ false → (n : ℕ) → 0 < n → n < length tree → isolates tree n ≡ false
node_calm tree t h n pos less =
    let here = none_at tree h n in
    let above = none_at tree h (parent tree n) in
    let own = (row_at tree n).written in
    let up = (row_at tree (parent tree n)).written in
    both (is_isolated (row_at tree n).kind) (marks_global (kind_marks (row_at tree n).kind))
    (or_left (is_isolated (row_at tree n).kind) (marks_global own) here)
    (ap marks_global (t.marked n pos less) ∙ list_any-append (λ (m : Mark). bytes_eq global_key m.key) (marks_for Itself own) (marks_for Children up)
    ∙ both (marks_global (marks_for Itself own)) (marks_global (marks_for Children up))
    (none_for Itself own (or_right (is_isolated (row_at tree n).kind) (marks_global own) here))
    (none_for Children up (or_right (is_isolated (row_at tree (parent tree n)).kind) (marks_global up) above)))

calm : (tree : List Row) → IsTree tree → list_any asks tree ≡ false → (n : ℕ) → isolates tree n ≡ false
calm tree t h zero = root_calm tree 0 t.root_is
calm tree t h (suc n) = elim (cases_lt (suc n) (length tree)) [
  | inl less ↦ node_calm tree t h (suc n) (omega arith) less
  | inr past ↦ root_calm tree (suc n) (get_or_past tree (suc n) root_row past)
]

none_of : (tree : List Row) → ((n : ℕ) → isolates tree n ≡ false) → (ns : List ℕ) → list_any (isolates tree) ns ≡ false
none_of tree f [] = refl
none_of tree f (n ∷ ns) = both (isolates tree n) (list_any (isolates tree) ns) (f n) (none_of tree f ns)

and_none : (a b : Bool) → b ≡ false → (a && b) ≡ false
and_none true b h = h
and_none false b h = refl

-- where no node asks, none is a top-level class that holds one which does
pub none-isolated : (tree : List Row) → IsTree tree → list_any asks tree ≡ false → (n : ℕ) → holds_isolated tree n ≡ false
none-isolated tree t h n = and_none (is_top tree n) (list_any (isolates tree) (nodes_under tree n)) (none_of tree (calm tree t h) (nodes_under tree n))
