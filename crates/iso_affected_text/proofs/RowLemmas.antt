-- Rows, one after another.
use Rattle.std.proofs.Common.{◌≡◌, ℕ, zero, suc, ◌+◌, ◌<◌, List, [], ◌∷◌, ◌++◌, Some, None, flat_map, get_or, length, map, take, cond, Bool, true, false, refl, sym, ap, ◌∙◌, append_assoc, append-nil, add-one, arith}
use Rattle.std.proofs.lemmas.Grind.{flat_map-append}
use Rattle.std.proofs.lemmas.List.{map_push, take_more}
use Rattle.iso_affected.specs.Listed.{is_listed}
use Rattle.iso_affected.specs.declared.affected.Fate.TheVariants as F
use Rattle.iso_affected_text.specs.Affected.{fate_rows, node_rows, nodes_rows}
use Rattle.iso_affected_text.specs.Changes.{ChangeView}
use Rattle.iso_affected_text.specs.Rows.{RowView, row_of}
use Rattle.iso_affected_text.specs.declared.row.Row.{Row}
use Rattle.iso_plan.specs.Paths.{parent, parent_of, row_at}
use Rattle.iso_plan.specs.Tree as T
use Rattle.iso_plan.specs.Tree.{root_row}
use Rattle.iso_suites.specs.PlanSuites.{head_of}

abbrev Rows : Type 0
Rows = List RowView

-- what is added last, where it is a choice
pub chosen : {A : Type 0} (b : Bool) (x y : A) → b ≡ true → cond b x y ≡ x
chosen b x y e = ap (λ (t : Bool). cond t x y) e

pub other : {A : Type 0} (b : Bool) (x y : A) → b ≡ false → cond b x y ≡ y
other b x y e = ap (λ (t : Bool). cond t x y) e

-- what is added in parts
pub in_two : (old one two now after : Rows) → one ≡ old ++ now → two ≡ one ++ after → two ≡ old ++ (now ++ after)
in_two old one two now after e f = f ∙ ap (λ (rs : Rows). rs ++ after) e ∙ append_assoc old now after

pub in_three : (old one two three a b c : Rows) → one ≡ old ++ a → two ≡ one ++ b → three ≡ two ++ c → three ≡ old ++ (a ++ b ++ c)
in_three old one two three a b c e f g = in_two old two three (a ++ b) c (in_two old one two a b e f) g

pub in_five : (old one two three four five a b c d r : Rows) → one ≡ old ++ a → two ≡ one ++ b → three ≡ two ++ c → four ≡ three ++ d → five ≡ four ++ r → five ≡ old ++ (a ++ b ++ c ++ d ++ r)
in_five old one two three four five a b c d r e f g h k =
    in_two old four five (a ++ b ++ c ++ d) r (in_two old three four (a ++ b ++ c) d (in_three old one two three a b c e f g) h) k

-- a row more
pub pushed : (old new : List Row) (row : Row) (view : RowView) → new ≡ old ++ row ∷ [] → row_of row ≡ view → map row_of new ≡ map row_of old ++ view ∷ []
pushed old new row view e f = ap (map row_of) e ∙ map_push row_of old row ∙ ap (λ (v : RowView). map row_of old ++ v ∷ []) f

-- no row more
pub unchanged : (rows more : Rows) → more ≡ [] → rows ≡ rows ++ more
unchanged rows more e = sym (ap (λ (rs : Rows). rows ++ rs) e ∙ append-nil rows)

-- the root has no row
pub root-rows : (c : ChangeView) → row_at c.new.tree 0 ≡ root_row → node_rows c 0 ≡ []
root-rows c e = ap (λ (r : T.Row). cond (is_listed (head_of r.kind)) (fate_rows c 0 (get_or c.fates 0 F.New)) []) e

pub begun : (c : ChangeView) (rows : Rows) → row_at c.new.tree 0 ≡ root_row → rows ≡ rows ++ nodes_rows c 1
begun c rows e = unchanged rows (nodes_rows c 1) (root-rows c e)

-- the rows of a node more
pub node-more : (c : ChangeView) (old before after : Rows) (n : ℕ) → before ≡ old ++ nodes_rows c n → after ≡ before ++ node_rows c n → after ≡ old ++ nodes_rows c (n + 1)
node-more c old before after n e f = in_two old before after (nodes_rows c n) (node_rows c n) e f ∙ ap (λ (k : ℕ). old ++ nodes_rows c k) (sym (add-one n))

-- the rows of one of some nodes more
pub gone-more : (f : ℕ → Rows) (old before after : Rows) (xs : List ℕ) (i : ℕ) → i < length xs → before ≡ old ++ flat_map f (take i xs) → after ≡ before ++ f (get_or xs i 0)
    → after ≡ old ++ flat_map f (take (i + 1) xs)
gone-more f old before after xs i h e g =
    let x = get_or xs i 0 in
    in_two old before after (flat_map f (take i xs)) (f x) e g
    ∙ ap (λ (rs : Rows). old ++ rs) (sym (ap (flat_map f) (take_more xs i 0 h) ∙ flat_map-append f (take i xs) (x ∷ []) ∙ ap (λ (rs : Rows). flat_map f (take i xs) ++ rs) (append-nil (f x))))

-- who has a parent isn't the root
pub record HasParent (tree : List T.Row) (n class : ℕ) : Type 0 where
  pub above : 0 < n
  pub is : parent tree n ≡ class

pub has-parent : (tree : List T.Row) (n class : ℕ) → parent_of tree n ≡ Some class → HasParent tree n class
has-parent tree zero class e = let wrong : None ≡ Some class = e in absurd (cc)
has-parent tree (suc n) class e = let whole : Some (parent tree (suc n)) ≡ Some class = e in record { above = omega arith; is = (let same : parent tree (suc n) ≡ class = cc in same) }

pub no-parent : (tree : List T.Row) (n : ℕ) → parent_of tree n ≡ None → n ≡ 0
no-parent tree zero e = refl
no-parent tree (suc n) e = let wrong : Some (parent tree (suc n)) ≡ None = e in absurd (cc)
