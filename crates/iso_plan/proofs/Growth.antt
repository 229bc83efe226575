-- A list of nodes that grows by the nodes of one member after another.
use Rattle.std.proofs.Common.{◌≡◌, ℕ, ◌+◌, ◌<◌, ◌≤◌, List, [], ◌∷◌, ◌++◌, Result, IfErr, length, map, drop, take, get_or, vec_len, sym, ap, ap₂, ◌∙◌, arith, append_assoc}
use Rattle.std.proofs.lemmas.List.{length-append, length-map, drop_more, map_push, take_more}
use Rattle.std.proofs.lemmas.Result.{IfErr-weaker}
use Rattle.std.specs.declared.alloc.Global.{Global}
use Rattle.std.specs.declared.vec.Vec.{Vec}
use Rattle.iso_model.specs.ScriptView.{class_of, class_step, member_of, member_step, members_of}
use Rattle.iso_model.specs.Scripts as S
use Rattle.iso_model.specs.Scripts.{class}
use Rattle.iso_model.specs.declared.script.Class.{Class}
use Rattle.iso_model.specs.declared.script.Member.{Member}
use Rattle.iso_model.specs.declared.script.Member.TheFolds.{fold_out-Class}
use Rattle.iso_plan.specs.Faults.{IsFull, PlanError}
use Rattle.iso_plan.specs.RowView.{row_of, title_of}
use Rattle.iso_plan.specs.Tree as T
use Rattle.iso_plan.specs.Tree.{members_rows}
use Rattle.iso_model.specs.declared.input_error.InputError.TheVariants.{Fault, OutOfMemory}
use Rattle.iso_plan.specs.declared.row.Row.{Row}

-- a list from a place on, with its first element apart
pub drop_next : {A : Type 0} (x : A) (xs : List A) (i : ℕ) → i < length xs → x ≡ get_or xs i x → drop i xs ≡ x ∷ drop (i + 1) xs
drop_next x xs i h e = drop_more xs i x h ∙ ap (λ y. y ∷ drop (i + 1) xs) (sym e)

-- what a list's front is made into, with what its next element is made into
pub mapped-next : {A B : Type 0} (f : A → B) (xs : List A) (ys : List B) (i : ℕ) (d x : A) → i < length xs → x ≡ get_or xs i d → ys ≡ map f (take i xs) → ys ++ f x ∷ [] ≡ map f (take (i + 1) xs)
mapped-next f xs ys i d x h e same =
    ap₂ (λ zs z. zs ++ f z ∷ []) same e ∙ sym (map_push f (take i xs) (get_or xs i d)) ∙ ap (map f) (sym (take_more xs i d h))

-- nodes F are added to nodes R, of which there were n
pub grown-next : (R R' F : List T.Row) (rest : ℕ → List T.Row) (n n' : ℕ) → R' ≡ R ++ F → n' ≡ n + length F → R' ++ rest n' ≡ R ++ (F ++ rest (n + length F))
grown-next R R' F rest n n' e l = ap (λ m. R' ++ rest m) l ∙ ap (λ xs. xs ++ rest (n + length F)) e ∙ append_assoc R F (rest (n + length F))

pub counted : (v v' : Vec Row Global) (F : List T.Row) → map row_of v'.items ≡ map row_of v.items ++ F → vec_len v' ≡ vec_len v + length F
counted v v' F e =
    let n : length v'.items ≡ length v.items + length F = simp (length-append, length-map) at (ap length e) in
    omega (arith, v.ok.0, v'.ok.0)

-- what is added next is no more than all that is added
pub bounded : (v v' : Vec Row Global) (F G A : List T.Row) → map row_of v.items ++ (F ++ G) ≡ map row_of v'.items ++ A → vec_len v + length F ≤ vec_len v' + length A
bounded v v' F G A e =
    let n : length v.items + (length F + length G) ≡ length v'.items + length A = simp (length-append, length-map) at (ap length e) in
    omega (arith, v.ok.0, v'.ok.0)

pub full-more : (most k m : ℕ) (e : PlanError) → k ≤ m → IsFull most k e → IsFull most m e
full-more most k m (Fault fault) h f = (f.0, omega arith)
full-more most k m OutOfMemory h f = f

-- a class is what is written before its members, and these
pub class-is : (c : Class) → class_of c ≡ class (title_of c) (members_of (map member_of c.members.items))
class-is c = fold_out-Class S.Member S.Class member_step class_step c

-- a node x, which is to be y, is added to nodes R, and then the nodes of its members
pub grown-first : (R R1 R2 : List T.Row) (x y : T.Row) (p n n1 : ℕ) (ms ms' : List Member) → R1 ≡ R ++ x ∷ [] → x ≡ y → p ≡ n → n1 ≡ n + 1 → ms ≡ ms'
    → R2 ≡ R1 ++ members_rows p n1 (members_of (map member_of ms)) → R2 ≡ R ++ y ∷ members_rows n (n + 1) (members_of (map member_of ms'))
grown-first R R1 R2 x y p n n1 ms ms' first same number next members rest =
    rest ∙ ap₂ (λ (xs : List T.Row) (m : ℕ). xs ++ members_rows p m (members_of (map member_of ms))) (first ∙ ap (λ (z : T.Row). R ++ z ∷ []) same) next
    ∙ append_assoc R (y ∷ []) (members_rows p (n + 1) (members_of (map member_of ms)))
    ∙ ap₂ (λ (q : ℕ) (xs : List Member). R ++ y ∷ members_rows q (n + 1) (members_of (map member_of xs))) number members

-- and what is refused among its members is refused of it
pub full-rest : {A : Type 0} (most : ℕ) (r : Result A PlanError) (y : T.Row) (p n n1 : ℕ) (ms ms' : List Member) → p ≡ n → n1 ≡ n + 1 → ms ≡ ms'
    → IfErr r (IsFull most (n1 + length (members_rows p n1 (members_of (map member_of ms))))) → IfErr r (IsFull most (n + length (y ∷ members_rows n (n + 1) (members_of (map member_of ms')))))
full-rest most r y p n n1 ms ms' number next members full =
    let count : ℕ → ℕ → List Member → ℕ = λ q m xs. length (members_rows q m (members_of (map member_of xs))) in
    let same : count p n1 ms ≡ count n (n + 1) ms' = ap₂ (λ (q m : ℕ). count q m ms) number next ∙ ap (count n (n + 1)) members in
    IfErr-weaker r (IsFull most (n1 + count p n1 ms)) (IsFull most (n + length (y ∷ members_rows n (n + 1) (members_of (map member_of ms')))))
    (λ e f. full-more most (n1 + count p n1 ms) (n + length (y ∷ members_rows n (n + 1) (members_of (map member_of ms')))) e (omega arith) f) full

-- a node that there is no room for is refused, and so is what begins with it
pub full-first : (most n : ℕ) (y : T.Row) (rest : List T.Row) (e : PlanError) → IsFull most (n + 1) e → IsFull most (n + length (y ∷ rest)) e
full-first most n y rest e f = full-more most (n + 1) (n + length (y ∷ rest)) e (omega arith) f
