-- The frames that a body begins with are those that the opening of its classes left.
use Rattle.std.proofs.Common.{◌≡◌, ℕ, zero, suc, ◌<◌, ◌≤◌, List, [], ◌∷◌, ◌++◌, length, map, reverse, Bool, true, false, cond, refl, sym, ap, ap₂, append_assoc, append-nil, ◌∙◌, arith, subst, true≢false}
use Rattle.std.proofs.lemmas.List.{length-map, length-reverse, map-append, reverse-append, reverse-reverse}
use Rattle.std.proofs.lemmas.List.Elements.{recursion_from_All}
use Rattle.std.specs.List.{All, AllByRecursion}
use Rattle.iso_model.specs.Chains.{ClassHead}
use Rattle.iso_model.specs.Names.{at_literals}
use Rattle.iso_model.specs.Openings.{Frame, before_all, opened, opening}
use Rattle.iso_model.specs.Resources.{Resources}
use Rattle.iso_model.specs.Tests.{test_names}
use Rattle.iso_model.specs.declared.names.Binding.{Binding}
use Rattle.iso_model.specs.declared.names.Sort.TheVariants.{Field}
use Rattle.iso_plan.specs.NodeChains.{chain_classes, class_heads, heads_on}
use Rattle.iso_plan.specs.Paths.{parent, path, row_at, up}
use Rattle.iso_plan.specs.Planned.{Planned}
use Rattle.iso_plan.specs.RowView.{tree_of}
use Rattle.iso_plan.specs.Tree.{Kind, root, class_node, test_node, Row}
use Rattle.iso_settings.specs.Worlds.{Start}
use Rattle.iso_lifecycle.specs.Subjects.{IsOfClass, Subject, classes_of, enclosing, first_fields, framed, frames_of, is_kind_of, names_seen, opened_before, opening_of, own_fields, own_frame, started, subject}
use Rattle.iso_lifecycle.specs.declared.kind.BodyKind.{BodyKind}
use Rattle.iso_lifecycle.specs.declared.kind.BodyKind.TheVariants.{BeforeAll, Test, AfterAll}
use Rattle.iso_lifecycle.proofs.Comings.{InClass, closes-class, frames-are, in-class, in-test, node_kind}

-- the laws of a plan's paths and chains
pub record Leads (tree : List Row) : Type 0 where
  pub root : path tree 0 ≡ []
  pub step : (n : ℕ) → 0 < n → path tree n ≡ n ∷ path tree (parent tree n)
  pub grows : (n : ℕ) → 0 < n → chain_classes tree n ≡ class_heads (row_at tree n).kind ++ chain_classes tree (parent tree n)

abbrev first : ℕ → List ℕ → ℕ
first d [] = d
first d (n ∷ ns) = n

abbrev rest : List ℕ → List ℕ
rest [] = []
rest (n ∷ ns) = ns

abbrev is_nil : List ℕ → Bool
is_nil [] = true
is_nil (n ∷ ns) = false

-- a node that has a path isn't the root
some-path : (tree : List Row) → Leads tree → (n k : ℕ) (ks : List ℕ) → path tree n ≡ k ∷ ks → 0 < n
some-path tree l zero k ks e = absurd (true≢false (ap is_nil (sym l.root ∙ e)))
some-path tree l (suc n) k ks e = omega arith

shut : (c : ClassHead) (cs : List ClassHead) (m : Resources) (b : Bool) → (opening cs m).well ≡ b
    → (cond b (opened (opening cs m) (before_all c cs (opening cs m))) (opening cs m)).well ≡ true → b ≡ true
shut c cs m true e h = refl
shut c cs m false e h = sym e ∙ h

-- where a chain was opened well, so were the enclosing classes
enclosing-well : (s : Subject) → InClass s → (opening_of s).well ≡ true → (opening_of (enclosing s)).well ≡ true
enclosing-well s w well =
    let cs = classes_of (enclosing s) in
    let m = started s.start in
    shut w.head cs m (opening cs m).well refl (ap (λ (ds : List ClassHead). (opening ds m).well) (sym w.chain) ∙ well)

-- each node of a list is a class
abbrev pub AreClasses : Planned → Start → List ℕ → Type 0
AreClasses p start [] = Unit {0}
AreClasses p start (n ∷ ns) = IsOfClass (subject p start n) × AreClasses p start ns

along : (p : Planned) (start : Start) → Leads (tree_of p) → (n : ℕ) (ns : List ℕ) → path (tree_of p) n ≡ ns → AreClasses p start ns → (opening_of (subject p start n)).well ≡ true
    → (opening_of (subject p start n)).frames ≡ map own_frame (map (subject p start) ns)
along p start l n [] e classes well = ap (λ (ks : List ℕ). (opening (heads_on (tree_of p) ks) (started start)).frames) e
along p start l n (k ∷ ks) e classes well =
    let tree = tree_of p in
    let s = subject p start n in
    let pos = some-path tree l n k ks e in
    let both : n ∷ path tree (parent tree n) ≡ k ∷ ks = sym (l.step n pos) ∙ e in
    let same : n ≡ k = ap (first 0) both in
    let up : path tree (parent tree n) ≡ ks = ap rest both in
    let class : IsOfClass s = subst (λ (j : ℕ). IsOfClass (subject p start j)) (sym same) classes.0 in
    let w = in-class s (l.grows n pos) class in
    let outside = enclosing-well s w well in
    frames-are s (l.grows n pos) class outside
    ∙ (λ i. own_frame (subject p start (same i)) ∷ along p start l (parent tree n) ks up classes.1 outside i)

rec-left : (P : Subject → Type 0) (xs ys : List Subject) → AllByRecursion P (xs ++ ys) → AllByRecursion P xs
rec-left P [] ys all = tt
rec-left P (x ∷ xs) ys all = (all.0, rec-left P xs ys all.1)

rec-right : (P : Subject → Type 0) (xs ys : List Subject) → AllByRecursion P (xs ++ ys) → AllByRecursion P ys
rec-right P [] ys all = all
rec-right P (x ∷ xs) ys all = rec-right P xs ys all.1

map-reverse : {A B : Type 0} (f : A → B) (xs : List A) → map f (reverse xs) ≡ reverse (map f xs)
map-reverse f [] = refl
map-reverse f (x ∷ xs) =
    ap (map f) (reverse-append (x ∷ []) xs) ∙ map-append f (reverse xs) (x ∷ [])
    ∙ ap (λ ys. ys ++ f x ∷ []) (map-reverse f xs) ∙ sym (reverse-append (f x ∷ []) (map f xs))

are-classes : (p : Planned) (start : Start) (ns : List ℕ) → AllByRecursion IsOfClass (map (subject p start) (reverse ns)) → AreClasses p start ns
are-classes p start [] all = tt
are-classes p start (n ∷ ns) all =
    let f = subject p start in
    let whole = subst (λ (xs : List Subject). AllByRecursion IsOfClass xs) (ap (map f) (reverse-append (n ∷ []) ns) ∙ map-append f (reverse ns) (n ∷ [])) all in
    ((rec-right IsOfClass (map f (reverse ns)) (f n ∷ []) whole).0, are-classes p start ns (rec-left IsOfClass (map f (reverse ns)) (f n ∷ []) whole))

classes_there : (p : Planned) (start : Start) (ns : List ℕ) (frames : List Subject) → frames ≡ map (subject p start) (reverse ns) → All IsOfClass frames → AreClasses p start ns
classes_there p start ns frames are all =
    are-classes p start ns (recursion_from_All IsOfClass (map (subject p start) (reverse ns)) (subst (λ (xs : List Subject). All IsOfClass xs) are all))

turned : (p : Planned) (start : Start) (ns : List ℕ) (frames : List Subject) → frames ≡ map (subject p start) (reverse ns) → frames_of frames ≡ map own_frame (map (subject p start) ns)
turned p start ns frames are =
    ap frames_of are
    ∙ ap (λ (xs : List Subject). reverse (map own_frame xs)) (map-reverse (subject p start) ns)
    ∙ ap reverse (map-reverse own_frame (map (subject p start) ns))
    ∙ reverse-reverse (map own_frame (map (subject p start) ns))

-- the frames of the classes that were opened well
pub frames-along : (p : Planned) (start : Start) (n : ℕ) (frames : List Subject) → Leads (tree_of p) → frames ≡ map (subject p start) (reverse (path (tree_of p) n)) → All IsOfClass frames
    → (opening_of (subject p start n)).well ≡ true → frames_of frames ≡ (opening_of (subject p start n)).frames
frames-along p start n frames l are all well =
    let ns = path (tree_of p) n in
    turned p start ns frames are ∙ sym (along p start l n ns refl (classes_there p start ns frames are all) well)

-- and those with a class's own, whatever that came to
pub frames-with-own : (s : Subject) (frames : List Subject) → Leads (tree_of s.plan) → 0 < s.node → IsOfClass s
    → frames ≡ map (subject s.plan s.start) (reverse (path (tree_of s.plan) s.node)) → All IsOfClass frames
    → (opening_of (enclosing s)).well ≡ true → frames_of frames ≡ (opening_of s).frames
frames-with-own s frames l pos class are all well =
    let p = s.plan in
    let tree = tree_of p in
    let up = parent tree s.node in
    let f = subject p s.start in
    let ks = path tree up in
    let there : frames ≡ map f (reverse (s.node ∷ ks)) = are ∙ ap (λ (ns : List ℕ). map f (reverse ns)) (l.step s.node pos) in
    let classes = classes_there p s.start (s.node ∷ ks) frames there all in
    turned p s.start (s.node ∷ ks) frames there
    ∙ ap (λ (fs : List Frame). own_frame s ∷ fs) (sym (along p s.start l up ks refl classes.1 well))
    ∙ sym (frames-are s (l.grows s.node pos) class well)

-- the frames that a body of a kind begins with
pub frames-before : (kind : BodyKind) (s : Subject) (frames : List Subject) → Leads (tree_of s.plan) → 0 < s.node → is_kind_of kind (node_kind s) ≡ true
    → frames ≡ map (subject s.plan s.start) (framed kind s) → All IsOfClass frames → (opening_of (enclosing s)).well ≡ true → frames_of frames ≡ (opened_before kind s).frames
frames-before BeforeAll s frames l pos fits are all well = frames-along s.plan s.start (parent (tree_of s.plan) s.node) frames l are all well
frames-before Test s frames l pos fits are all well =
    frames-along s.plan s.start (parent (tree_of s.plan) s.node) frames l are all well
    ∙ ap (λ (ds : List ClassHead). (opening ds (started s.start)).frames) (sym (in-test s (l.grows s.node pos) fits).chain)
frames-before AfterAll s frames l pos fits are all well = frames-with-own s frames l pos (closes-class (node_kind s) fits) are all well

seen-both : (xs ys : List Subject) → names_seen (xs ++ ys) ≡ names_seen xs ++ names_seen ys
seen-both [] ys = refl
seen-both (x ∷ xs) ys =
    ap (λ ns. ((own_frame x).statics ++ own_fields x) ++ ns) (seen-both xs ys)
    ∙ sym (append_assoc ((own_frame x).statics ++ own_fields x) (names_seen xs) (names_seen ys))

-- the names that a test begins with in the classes on a path
seen-along : (p : Planned) (start : Start) → Leads (tree_of p) → (n : ℕ) (ns : List ℕ) → path (tree_of p) n ≡ ns → AreClasses p start ns
    → names_seen (map (subject p start) (reverse ns)) ≡ test_names (classes_of (subject p start n)) (map own_frame (map (subject p start) ns))
seen-along p start l n [] e classes = ap (λ (ks : List ℕ). test_names (heads_on (tree_of p) ks) []) (sym e)
seen-along p start l n (k ∷ ks) e classes =
    let tree = tree_of p in
    let f = subject p start in
    let s = f n in
    let pos = some-path tree l n k ks e in
    let both : n ∷ path tree (parent tree n) ≡ k ∷ ks = sym (l.step n pos) ∙ e in
    let same : n ≡ k = ap (first 0) both in
    let up : path tree (parent tree n) ≡ ks = ap rest both in
    let class : IsOfClass s = subst (λ (j : ℕ). IsOfClass (f j)) (sym same) classes.0 in
    let w = in-class s (l.grows n pos) class in
    let outer = map own_frame (map f ks) in
    let fields : own_fields (f k) ≡ at_literals Field w.head.fields = ap (λ (j : ℕ). own_fields (f j)) (sym same) ∙ ap first_fields w.chain in
    let here = (own_frame (f k)).statics in
    ap names_seen (ap (map f) (reverse-append (k ∷ []) ks) ∙ map-append f (reverse ks) (k ∷ []))
    ∙ seen-both (map f (reverse ks)) (f k ∷ [])
    ∙ ap₂ (λ (xs ys : List Binding). xs ++ ys) (seen-along p start l (parent tree n) ks up classes.1) (append-nil (here ++ own_fields (f k)) ∙ ap (λ ys. here ++ ys) fields)
    ∙ sym (append_assoc (test_names (classes_of (enclosing s)) outer) here (at_literals Field w.head.fields))
    ∙ ap (λ (cs : List ClassHead). test_names cs (own_frame (f k) ∷ outer)) (sym w.chain)

-- what a test begins with is what its classes' frames give
pub names-before : (s : Subject) (frames : List Subject) → Leads (tree_of s.plan) → 0 < s.node → is_kind_of Test (node_kind s) ≡ true
    → frames ≡ map (subject s.plan s.start) (framed Test s) → All IsOfClass frames → names_seen frames ≡ test_names (classes_of s) (frames_of frames)
names-before s frames l pos fits are all =
    let p = s.plan in
    let up = parent (tree_of p) s.node in
    let ks = path (tree_of p) up in
    ap names_seen are ∙ seen-along p s.start l up ks refl (classes_there p s.start ks frames are all)
    ∙ ap₂ test_names (sym (in-test s (l.grows s.node pos) fits).chain) (sym (turned p s.start ks frames are))

one_head : (k : Kind) (cs : List ClassHead) → is_kind_of BeforeAll k ≡ true → length (class_heads k ++ cs) ≡ suc (length cs)
one_head root cs fits = absurd (true≢false (sym fits))
one_head (class_node isolated head) cs fits = refl
one_head (test_node head) cs fits = absurd (true≢false (sym fits))

heads_count : (p : Planned) (start : Start) (ns : List ℕ) → AreClasses p start ns → length (heads_on (tree_of p) ns) ≡ length ns
heads_count p start [] classes = refl
heads_count p start (n ∷ ns) classes = one_head (row_at (tree_of p) n).kind (heads_on (tree_of p) ns) classes.0 ∙ ap suc (heads_count p start ns classes.1)

-- there are as many frames as classes
pub frames-count : (p : Planned) (start : Start) (n : ℕ) (frames : List Subject) → frames ≡ map (subject p start) (reverse (path (tree_of p) n)) → All IsOfClass frames
    → length frames ≡ length (chain_classes (tree_of p) n)
frames-count p start n frames are all =
    let ns = path (tree_of p) n in
    ap length are ∙ length-map (reverse ns) (subject p start) ∙ length-reverse ns ∙ sym (heads_count p start ns (classes_there p start ns frames are all))

few_heads : (k : Kind) (cs : List ClassHead) → length (class_heads k ++ cs) ≤ suc (length cs)
few_heads root cs = omega arith
few_heads (class_node isolated head) cs = omega arith
few_heads (test_node head) cs = omega arith

heads_few : (tree : List Row) (ns : List ℕ) → length (heads_on tree ns) ≤ length ns
heads_few tree [] = omega arith
heads_few tree (n ∷ ns) =
    let more = few_heads (row_at tree n).kind (heads_on tree ns) in
    let fewer = heads_few tree ns in
    omega (arith, more, fewer)

up_short : (tree : List Row) (m n : ℕ) → length (up m tree n) ≤ m
up_short tree zero zero = omega arith
up_short tree (suc m) zero = omega arith
up_short tree zero (suc n) = omega arith
up_short tree (suc m) (suc n) = let less = up_short tree m (parent tree (suc n)) in omega (arith, less)

path_short : (tree : List Row) (n : ℕ) → length (path tree n) ≤ n
unfolding path
path_short tree n = up_short tree n n

-- a node stands in fewer classes than its number
pub chain-short : (tree : List Row) (n : ℕ) → length (chain_classes tree n) ≤ n
chain-short tree n =
    let heads = heads_few tree (path tree n) in
    let nodes = path_short tree n in
    omega (arith, heads, nodes)
