-- Marks of one node as they count: no two are alike, so that a node with as many as are kept has too many keys.
use Rattle.std.proofs.Common.{◌≡◌, ℕ, zero, suc, ◌+◌, ◌<◌, ◌≤◌, List, [], ◌∷◌, ◌++◌, Bool, true, false, ◌||◌, ◌&&◌, Option, Some, None, cond, length, map, nat_lt, refl, sym, ap, ap₂, ◌∙◌, arith, append_assoc, bytes_eq}
use Rattle.std.proofs.lemmas.Bool.Decides.{nat_tests}
use Rattle.std.proofs.lemmas.Cmp.{nat_list_eq_equiv}
use Rattle.std.proofs.lemmas.List.{length-append, length-map}
use Rattle.std.proofs.lemmas.List.Folds.{list_any-append}
use Rattle.std.proofs.lemmas.Map.Made.{length-le_from_is_member}
use Rattle.std.specs.Cmp.{IsEquivalence}
use Rattle.std.specs.List.{AllByRecursion, IsDistinct, list_any}
use Rattle.std.specs.Option.{option_or}
use Rattle.iso_model.specs.ResourceKeys.{global_key}
use Rattle.iso_model.specs.NameSets.{is_among}
use Rattle.iso_model.specs.Scripts.{Class, class, Member, class_member, test_member, Members, no_members, member, Script}
use Rattle.iso_model.specs.Targets.{is_target}
use Rattle.iso_model.specs.declared.access.Access.TheVariants.{Read}
use Rattle.iso_model.specs.declared.heads.Mark.{Mark}
use Rattle.iso_model.specs.declared.heads.Target.{Target}
use Rattle.iso_model.specs.declared.heads.Target.TheVariants.{Itself, Children}
use Rattle.iso_model.specs.declared.limits.TheConstants.{KEYS}
use Rattle.iso_plan.proofs.LawLemmas.{all_have}
use Rattle.iso_plan.specs.Faults.{keys_fault, nodes_fault, plan_fault, scripts_fault}
use Rattle.iso_plan.specs.KeyTable.{keys, mark_keys, marked_keys}
use Rattle.iso_plan.specs.Merged.{all_merged, as_one, is_same_key, merged, most_marks, with_all_marks, with_any_mark, with_mark, with_marks}
use Rattle.iso_plan.specs.Paths.{row_at}
use Rattle.iso_plan.specs.KeptNodes.{is_kept_by, plan_tree, renumbered, selection, those_below}
use Rattle.iso_plan.specs.declared.fault.PlanFault.{PlanFault}
use Rattle.iso_plan.specs.declared.fault.PlanFault.TheVariants.{TooManyKeys}
use Rattle.iso_plan.specs.Tree.{Row, class_rows, effective_row, member_rows, members_rows, script_rows, team_rows, top_rows, tree, written_tree}

-- no two marks are alike
abbrev pub AreApart : List Mark → Type 0
AreApart ns = IsDistinct is_same_key ns

-- a mark that is like none of these is like none with one more that it isn't like
apart_one : (most : ℕ) (ns : List Mark) (m n : Mark) → AllByRecursion (λ x. is_same_key n x ≡ false) ns → is_same_key n m ≡ false → AllByRecursion (λ x. is_same_key n x ≡ false) (with_mark most ns m)
apart_one zero ns m n h e = h
apart_one (suc most) [] m n h e = (e, tt)
apart_one (suc most) (x ∷ xs) m n h e =
    elim (is_same_key x m) as (λ t. AllByRecursion (λ y. is_same_key n y ≡ false) (cond t (as_one x m ∷ xs) (x ∷ with_mark most xs m))) [
      | true ↦ (h.0, h.1)
      | false ↦ (h.0, apart_one most xs m n h.1 e)
    ]

apart_with : (most : ℕ) (ns : List Mark) (m : Mark) → AreApart ns → AreApart (with_mark most ns m)
unfolding IsDistinct
apart_with zero ns m h = h
apart_with (suc most) [] m h = (tt, tt)
apart_with (suc most) (x ∷ xs) m h =
    elim (is_same_key x m) as (λ t. is_same_key x m ≡ t → IsDistinct is_same_key (cond t (as_one x m ∷ xs) (x ∷ with_mark most xs m))) [
      | true ↦ λ e. (h.0, h.1)
      | false ↦ λ e. (apart_one most xs m x h.0 e, apart_with most xs m h.1)
    ] refl

apart_all : (ms ns : List Mark) → AreApart ns → AreApart (with_marks ns ms)
apart_all [] ns h = h
apart_all (m ∷ ms) ns h = apart_all ms (with_mark most_marks ns m) (apart_with most_marks ns m h)

none_apart : AreApart []
unfolding IsDistinct
none_apart = tt

-- the marks as they count are of different keys or targets
pub merged_apart : (ms : List Mark) → AreApart (merged ms)
merged_apart ms = apart_all ms [] none_apart

-- marks of one key and target are alike
target_refl : (t : Target) → is_target t t ≡ true
target_refl Itself = refl
target_refl Children = refl

target_symm : (t u : Target) → is_target t u ≡ is_target u t
target_symm Itself Itself = refl
target_symm Itself Children = refl
target_symm Children Itself = refl
target_symm Children Children = refl

target_congr : (t u v : Target) → is_target t u ≡ true → is_target t v ≡ is_target u v
target_congr Itself Itself v h = refl
target_congr Itself Children v h = let wrong : false ≡ true = h in absurd (cc)
target_congr Children Itself v h = let wrong : false ≡ true = h in absurd (cc)
target_congr Children Children v h = refl

both_true : (a b : Bool) → a ≡ true → b ≡ true → (a && b) ≡ true
both_true a b ha hb = rw (ha, hb) refl

pub first_true : (a b : Bool) → (a && b) ≡ true → a ≡ true
first_true true b h = refl
first_true false b h = h

pub second_true : (a b : Bool) → (a && b) ≡ true → b ≡ true
second_true true b h = h
second_true false b h = let wrong : false ≡ true = h in absurd (cc)

alike : IsEquivalence is_same_key
alike = record {
  refl = λ m. both_true (bytes_eq m.key m.key) (is_target m.target m.target) (nat_list_eq_equiv.refl m.key) (target_refl m.target);
  symm = λ m n. ap₂ (λ (a b : Bool). a && b) (nat_list_eq_equiv.symm m.key n.key) (target_symm m.target n.target);
  congr = λ l m n h.
      ap₂ (λ (a b : Bool). a && b)
      (nat_list_eq_equiv.congr l.key m.key n.key (first_true (bytes_eq l.key m.key) (is_target l.target m.target) h))
      (target_congr l.target m.target n.target (second_true (bytes_eq l.key m.key) (is_target l.target m.target) h));
}

-- the marks of keys for one target, and for both
abbrev marks_to : Target → List (List ℕ) → List Mark
marks_to t ks = map (λ k. record { key = k; access = Read; target = t }) ks

abbrev marks_of_keys : List (List ℕ) → List Mark
marks_of_keys ks = marks_to Itself ks ++ marks_to Children ks

abbrev is_of : Mark → List ℕ → Bool
is_of q k = bytes_eq q.key k

mark_there : (q : Mark) (t : Target) (ks : List (List ℕ)) → is_target q.target t ≡ true → list_any (is_of q) ks ≡ true → list_any (is_same_key q) (marks_to t ks) ≡ true
mark_there q t [] same h = h
mark_there q t (k ∷ ks) same h =
    elim (bytes_eq q.key k) as (λ b. (b || list_any (is_of q) ks) ≡ true → ((b && is_target q.target t) || list_any (is_same_key q) (marks_to t ks)) ≡ true) [
      | true ↦ λ e. ap (λ (b : Bool). b || list_any (is_same_key q) (marks_to t ks)) same
      | false ↦ λ e. mark_there q t ks same e
    ] h

or_assoc : (a b c : Bool) → ((a || b) || c) ≡ (a || (b || c))
or_assoc true b c = refl
or_assoc false b c = refl

or_first : (a b : Bool) → a ≡ true → (a || b) ≡ true
or_first a b h = ap (λ (x : Bool). x || b) h

or_second : (a b : Bool) → b ≡ true → (a || b) ≡ true
or_second true b h = refl
or_second false b h = h

-- a mark of one of these keys is like one of theirs
by_target : (q : Mark) (ks : List (List ℕ)) (t : Target) → q.target ≡ t → list_any (is_of q) ks ≡ true → list_any (is_same_key q) (marks_of_keys ks) ≡ true
by_target q ks Itself e h =
    list_any-append (is_same_key q) (marks_to Itself ks) (marks_to Children ks)
    ∙ or_first (list_any (is_same_key q) (marks_to Itself ks)) (list_any (is_same_key q) (marks_to Children ks)) (mark_there q Itself ks (ap (λ (u : Target). is_target u Itself) e) h)
by_target q ks Children e h =
    list_any-append (is_same_key q) (marks_to Itself ks) (marks_to Children ks)
    ∙ or_second (list_any (is_same_key q) (marks_to Itself ks)) (list_any (is_same_key q) (marks_to Children ks)) (mark_there q Children ks (ap (λ (u : Target). is_target u Children) e) h)

-- the key of a mark that is like one of these is one of theirs
key_there : (q : Mark) (ns : List Mark) → list_any (is_same_key q) ns ≡ true → list_any (is_of q) (mark_keys ns) ≡ true
key_there q [] h = h
key_there q (n ∷ ns) h =
    elim (bytes_eq q.key n.key) as (λ b. ((b && is_target q.target n.target) || list_any (is_same_key q) ns) ≡ true → (b || list_any (is_of q) (mark_keys ns)) ≡ true) [
      | true ↦ λ e. refl
      | false ↦ λ e. key_there q ns e
    ] h

-- marks of which no two are alike are no more than two for each of the keys that they are of
pub two-of-each : (ns : List Mark) (ks : List (List ℕ)) → AreApart ns
    → ((k : List ℕ) → list_any (bytes_eq k) (mark_keys ns) ≡ true → list_any (bytes_eq k) ks ≡ true) → length ns ≤ length ks + length ks
two-of-each ns ks apart among =
    let most = length-le_from_is_member alike ns (marks_of_keys ks) apart (λ q h. by_target q ks q.target refl (among q.key (key_there q ns h))) in
    let all = length-append (marks_to Itself ks) (marks_to Children ks) in
    let first = length-map {B = Mark} ks (λ k. record { key = k; access = Read; target = Itself }) in
    let second = length-map {B = Mark} ks (λ k. record { key = k; access = Read; target = Children }) in
    omega (arith, most, all, first, second)

-- no two marks that are written on a node are alike, as they count
abbrev IsApartRow : Row → Type 0
IsApartRow r = AreApart r.written

abbrev ApartRows : List Row → Type 0
ApartRows rs = AllByRecursion IsApartRow rs

both : (rs ss : List Row) → ApartRows rs → ApartRows ss → ApartRows (rs ++ ss)
both [] ss h k = k
both (r ∷ rs) ss h k = (h.0, both rs ss h.1 k)

mutual
  members_apart : (ms : Members) (p n : ℕ) → ApartRows (members_rows p n ms)
  members_apart no_members p n = tt
  members_apart (member m ms) p n =
      let first = member_rows p n m in
      both first (members_rows p (n + length first) ms) (member_apart m p n) (members_apart ms p (n + length first))

  member_apart : (m : Member) (p n : ℕ) → ApartRows (member_rows p n m)
  member_apart (test_member t) p n = (merged_apart t.head.marks, tt)
  member_apart (class_member c) p n = class_apart c p n

  class_apart : (c : Class) (p n : ℕ) → ApartRows (class_rows p n c)
  class_apart (class c ms) p n = (merged_apart c.head.marks, members_apart ms n (n + 1))

top_apart : (team : List ℕ) (n : ℕ) (c : Class) → ApartRows (top_rows team n c)
top_apart team n (class c ms) = (merged_apart c.head.marks, members_apart ms n (n + 1))

team_apart : (team : List ℕ) (n : ℕ) (cs : List Class) → ApartRows (team_rows team n cs)
team_apart team n [] = tt
team_apart team n (c ∷ cs) = let first = top_rows team n c in both first (team_rows team (n + length first) cs) (top_apart team n c) (team_apart team (n + length first) cs)

scripts_apart : (n : ℕ) (ss : List Script) → ApartRows (script_rows n ss)
scripts_apart n [] = tt
scripts_apart n (s ∷ ss) = let first = team_rows s.team n s.classes in both first (script_rows (n + length first) ss) (team_apart s.team n s.classes) (scripts_apart (n + length first) ss)

effective_apart : (rows rs : List Row) → ApartRows rs → ApartRows (map (effective_row rows) rs)
effective_apart rows [] h = tt
effective_apart rows (r ∷ rs) h = (h.0, effective_apart rows rs h.1)

tree_apart : (scripts : List Script) → ApartRows (tree scripts)
tree_apart scripts = effective_apart (written_tree scripts) (written_tree scripts) (none_apart, scripts_apart 1 scripts)

row_apart : (rs : List Row) (n : ℕ) → ApartRows rs → IsApartRow (row_at rs n)
row_apart [] zero h = none_apart
row_apart [] (suc n) h = none_apart
row_apart (r ∷ rs) zero h = h.0
row_apart (r ∷ rs) (suc n) h = row_apart rs n h.1

kept_apart : (passes : ℕ → Bool) (rs : List Row) (ns : List ℕ) → ApartRows rs → ApartRows (map (λ n. renumbered passes (row_at rs n)) ns)
kept_apart passes rs [] h = tt
kept_apart passes rs (n ∷ ns) h = (row_apart rs n h, kept_apart passes rs ns h)

selection_apart : (rs : List Row) (only : List (List ℕ)) → ApartRows rs → ApartRows (selection rs only)
selection_apart rs [] h = h
selection_apart rs (p ∷ ps) h = kept_apart (is_kept_by rs (p ∷ ps)) rs (those_below (is_kept_by rs (p ∷ ps)) (length rs)) h

-- what is written on a node is among the keys of its tree
pub row_keys : (rs : List Row) (n : ℕ) (k : List ℕ) → list_any (bytes_eq k) (mark_keys (row_at rs n).written) ≡ true → list_any (bytes_eq k) (marked_keys rs) ≡ true
row_keys [] zero k h = h
row_keys [] (suc n) k h = h
row_keys (r ∷ rs) zero k h =
    list_any-append (bytes_eq k) (mark_keys r.written) (marked_keys rs) ∙ or_first (list_any (bytes_eq k) (mark_keys r.written)) (list_any (bytes_eq k) (marked_keys rs)) h
row_keys (r ∷ rs) (suc n) k h =
    list_any-append (bytes_eq k) (mark_keys r.written) (marked_keys rs) ∙ or_second (list_any (bytes_eq k) (mark_keys r.written)) (list_any (bytes_eq k) (marked_keys rs)) (row_keys rs n k h)

-- a tree whose keys aren't too many has no more than may be
few_by : (b : Bool) (n : ℕ) → nat_lt (KEYS + 1) n ≡ b → cond b (Some TooManyKeys) None ≡ None → n ≤ KEYS + 1
few_by true n e h = let no : Some TooManyKeys ≡ None = h in absurd (cc)
few_by false n e h = grind (arith, nat_tests)

last_none : (o p q : Option PlanFault) → option_or o (option_or p q) ≡ None → q ≡ None
last_none None None q h = h
last_none None (Some f) q h = let no : Some f ≡ None = h in absurd (cc)
last_none (Some f) p q h = let no : Some f ≡ None = h in absurd (cc)

pub none-left-out : (scripts : List Script) (only : List (List ℕ)) → plan_fault scripts only ≡ None → (n : ℕ) → length (row_at (plan_tree scripts only) n).written < most_marks
none-left-out scripts only well n =
    let rows = plan_tree scripts only in
    let written = (row_at rows n).written in
    let few : length (keys rows) ≤ KEYS + 1 = few_by (nat_lt (KEYS + 1) (length (keys rows))) (length (keys rows)) refl
    (last_none (scripts_fault scripts) (nodes_fault scripts only) (keys_fault rows) well) in
    let most : length written ≤ length (keys rows) + length (keys rows) =
    two-of-each written (keys rows) (row_apart rows n (selection_apart (tree scripts) only (tree_apart scripts)))
    (λ k h. all_have (marked_keys rows) (global_key ∷ []) k (row_keys rows n k h)) in
    omega (arith, few, most)

-- with a bound or without, one mark more comes to the same where the marks don't reach the bound
with_bound : (most : ℕ) (ns : List Mark) (m : Mark) → length (with_mark most ns m) < most → with_mark most ns m ≡ with_any_mark ns m
with_bound zero ns m h = absurd (omega arith)
with_bound (suc most) [] m h = refl
with_bound (suc most) (n ∷ ns) m h =
    elim (is_same_key n m) as (λ t. length (cond t (as_one n m ∷ ns) (n ∷ with_mark most ns m)) < suc most
    → cond t (as_one n m ∷ ns) (n ∷ with_mark most ns m) ≡ cond t (as_one n m ∷ ns) (n ∷ with_any_mark ns m)) [
      | true ↦ λ k. refl
      | false ↦ λ k. ap (λ (xs : List Mark). n ∷ xs) (with_bound most ns m (omega (arith, k)))
    ] h

no_fewer : (most : ℕ) (ns : List Mark) (m : Mark) → length ns ≤ length (with_mark most ns m)
no_fewer zero ns m = omega arith
no_fewer (suc most) [] m = omega arith
no_fewer (suc most) (n ∷ ns) m =
    let rest = no_fewer most ns m in
    elim (is_same_key n m) as (λ t. suc (length ns) ≤ length (cond t (as_one n m ∷ ns) (n ∷ with_mark most ns m))) [ true ↦ omega arith | false ↦ omega (arith, rest) ]

no_fewer_all : (ms ns : List Mark) → length ns ≤ length (with_marks ns ms)
no_fewer_all [] ns = omega arith
no_fewer_all (m ∷ ms) ns = let here = no_fewer most_marks ns m in let rest = no_fewer_all ms (with_mark most_marks ns m) in omega (arith, here, rest)

all_kept : (ms ns : List Mark) → length (with_marks ns ms) < most_marks → with_marks ns ms ≡ with_all_marks ns ms
all_kept [] ns h = refl
all_kept (m ∷ ms) ns h =
    let next = with_mark most_marks ns m in
    let so_far = no_fewer_all ms next in
    all_kept ms next h ∙ ap (λ xs. with_all_marks xs ms) (with_bound most_marks ns m (omega (arith, so_far, h)))

pub all-kept : (ms : List Mark) → length (merged ms) < most_marks → merged ms ≡ all_merged ms
all-kept ms h = all_kept ms [] h

either : (a b c : Bool) → (b ≡ true → c ≡ true) → (a || b) ≡ true → (a || c) ≡ true
either true b c f h = refl
either false b c f h = f h

among_front : (ns ms : List Mark) (k : List ℕ) → is_among (mark_keys ns) k ≡ true → is_among (mark_keys (ns ++ ms)) k ≡ true
among_front [] ms k h = let wrong : false ≡ true = h in absurd (cc)
among_front (n ∷ ns) ms k h = either (bytes_eq n.key k) (is_among (mark_keys ns) k) (is_among (mark_keys (ns ++ ms)) k) (among_front ns ms k) h

-- a key of the marks with one more is one of theirs or its own
key_with : (most : ℕ) (ns : List Mark) (m : Mark) (k : List ℕ) → is_among (mark_keys (with_mark most ns m)) k ≡ true → is_among (mark_keys (ns ++ m ∷ [])) k ≡ true
key_with zero ns m k h = among_front ns (m ∷ []) k h
key_with (suc most) [] m k h = h
key_with (suc most) (n ∷ ns) m k h =
    elim (is_same_key n m) as (λ t. is_among (mark_keys (cond t (as_one n m ∷ ns) (n ∷ with_mark most ns m))) k ≡ true → (bytes_eq n.key k || is_among (mark_keys (ns ++ m ∷ [])) k) ≡ true) [
      | true ↦ λ e. either (bytes_eq n.key k) (is_among (mark_keys ns) k) (is_among (mark_keys (ns ++ m ∷ [])) k) (among_front ns (m ∷ []) k) e
      | false ↦ λ e. either (bytes_eq n.key k) (is_among (mark_keys (with_mark most ns m)) k) (is_among (mark_keys (ns ++ m ∷ [])) k) (key_with most ns m k) e
    ] h

among_append : (xs ys : List Mark) (k : List ℕ) → is_among (mark_keys (xs ++ ys)) k ≡ (is_among (mark_keys xs) k || is_among (mark_keys ys) k)
among_append [] ys k = refl
among_append (x ∷ xs) ys k = ap (λ b. bytes_eq x.key k || b) (among_append xs ys k) ∙ sym (or_assoc (bytes_eq x.key k) (is_among (mark_keys xs) k) (is_among (mark_keys ys) k))

more : (a b c : Bool) → (a ≡ true → b ≡ true) → (a || c) ≡ true → (b || c) ≡ true
more true b c f h = ap (λ x. x || c) (f refl)
more false b c f h = or_second b c h

among_more : (xs ys ms : List Mark) (k : List ℕ) → (is_among (mark_keys xs) k ≡ true → is_among (mark_keys ys) k ≡ true)
    → is_among (mark_keys (xs ++ ms)) k ≡ true → is_among (mark_keys (ys ++ ms)) k ≡ true
among_more xs ys ms k f h = among_append ys ms k ∙ more (is_among (mark_keys xs) k) (is_among (mark_keys ys) k) (is_among (mark_keys ms) k) f (sym (among_append xs ms k) ∙ h)

key_all : (ms ns : List Mark) (k : List ℕ) → is_among (mark_keys (with_marks ns ms)) k ≡ true → is_among (mark_keys (ns ++ ms)) k ≡ true
key_all [] ns k h = among_front ns [] k h
key_all (m ∷ ms) ns k h =
    ap (λ (xs : List Mark). is_among (mark_keys xs) k) (sym (append_assoc ns (m ∷ []) ms))
    ∙ among_more (with_mark most_marks ns m) (ns ++ m ∷ []) ms k (key_with most_marks ns m k) (key_all ms (with_mark most_marks ns m) k h)

pub keys-written : (ms : List Mark) (k : List ℕ) → is_among (mark_keys (merged ms)) k ≡ true → is_among (mark_keys ms) k ≡ true
keys-written ms k h = key_all ms [] k h
