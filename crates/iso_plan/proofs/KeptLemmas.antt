-- Which nodes are chosen and kept, node by node.
use Rattle.std.proofs.Common.{◌≡◌, ℕ, zero, suc, ◌+◌, ◌<◌, List, Some, [], ◌∷◌, Bor, drop, filter, length, get_or, set, replicate, Bool, true, false, not, ◌||◌, ◌&&◌, ◌==◌, cond, refl, sym, ap, ◌∙◌, arith, add-one}
use Rattle.std.proofs.lemmas.Bool.Decides.{nat_tests}
use Rattle.std.proofs.lemmas.List.{drop_more, get_or-map, get_or-set_same, get_or-set_other, length-map}
use Rattle.std.proofs.lemmas.List.Elements.{filter-append}
use Rattle.std.proofs.lemmas.List.Folds.{list_any-append}
use Rattle.std.specs.List.{list_any, position_from, range_with_len}
use Rattle.iso_model.specs.NameSets.{is_among}
use Rattle.iso_plan.proofs.SoFar.{numbers_more}
use Rattle.iso_plan.proofs.PathLemmas.{IsBelow, eq_from, eq_same, not-root, path-root, path-step}
use Rattle.iso_plan.specs.Paths.{is_on, is_root, is_under, parent, path}
use Rattle.iso_plan.specs.PathTexts.{path_text}
use Rattle.iso_plan.specs.KeptNodes.{is_chosen, is_named, texts_of}
use Rattle.iso_plan.specs.Tree.{Row}

pub chosen-root : (tree : List Row) (only : List (List ℕ)) → is_chosen tree only 0 ≡ false
chosen-root tree only = ap (list_any (is_named tree only)) (path-root tree)

-- a node is chosen where it is named, or what it stands in is chosen
pub chosen-step : (tree : List Row) → IsBelow tree → (only : List (List ℕ)) (n : ℕ) → 0 < n → is_chosen tree only n ≡ (is_among only (path_text tree n) || is_chosen tree only (parent tree n))
chosen-step tree b only n pos =
    ap (list_any (is_named tree only)) (path-step tree b n pos)
    ∙ ap (λ (t : Bool). (not t && is_among only (path_text tree n)) || is_chosen tree only (parent tree n)) (not-root n pos)

-- a place that is set to true
pub set-true : (xs : List Bool) (n m : ℕ) → n < length xs → get_or (set xs n true) m false ≡ ((n == m) || get_or xs m false)
set-true xs n m h =
    elim (n == m) as (λ t. (n == m) ≡ t → get_or (set xs n true) m false ≡ (t || get_or xs m false)) [
      | true ↦ λ e. ap (λ (k : ℕ). get_or (set xs n true) k false) (sym (eq_from n m e)) ∙ get_or-set_same xs n true false h
      | false ↦ λ e. get_or-set_other xs n m true false (λ same. let yes : (n == m) ≡ true = ap (λ (k : ℕ). n == k) same ∙ eq_same n in absurd (cc))
    ] refl

or_false : (a : Bool) → (a || false) ≡ a
or_false true = refl
or_false false = refl

or_moved : (a b c : Bool) → (a || (b || c)) ≡ ((b || a) || c)
or_moved true true c = refl
or_moved true false c = refl
or_moved false true c = refl
or_moved false false c = refl

-- a node is marked, and what it stands in is left to be
pub mark-step : (tree : List Row) → IsBelow tree → (xs : List Bool) (n p m : ℕ) → 0 < n → parent tree n ≡ p → n < length xs
    → (is_on (path tree p) m || get_or (set xs n true) m false) ≡ (is_on (path tree n) m || get_or xs m false)
mark-step tree b xs n p m pos up h =
    ap (λ (t : Bool). is_on (path tree p) m || t) (set-true xs n m h)
    ∙ or_moved (is_on (path tree p) m) (n == m) (get_or xs m false)
    ∙ sym (ap (λ (ns : List ℕ). is_on ns m || get_or xs m false) (path-step tree b n pos ∙ ap (λ (q : ℕ). n ∷ path tree q) up))

none-true : (n m : ℕ) → get_or (replicate n false) m false ≡ false
none-true zero m = refl
none-true (suc n) zero = refl
none-true (suc n) (suc m) = none-true n m

first_by : (tree : List Row) (test : ℕ → Bool) (m : ℕ) → (0 == m) ≡ (is_root m || list_any test (cond (is_under tree m 0) (0 ∷ []) []))
first_by tree test zero = refl
first_by tree test (suc m) =
    let apart : (0 == suc m) ≡ false = grind (arith, nat_tests) in
    apart ∙ sym (ap (λ (ns : List ℕ). list_any test (cond (is_on ns (suc m)) (0 ∷ []) [])) (path-root tree))

-- the root alone is kept at first
pub kept-first : (tree : List Row) (test : ℕ → Bool) (xs : List Bool) (n m : ℕ) → xs ≡ replicate n false → 0 < length xs
    → get_or (set xs 0 true) m false ≡ (is_root m || list_any test (cond (is_under tree m 0) (0 ∷ []) []))
kept-first tree test xs n m e h =
    set-true xs 0 m h ∙ ap (λ (ys : List Bool). (0 == m) || get_or ys m false) e ∙ ap (λ (t : Bool). (0 == m) || t) (none-true n m)
    ∙ or_false (0 == m) ∙ first_by tree test m

below_more : (tree : List Row) (test : ℕ → Bool) (m n : ℕ)
    → list_any test (filter (is_under tree m) (range_with_len 0 (n + 1))) ≡ (list_any test (filter (is_under tree m) (range_with_len 0 n)) || list_any test (filter (is_under tree m) (n ∷ [])))
below_more tree test m n =
    ap (λ (k : ℕ). list_any test (filter (is_under tree m) (range_with_len 0 k))) (add-one n)
    ∙ ap (λ (ns : List ℕ). list_any test (filter (is_under tree m) ns)) (numbers_more n)
    ∙ ap (list_any test) (filter-append (is_under tree m) (range_with_len 0 n) (n ∷ []))
    ∙ list_any-append test (filter (is_under tree m) (range_with_len 0 n)) (filter (is_under tree m) (n ∷ []))

marked_by : (test : ℕ → Bool) (n : ℕ) → test n ≡ true → (r a u : Bool) → (u || (r || a)) ≡ (r || (a || list_any test (cond u (n ∷ []) [])))
marked_by test n e true a true = refl
marked_by test n e true a false = refl
marked_by test n e false true true = refl
marked_by test n e false true false = refl
marked_by test n e false false true = sym (ap (λ (t : Bool). t || false) e)
marked_by test n e false false false = refl

left_by : (test : ℕ → Bool) (n : ℕ) → test n ≡ false → (r a u : Bool) → (r || a) ≡ (r || (a || list_any test (cond u (n ∷ []) [])))
left_by test n e true a u = refl
left_by test n e false true u = refl
left_by test n e false false true = sym (ap (λ (t : Bool). t || false) e)
left_by test n e false false false = refl

-- a chosen node keeps those on its path
pub kept-marked : (tree : List Row) (test : ℕ → Bool) (old new : List Bool) (n m : ℕ) → test n ≡ true → get_or new m false ≡ (is_under tree m n || get_or old m false)
    → get_or old m false ≡ (is_root m || list_any test (filter (is_under tree m) (range_with_len 0 n)))
    → get_or new m false ≡ (is_root m || list_any test (filter (is_under tree m) (range_with_len 0 (n + 1))))
kept-marked tree test old new n m e now before =
    now ∙ ap (λ (t : Bool). is_under tree m n || t) before
    ∙ marked_by test n e (is_root m) (list_any test (filter (is_under tree m) (range_with_len 0 n))) (is_under tree m n)
    ∙ sym (ap (λ (t : Bool). is_root m || t) (below_more tree test m n))

-- and another keeps none
pub kept-left : (tree : List Row) (test : ℕ → Bool) (xs : List Bool) (n m : ℕ) → test n ≡ false
    → get_or xs m false ≡ (is_root m || list_any test (filter (is_under tree m) (range_with_len 0 n)))
    → get_or xs m false ≡ (is_root m || list_any test (filter (is_under tree m) (range_with_len 0 (n + 1))))
kept-left tree test xs n m e before =
    before ∙ left_by test n e (is_root m) (list_any test (filter (is_under tree m) (range_with_len 0 n))) (is_under tree m n)
    ∙ sym (ap (λ (t : Bool). is_root m || t) (below_more tree test m n))

-- whether a path is none of these
abbrev pub is_unknown : List (List ℕ) → List ℕ → Bool
is_unknown paths p = not (is_among paths p)

-- a path with those after it
path_next : (only : List (Bor (List ℕ))) (i : ℕ) (d : Bor (List ℕ)) → i < length only → drop i (texts_of only) ≡ (get_or only i d).now ∷ drop (i + 1) (texts_of only)
path_next only i d h =
    let text : Bor (List ℕ) → List ℕ = λ b. b.now in
    drop_more (texts_of only) i [] (rw (length-map only text) h) ∙ ap (λ (t : List ℕ). t ∷ drop (i + 1) (texts_of only)) (get_or-map text only i d [] h)

pub unknown-here : (paths : List (List ℕ)) (only : List (Bor (List ℕ))) (i : ℕ) (d : Bor (List ℕ)) → i < length only
    → is_among paths (get_or only i d).now ≡ false → position_from (is_unknown paths) i (drop i (texts_of only)) ≡ Some i
unknown-here paths only i d h e =
    ap (position_from (is_unknown paths) i) (path_next only i d h)
    ∙ ap (λ (b : Bool). cond (not b) (Some i) (position_from (is_unknown paths) (i + 1) (drop (i + 1) (texts_of only)))) e

pub unknown-later : (paths : List (List ℕ)) (only : List (Bor (List ℕ))) (i : ℕ) (d : Bor (List ℕ)) → i < length only → is_among paths (get_or only i d).now ≡ true
    → position_from (is_unknown paths) (i + 1) (drop (i + 1) (texts_of only)) ≡ position_from (is_unknown paths) i (drop i (texts_of only))
unknown-later paths only i d h e =
    sym (ap (position_from (is_unknown paths) i) (path_next only i d h)
    ∙ ap (λ (b : Bool). cond (not b) (Some i) (position_from (is_unknown paths) (i + 1) (drop (i + 1) (texts_of only)))) e)
