-- Which nodes what is asked for names: by paths, and then by one pattern after the other.
use Rattle.std.proofs.Common.{◌≡◌, ℕ, ◌+◌, ◌<◌, List, Some, [], ◌∷◌, ◌++◌, drop, take, length, map, get_or, set, Bool, true, false, not, ◌||◌, ◌&&◌, ◌==◌, ◌⊎◌, inl, inr, cond, refl, sym, ap, ap₂, ◌∙◌, arith, bytes_eq}
use Rattle.std.proofs.lemmas.Bool.Decides.{nat_tests}
use Rattle.std.proofs.lemmas.List.{drop_more, get_or-map, length-map, take_more, get_or-set_same, get_or-set_other}
use Rattle.std.proofs.lemmas.List.Folds.{list_any-append}
use Rattle.std.proofs.lemmas.Slice.Eq.{bytes_eq-Decides}
use Rattle.std.specs.Bool.{one_answer}
use Rattle.std.specs.List.{list_any, position_from}
use Rattle.iso_model.specs.NameSets.{is_among}
use Rattle.iso_plan.proofs.PathLemmas.{not-root}
use Rattle.iso_plan.specs.Paths.{is_root}
use Rattle.iso_selection.specs.Wishes.{Wish, path, pattern, grants, is_in_vain, paths_in, pattern_grants, wish_of}
use Rattle.iso_selection.specs.declared.wanted.Wanted.{Wanted}

bytes_eq-turned : (a b : List ℕ) → bytes_eq a b ≡ bytes_eq b a
bytes_eq-turned a b =
    one_answer (bytes_eq a b) (bytes_eq b a) (bytes_eq-Decides a b) (λ t. sym ((bytes_eq-Decides b a).0 t), λ same. (bytes_eq-Decides b a).1 (sym same))

or_first : (a b c d : Bool) → d ≡ a → (d || (b || c)) ≡ ((a || b) || c)
or_first true b c d e = ap (λ (t : Bool). t || (b || c)) e
or_first false b c d e = ap (λ (t : Bool). t || (b || c)) e

or_second : (a b c : Bool) → (a || (b || c)) ≡ (b || (a || c))
or_second true true c = refl
or_second true false c = refl
or_second false b c = refl

-- what is asked for names a path by paths or by patterns
pub grants-split : (text : List ℕ) (wishes : List Wish) → list_any (grants text) wishes ≡ (is_among (paths_in wishes) text || list_any (pattern_grants text) wishes)
grants-split text [] = refl
grants-split text (path asked ∷ wishes) =
    ap (λ (t : Bool). bytes_eq text asked || t) (grants-split text wishes)
    ∙ or_first (bytes_eq asked text) (is_among (paths_in wishes) text) (list_any (pattern_grants text) wishes) (bytes_eq text asked) (bytes_eq-turned text asked)
grants-split text (pattern asked ∷ wishes) =
    ap (λ (t : Bool). pattern_grants text (pattern asked) || t) (grants-split text wishes)
    ∙ or_second (pattern_grants text (pattern asked)) (is_among (paths_in wishes) text) (list_any (pattern_grants text) wishes)

-- a wish more
pub wishes-more : (wanted : List Wanted) (i : ℕ) (d : Wanted) → i < length wanted → take (i + 1) (map wish_of wanted) ≡ take i (map wish_of wanted) ++ wish_of (get_or wanted i d) ∷ []
wishes-more wanted i d h =
    take_more (map wish_of wanted) i (wish_of d) (rw (length-map wanted wish_of) h)
    ∙ ap (λ (w : Wish). take i (map wish_of wanted) ++ w ∷ []) (get_or-map wish_of wanted i d (wish_of d) h)

wish_next : (wanted : List Wanted) (i : ℕ) (d : Wanted) → i < length wanted → drop i (map wish_of wanted) ≡ wish_of (get_or wanted i d) ∷ drop (i + 1) (map wish_of wanted)
wish_next wanted i d h =
    drop_more (map wish_of wanted) i (wish_of d) (rw (length-map wanted wish_of) h)
    ∙ ap (λ (w : Wish). w ∷ drop (i + 1) (map wish_of wanted)) (get_or-map wish_of wanted i d (wish_of d) h)

-- it names no node, or one
pub vain-here : (paths : List (List ℕ)) (wanted : List Wanted) (i : ℕ) (d : Wanted) → i < length wanted → is_in_vain paths (wish_of (get_or wanted i d)) ≡ true
    → position_from (is_in_vain paths) i (drop i (map wish_of wanted)) ≡ Some i
vain-here paths wanted i d h e =
    ap (position_from (is_in_vain paths) i) (wish_next wanted i d h)
    ∙ ap (λ (b : Bool). cond b (Some i) (position_from (is_in_vain paths) (i + 1) (drop (i + 1) (map wish_of wanted)))) e

pub vain-later : (paths : List (List ℕ)) (wanted : List Wanted) (i : ℕ) (d : Wanted) → i < length wanted → is_in_vain paths (wish_of (get_or wanted i d)) ≡ false
    → position_from (is_in_vain paths) (i + 1) (drop (i + 1) (map wish_of wanted)) ≡ position_from (is_in_vain paths) i (drop i (map wish_of wanted))
vain-later paths wanted i d h e =
    sym (ap (position_from (is_in_vain paths) i) (wish_next wanted i d h)
    ∙ ap (λ (b : Bool). cond b (Some i) (position_from (is_in_vain paths) (i + 1) (drop (i + 1) (map wish_of wanted)))) e)

-- what is named so far of a node with this path: by paths, and by the first of what is asked for
abbrev pub so_far : (root : Bool) → List ℕ → (wishes first : List Wish) → Bool
so_far root text wishes first = (not root && is_among (paths_in wishes) text) || (not root && list_any (pattern_grants text) first)

more_by : (root a l w : Bool) → (((not root && a) || (not root && l)) || (not root && w)) ≡ ((not root && a) || (not root && (l || (w || false))))
more_by true a l w = refl
more_by false true l w = refl
more_by false false true w = refl
more_by false false false true = refl
more_by false false false false = refl

pub so_far-more : (root : Bool) (text : List ℕ) (wishes first : List Wish) (w : Wish)
    → (so_far root text wishes first || (not root && pattern_grants text w)) ≡ so_far root text wishes (first ++ w ∷ [])
so_far-more root text wishes first w =
    more_by root (is_among (paths_in wishes) text) (list_any (pattern_grants text) first) (pattern_grants text w)
    ∙ sym (ap (λ (t : Bool). (not root && is_among (paths_in wishes) text) || (not root && t)) (list_any-append (pattern_grants text) first (w ∷ [])))

pub so_far-next : (root : Bool) (text : List ℕ) (wanted : List Wanted) (i : ℕ) (d : Wanted) (old new : Bool) → i < length wanted
    → old ≡ so_far root text (map wish_of wanted) (take i (map wish_of wanted)) → new ≡ (old || (not root && pattern_grants text (wish_of (get_or wanted i d))))
    → new ≡ so_far root text (map wish_of wanted) (take (i + 1) (map wish_of wanted))
so_far-next root text wanted i d old new h before e =
    let wishes = map wish_of wanted in
    let wish = wish_of (get_or wanted i d) in
    e ∙ ap (λ (b : Bool). b || (not root && pattern_grants text wish)) before ∙ so_far-more root text wishes (take i wishes) wish
    ∙ ap (so_far root text wishes) (sym (wishes-more wanted i d h))

none_by : (root a : Bool) → (not root && a) ≡ ((not root && a) || (not root && false))
none_by true a = refl
none_by false true = refl
none_by false false = refl

pub so_far-none : (root : Bool) (text : List ℕ) (wishes : List Wish) → (not root && is_among (paths_in wishes) text) ≡ so_far root text wishes []
so_far-none root text wishes = none_by root (is_among (paths_in wishes) text)

all_by : (root a l : Bool) → ((not root && a) || (not root && l)) ≡ (not root && (a || l))
all_by true a l = refl
all_by false a l = refl

pub so_far-all : (root : Bool) (text : List ℕ) (wishes : List Wish) → so_far root text wishes wishes ≡ (not root && list_any (grants text) wishes)
so_far-all root text wishes =
    all_by root (is_among (paths_in wishes) text) (list_any (pattern_grants text) wishes) ∙ ap (λ (t : Bool). not root && t) (sym (grants-split text wishes))

pub and_none : (a r : Bool) → a ≡ (a || (r && false))
and_none true r = refl
and_none false true = refl
and_none false false = refl

-- a path more among those that are asked for, or a pattern
pub paths_in-path : (wishes : List Wish) (text : List ℕ) → paths_in (wishes ++ path text ∷ []) ≡ paths_in wishes ++ text ∷ []
paths_in-path [] text = refl
paths_in-path (path asked ∷ wishes) text = ap (λ (ts : List (List ℕ)). asked ∷ ts) (paths_in-path wishes text)
paths_in-path (pattern asked ∷ wishes) text = paths_in-path wishes text

pub paths_in-pattern : (wishes : List Wish) (text : List ℕ) → paths_in (wishes ++ pattern text ∷ []) ≡ paths_in wishes
paths_in-pattern [] text = refl
paths_in-pattern (path asked ∷ wishes) text = ap (λ (ts : List (List ℕ)). asked ∷ ts) (paths_in-pattern wishes text)
paths_in-pattern (pattern asked ∷ wishes) text = paths_in-pattern wishes text

or_true : (a : Bool) → (a || true) ≡ true
or_true true = refl
or_true false = refl

-- marks of a node more
pub marked-here : (named old : List Bool) (paths : List (List ℕ)) (test : List ℕ → Bool) (n m : ℕ) → 0 < n → n < length named → test (get_or paths n []) ≡ true
    → ((k : ℕ) → k < n → get_or named k false ≡ (get_or old k false || (not (is_root k) && test (get_or paths k []))))
    → m < n + 1 → get_or (set named n true) m false ≡ (get_or old m false || (not (is_root m) && test (get_or paths m [])))
marked-here named old paths test n m pos h passed before less =
    elim (m == n) as (λ (b : Bool). (m == n) ≡ b → get_or (set named n true) m false ≡ (get_or old m false || (not (is_root m) && test (get_or paths m [])))) [
      | true ↦ λ e.
          let same : m ≡ n = grind (arith, nat_tests) in
          ap (λ (k : ℕ). get_or (set named n true) k false) same ∙ get_or-set_same named n true false h
          ∙ sym (ap (λ (k : ℕ). get_or old k false || (not (is_root k) && test (get_or paths k []))) same
          ∙ ap₂ (λ (r t : Bool). get_or old n false || (not r && t)) (not-root n pos) passed ∙ or_true (get_or old n false))
      | false ↦ λ e.
          let low : m < n = grind (arith, nat_tests) in
          get_or-set_other named n m true false (λ (same : m ≡ n). absurd (omega arith)) ∙ before m low
    ] refl

pub left-here : (named old : List Bool) (paths : List (List ℕ)) (test : List ℕ → Bool) (n m : ℕ) → get_or named n false ≡ get_or old n false
    → (get_or named n false ≡ true) ⊎ (test (get_or paths n []) ≡ false)
    → ((k : ℕ) → k < n → get_or named k false ≡ (get_or old k false || (not (is_root k) && test (get_or paths k []))))
    → m < n + 1 → get_or named m false ≡ (get_or old m false || (not (is_root m) && test (get_or paths m [])))
left-here named old paths test n m still why before less =
    elim (m == n) as (λ (b : Bool). (m == n) ≡ b → get_or named m false ≡ (get_or old m false || (not (is_root m) && test (get_or paths m [])))) [
      | true ↦ λ e.
          let same : m ≡ n = grind (arith, nat_tests) in
          ap (λ (k : ℕ). get_or named k false) same ∙ still ∙ by-why why
          ∙ sym (ap (λ (k : ℕ). get_or old k false || (not (is_root k) && test (get_or paths k []))) same)
      | false ↦ λ e. before m (grind (arith, nat_tests))
    ] refl
  where
    by-why : (get_or named n false ≡ true) ⊎ (test (get_or paths n []) ≡ false) → get_or old n false ≡ (get_or old n false || (not (is_root n) && test (get_or paths n [])))
    by-why (inl passed) = let is : get_or old n false ≡ true = sym still ∙ passed in is ∙ sym (ap (λ (t : Bool). t || (not (is_root n) && test (get_or paths n []))) is)
    by-why (inr other) = and_none (get_or old n false) (not (is_root n)) ∙ sym (ap (λ (t : Bool). get_or old n false || (not (is_root n) && t)) other)

-- whether any is found, a text more
pub any-here : (test : List ℕ → Bool) (paths : List (List ℕ)) (n : ℕ) (d : List ℕ) (found : Bool) → n < length paths
    → (found || list_any test (drop n paths)) ≡ (found || (test (get_or paths n d) || list_any test (drop (n + 1) paths)))
any-here test paths n d found h = ap (λ (ts : List (List ℕ)). found || list_any test ts) (drop_more paths n d h)
