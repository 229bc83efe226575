-- Each testcase stands in the testsuite of one class.
use Rattle.std.proofs.Common.{◌≡◌, ◌<◌, ℕ, zero, suc, ◌+◌, List, [], ◌∷◌, ◌++◌, length, Bool, true, false, ◌&&◌, ◌||◌, ◌==◌, not, cond, filter, refl, sym, ap, ap₂, ◌∙◌, arith, true≢false, length-append}
use Rattle.std.proofs.lemmas.Bool.Decides.{nat_tests}
use Rattle.std.proofs.lemmas.List.Elements.{filter-append}
use Rattle.std.proofs.lemmas.List.Sums.{sum_by-cons, sum_by_push}
use Rattle.std.specs.List.{sum_by}
use Rattle.iso_failures.proofs.Sums.{many-both, many-step, many-sum, one, sum-zero, those-once}
use Rattle.iso_failures.specs.Counting.{how_many}
use Rattle.iso_model.specs.declared.outcome.Verdict.{Verdict}
use Rattle.iso_plan.proofs.NumberLemmas.{number-le, number-next, those-agree}
use Rattle.iso_plan.specs.Paths.{IsTree, children, children_below, is_root, is_test, parent}
use Rattle.iso_plan.specs.KeptNodes.{those_below}
use Rattle.iso_plan.specs.Tree.{Row}
use Rattle.iso_junit.proofs.CountLemmas.{filter-those}
use Rattle.iso_junit.specs.Cases.{all_cases, cases, failed_itself, is_a_test, is_case, is_suite, suites}
use Rattle.iso_junit.specs.Runs.{RunView}
use Rattle.iso_junit.specs.Tallies as T

-- sums over the numbers that pass
push_by : (f : ℕ → ℕ) (ns : List ℕ) (n : ℕ) (t : Bool) → sum_by f (cond t (ns ++ n ∷ []) ns) ≡ sum_by f ns + cond t (f n) 0
push_by f ns n true = sum_by_push f ns n
push_by f ns n false = omega arith

one_if : (s t : Bool) → cond s (one t) 0 ≡ one (s && t)
one_if true t = refl
one_if false t = refl

sum-those : (p f : ℕ → Bool) (n : ℕ) → sum_by (λ c. one (f c)) (those_below p n) ≡ how_many (λ c. p c && f c) n
sum-those p f zero = refl
sum-those p f (suc n) =
    push_by (λ c. one (f c)) (those_below p n) n (p n)
    ∙ ap₂ (λ (a b : ℕ). a + b) (sum-those p f n) (one_if (p n) (f n))
    ∙ sym (many-step (λ c. p c && f c) n)

sum-both : (f g : ℕ → ℕ) (ns : List ℕ) → sum_by (λ c. f c + g c) ns ≡ sum_by f ns + sum_by g ns
sum-both f g [] = refl
sum-both f g (n ∷ ns) =
    let both = sum_by-cons (λ c. f c + g c) n ns in
    let first = sum_by-cons f n ns in
    let second = sum_by-cons g n ns in
    let rest = sum-both f g ns in
    omega arith

sum-same : (f g : ℕ → ℕ) (ns : List ℕ) → ((c : ℕ) → f c ≡ g c) → sum_by f ns ≡ sum_by g ns
sum-same f g [] h = refl
sum-same f g (n ∷ ns) h = sum_by-cons f n ns ∙ ap₂ (λ (a b : ℕ). a + b) (h n) (sum-same f g ns h) ∙ sym (sum_by-cons g n ns)

-- a number that passes is counted
some : (p : ℕ → Bool) (m n : ℕ) → m < n → p m ≡ true → 0 < how_many p n
some p m n less e = let next = number-next p m e in let low = number-le p (suc m) n (omega arith) in omega arith

not_none : (n : ℕ) → 0 < n → (n == 0) ≡ false
not_none n h = grind (arith, nat_tests)

is_positive : (n : ℕ) → is_root n ≡ false → 0 < n
is_positive zero h = absurd (true≢false h)
is_positive (suc n) h = omega arith

inner : (n : ℕ) → 0 < n → is_root n ≡ false
inner zero h = absurd (omega arith)
inner (suc n) h = refl

-- the children of a node, as numbers that pass
abbrev is_child : List Row → ℕ → ℕ → Bool
is_child tree d n = not (is_root n) && parent tree n == d

children_pass : (tree : List Row) (d n : ℕ) → children_below tree d n ≡ those_below (is_child tree d) n
children_pass tree d zero = refl
children_pass tree d (suc n) = ap (λ (ns : List ℕ). cond (not (is_root n) && parent tree n == d) (ns ++ n ∷ []) ns) (children_pass tree d n)

one_alone : (s t : ℕ → Bool) (c : ℕ) (b : Bool) → length (filter s (cond b (c ∷ []) [])) ≡ one (b && s c)
one_alone s t c false = refl
one_alone s t c true = by (s c)
  where
    by : (b : Bool) → length (cond b (c ∷ []) []) ≡ one b
    by true = refl
    by false = refl

-- a testcase is a class's own or a test's
apart : (test fails such : Bool) → one ((test || fails) && such) ≡ one (not test && (fails && such)) + one (test && such)
apart true fails such = omega arith
apart false fails such = omega arith

module _ (r : RunView) (such : Verdict → Bool) where
  abbrev len : ℕ
  len = length r.tree

  abbrev is_such : ℕ → Bool
  is_such n = such (r.outcome n).verdict

  -- a class's own testcase, and that of a test, where they are such ones
  abbrev own : ℕ → Bool
  own n = failed_itself r n && is_such n

  abbrev of_class : ℕ → Bool
  of_class n = not (is_root n || is_a_test r n) && own n

  abbrev of_test : ℕ → Bool
  of_test n = is_a_test r n && is_such n

  abbrev stands_in : ℕ → ℕ → Bool
  stands_in c n = (is_child r.tree c n && is_a_test r n) && is_such n

  -- those of a class
  in_class : (c : ℕ) → T.how_many r such (cases r c) ≡ one (own c) + how_many (stands_in c) len
  in_class c =
      let first = filter (failed_itself r) (c ∷ []) in
      let tests = filter (is_a_test r) (children r.tree c) in
      let all = ap length (filter-append is_such first tests) ∙ length-append (filter is_such first) (filter is_such tests) in
      let alone = one_alone is_such is_such c (failed_itself r c) in
      let here : filter is_such tests ≡ those_below (stands_in c) len =
      ap (λ (ns : List ℕ). filter is_such (filter (is_a_test r) ns)) (children_pass r.tree c len)
      ∙ ap (filter is_such) (filter-those (is_child r.tree c) (is_a_test r) len)
      ∙ filter-those (λ n. is_child r.tree c n && is_a_test r n) is_such len in
      let few = ap length here in
      omega arith

  -- a class that failed has a testsuite
  suite_by : (c : ℕ) (b : Bool) → failed_itself r c ≡ b → (is_suite r c && (b && is_such c)) ≡ (not (is_root c || is_a_test r c) && (b && is_such c))
  suite_by c false e = and_false (is_suite r c) ∙ sym (and_false (not (is_root c || is_a_test r c)))
    where
      and_false : (a : Bool) → (a && false) ≡ false
      and_false true = refl
      and_false false = refl
  suite_by c true e =
      let some_case : length (cases r c) ≡ suc (length (filter (is_a_test r) (children r.tree c))) =
      ap (λ (b : Bool). length (cond b (c ∷ []) [] ++ filter (is_a_test r) (children r.tree c))) e in
      let none : (length (cases r c) == 0) ≡ false = not_none (length (cases r c)) (omega arith) in
      ap (λ (b : Bool). (not (is_root c || is_a_test r c) && not (b && length (r.outcome c).output == 0)) && is_such c) none
      ∙ and_true (not (is_root c || is_a_test r c)) (is_such c)
    where
      and_true : (a b : Bool) → ((a && true) && b) ≡ (a && b)
      and_true true b = refl
      and_true false b = refl

  module _ (t : IsTree r.tree) (inside : (n : ℕ) → is_a_test r n ≡ true → is_root (parent r.tree n) ≡ false) where
    root_is_none : is_a_test r 0 ≡ false
    root_is_none = ap (λ (x : Row). is_test x.kind) t.root_is

    all_apart : (n : ℕ) → one (is_case r n && is_such n) ≡ one (of_class n) + one (of_test n)
    all_apart zero = rw root_is_none refl
    all_apart (suc n) = apart (is_a_test r (suc n)) (failed_itself r (suc n)) (is_such (suc n))

    -- the class of a test has a testsuite
    class_has : (n : ℕ) → n < len → is_a_test r n ≡ true → is_suite r (parent r.tree n) ≡ true
    class_has n less e =
        let m = parent r.tree n in
        let not_top = inside n e in
        let pos : 0 < n = is_positive n (root_not n e) in
        let class : is_a_test r m ≡ false = t.inner n pos in
        let child : (is_child r.tree m n && is_a_test r n) ≡ true = rw (inner n pos, e, same m) refl in
        let passed = some (λ k. is_child r.tree m k && is_a_test r k) n len less child in
        let tests = ap length (ap (filter (is_a_test r)) (children_pass r.tree m len) ∙ filter-those (is_child r.tree m) (is_a_test r) len) in
        let both = length-append (filter (failed_itself r) (m ∷ [])) (filter (is_a_test r) (children r.tree m)) in
        let none : (length (cases r m) == 0) ≡ false = not_none (length (cases r m)) (omega arith) in
        rw (not_top, class, none) refl
      where
        same : (m : ℕ) → (m == m) ≡ true
        same m = grind (arith, nat_tests)

        root_not : (k : ℕ) → is_a_test r k ≡ true → is_root k ≡ false
        root_not zero h = absurd (true≢false (sym h ∙ root_is_none))
        root_not (suc k) h = refl

    -- a test stands in the testsuite of one class
    once : (n : ℕ) → n < len → one (of_test n) ≡ sum_by (λ c. one (stands_in c n)) (suites r)
    once n less = by (is_a_test r n) (is_such n) refl
      where
        nothing : (c : ℕ) (a b : Bool) → one ((a && false) && b) ≡ 0
        nothing c true b = refl
        nothing c false b = refl

        never : (c : ℕ) (a : Bool) → one ((a && true) && false) ≡ 0
        never c true = refl
        never c false = refl

        here : (c : ℕ) → 0 < n → one ((is_child r.tree c n && true) && true) ≡ one (parent r.tree n == c)
        here c pos = rw (inner n pos) (kept (parent r.tree n == c))
          where
            kept : (b : Bool) → one ((b && true) && true) ≡ one b
            kept true = refl
            kept false = refl

        by : (a b : Bool) → is_a_test r n ≡ a → one (a && b) ≡ sum_by (λ c. one ((is_child r.tree c n && a) && b)) (suites r)
        by false b e = sym (sum-same _ (λ c. 0) (suites r) (λ c. nothing c (is_child r.tree c n) b) ∙ sum-zero (suites r))
        by true false e = sym (sum-same _ (λ c. 0) (suites r) (λ c. never c (is_child r.tree c n)) ∙ sum-zero (suites r))
        by true true e =
            let pos : 0 < n = positive n e in
            let up = t.below n pos in
            sym (those-once (is_suite r) (parent r.tree n) len (class_has n less e) (omega arith))
            ∙ sym (sum-same _ (λ c. one (parent r.tree n == c)) (suites r) (λ c. here c pos))
          where
            positive : (k : ℕ) → is_a_test r k ≡ true → 0 < k
            positive zero h = absurd (true≢false (sym h ∙ root_is_none))
            positive (suc k) h = omega arith

    pub sums-up : T.how_many r such (all_cases r) ≡ sum_by (λ c. T.how_many r such (cases r c)) (suites r)
    sums-up =
        let all = ap length (filter-those (is_case r) is_such len) in
        let parts = many-both (λ n. is_case r n && is_such n) of_class of_test len (λ n less. all_apart n) in
        let owns = sum-those (is_suite r) own len ∙ ap length (those-agree (λ c. is_suite r c && own c) of_class len (λ c less. suite_by c (failed_itself r c) refl)) in
        let tests = many-sum of_test stands_in (suites r) len once in
        let classes = sum-same (λ c. T.how_many r such (cases r c)) (λ c. one (own c) + how_many (stands_in c) len) (suites r) in_class in
        let sums = sum-both (λ c. one (own c)) (λ c. how_many (stands_in c) len) (suites r) in
        omega arith
