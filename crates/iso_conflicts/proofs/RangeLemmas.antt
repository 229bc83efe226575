-- Numbers in a row, of which some pass a test.
use Rattle.std.proofs.Common.{◌≡◌, ℕ, zero, suc, ◌+◌, ◌-◌, ◌<◌, ◌≤◌, List, [], ◌∷◌, ◌++◌, Bool, true, false, ◌||◌, ◌==◌, cond, drop, filter, get_or, length, map, max, refl, sym, ap, ◌∙◌, arith}
use Rattle.std.proofs.lemmas.List.{drop_more}
use Rattle.std.proofs.lemmas.Grind.{common_steps}
use Rattle.std.proofs.lemmas.List.Elements.{All-from_recursion}
use Rattle.std.proofs.lemmas.List.Sums.{count_by-le-length, length-filter, sum_by-cons, sum_by-le}
use Rattle.std.specs.Ordering.{nat_cmp, ord_max}
use Rattle.std.specs.List.{AllByRecursion, flat_map, list_any, range_with_len, sum_by}
use Rattle.iso_plan.proofs.PathLemmas.{eq_not}
use Rattle.iso_plan.specs.NodeChains.{largest}

-- the numbers from one on, with it apart
pub range-next : (len n : ℕ) → n < len → range_with_len n (len - n) ≡ n ∷ range_with_len (n + 1) (len - (n + 1))
range-next len n h =
    let e : len - n ≡ suc (len - (n + 1)) = omega arith in
    rw e refl

-- past the last there is none
pub range-end : (len n : ℕ) → len ≤ n → range_with_len n (len - n) ≡ []
range-end len n h =
    let e : len - n ≡ 0 = omega arith in
    rw e refl

zero_more : (n : ℕ) → n ≡ 0 + n
zero_more n = omega arith

sum_by_test : (p : ℕ → Bool) (f : ℕ → ℕ) (n : ℕ) (ns : List ℕ) (t : Bool) → sum_by f (cond t (n ∷ filter p ns) (filter p ns)) ≡ cond t (f n) 0 + sum_by f (filter p ns)
sum_by_test p f n ns true = sum_by-cons f n (filter p ns)
sum_by_test p f n ns false = zero_more (sum_by f (filter p ns))

-- a sum over those that pass, with the first apart
pub sum-next : (p : ℕ → Bool) (f : ℕ → ℕ) (n : ℕ) (ns : List ℕ) → sum_by f (filter p (n ∷ ns)) ≡ cond (p n) (f n) 0 + sum_by f (filter p ns)
sum-next p f n ns = sum_by_test p f n ns (p n)

max_zero : (n : ℕ) → n ≡ max 0 n
max_zero n = omega arith

largest_test : (p : ℕ → Bool) (f : ℕ → ℕ) (n : ℕ) (ns : List ℕ) (t : Bool) → largest (map f (cond t (n ∷ filter p ns) (filter p ns))) ≡ max (cond t (f n) 0) (largest (map f (filter p ns)))
largest_test p f n ns true = refl
largest_test p f n ns false = max_zero (largest (map f (filter p ns)))

-- the largest of those that pass, with the first apart
pub largest-next : (p : ℕ → Bool) (f : ℕ → ℕ) (n : ℕ) (ns : List ℕ) → largest (map f (filter p (n ∷ ns))) ≡ max (cond (p n) (f n) 0) (largest (map f (filter p ns)))
largest-next p f n ns = largest_test p f n ns (p n)

texts_test : (p : ℕ → Bool) (g : ℕ → List ℕ) (n : ℕ) (ns : List ℕ) (t : Bool) → flat_map g (cond t (n ∷ filter p ns) (filter p ns)) ≡ cond t (g n) [] ++ flat_map g (filter p ns)
texts_test p g n ns true = refl
texts_test p g n ns false = refl

-- the texts of those that pass, with the first apart
pub texts-next : (p : ℕ → Bool) (g : ℕ → List ℕ) (n : ℕ) (ns : List ℕ) → flat_map g (filter p (n ∷ ns)) ≡ cond (p n) (g n) [] ++ flat_map g (filter p ns)
texts-next p g n ns = texts_test p g n ns (p n)

none_test : (p : ℕ → Bool) (n : ℕ) (ns : List ℕ) (t : Bool) → (t || list_any p ns) ≡ false → (list_any p ns ≡ false → filter p ns ≡ []) → cond t (n ∷ filter p ns) (filter p ns) ≡ []
none_test p n ns true h ih = absurd (cc)
none_test p n ns false h ih = ih h

-- where none passes, there are none that do
pub none-pass : (p : ℕ → Bool) (ns : List ℕ) → list_any p ns ≡ false → filter p ns ≡ []
none-pass p [] h = refl
none-pass p (n ∷ ns) h = none_test p n ns (p n) h (none-pass p ns)

some_test : (p : ℕ → Bool) (n : ℕ) (ns : List ℕ) (t : Bool) → (t || list_any p ns) ≡ true
    → (list_any p ns ≡ true → (length (filter p ns) == 0) ≡ false) → (length (cond t (n ∷ filter p ns) (filter p ns)) == 0) ≡ false
some_test p n ns true h ih = eq_not (suc (length (filter p ns))) 0 (λ e. absurd (omega arith))
some_test p n ns false h ih = ih h

pub some-pass : (p : ℕ → Bool) (ns : List ℕ) → list_any p ns ≡ true → (length (filter p ns) == 0) ≡ false
some-pass p [] h = absurd (cc)
some-pass p (n ∷ ns) h = some_test p n ns (p n) h (some-pass p ns)

-- a number that doesn't pass is passed over
pub any-passed : (p : ℕ → Bool) (len n : ℕ) → n < len → p n ≡ false → list_any p (range_with_len (n + 1) (len - (n + 1))) ≡ list_any p (range_with_len n (len - n))
any-passed p len n h e = sym (ap (list_any p) (range-next len n h) ∙ ap (λ (b : Bool). b || list_any p (range_with_len (n + 1) (len - (n + 1)))) e)

-- one that does settles it
pub any-found : (p : ℕ → Bool) (len n : ℕ) → n < len → p n ≡ true → list_any p (range_with_len n (len - n)) ≡ true
any-found p len n h e = ap (list_any p) (range-next len n h) ∙ ap (λ (b : Bool). b || list_any p (range_with_len (n + 1) (len - (n + 1)))) e

added : (done add own now rest whole : ℕ) → add ≡ own → now ≡ own + rest → done + now ≡ whole → (done + add) + rest ≡ whole
added done add own now rest whole e f k = omega arith

max-is : (a b : ℕ) → ord_max nat_cmp a b ≡ max a b
max-is a b = grind (arith, common_steps)

raised : (most add own new now rest whole : ℕ) → add ≡ own → new ≡ max most add → now ≡ max own rest → max most now ≡ whole → max new rest ≡ whole
raised most add own new now rest whole e m f k = omega arith

-- a step of a sum over those that pass
pub sum-step : (p : ℕ → Bool) (f : ℕ → ℕ) (len n : ℕ) → n < len → (done add whole : ℕ) → add ≡ cond (p n) (f n) 0
    → done + sum_by f (filter p (range_with_len n (len - n))) ≡ whole → (done + add) + sum_by f (filter p (range_with_len (n + 1) (len - (n + 1)))) ≡ whole
sum-step p f len n h done add whole e k =
    let rest = range_with_len (n + 1) (len - (n + 1)) in
    let next : sum_by f (filter p (range_with_len n (len - n))) ≡ cond (p n) (f n) 0 + sum_by f (filter p rest) = ap (λ ns. sum_by f (filter p ns)) (range-next len n h) ∙ sum-next p f n rest in
    added done add (cond (p n) (f n) 0) (sum_by f (filter p (range_with_len n (len - n)))) (sum_by f (filter p rest)) whole e next k

-- a step of the largest of those that pass
pub largest-step : (p : ℕ → Bool) (f : ℕ → ℕ) (len n : ℕ) → n < len → (most add new whole : ℕ) → add ≡ cond (p n) (f n) 0 → new ≡ ord_max nat_cmp most add
    → max most (largest (map f (filter p (range_with_len n (len - n))))) ≡ whole → max new (largest (map f (filter p (range_with_len (n + 1) (len - (n + 1)))))) ≡ whole
largest-step p f len n h most add new whole e m k =
    let rest = range_with_len (n + 1) (len - (n + 1)) in
    let next : largest (map f (filter p (range_with_len n (len - n)))) ≡ max (cond (p n) (f n) 0) (largest (map f (filter p rest))) = ap (λ ns. largest (map f (filter p ns)))
    (range-next len n h) ∙ largest-next p f n rest in
    raised most add (cond (p n) (f n) 0) new (largest (map f (filter p (range_with_len n (len - n))))) (largest (map f (filter p rest))) whole e (m ∙ max-is most add) next k

everywhere : (P : ℕ → Type 0) → ((n : ℕ) → P n) → (ns : List ℕ) → AllByRecursion P ns
everywhere P h [] = tt
everywhere P h (n ∷ ns) = (h n, everywhere P h ns)

-- a sum of numbers below 2 ^ 32, of which there are fewer than that
pub sum-fits : (f : ℕ → ℕ) (len : ℕ) → len < 4294967296 → ((n : ℕ) → f n ≤ len) → (ns : List ℕ) → length ns ≤ len → sum_by f ns + len < 18446744073709551616
sum-fits f len few each ns short =
    let all : (n : ℕ) → f n ≤ 4294967295 = λ n. let one = each n in omega arith in
    let most = sum_by-le f 4294967295 ns (All-from_recursion (λ n. f n ≤ 4294967295) ns (everywhere (λ n. f n ≤ 4294967295) all ns)) in
    omega arith

pub largest-fits : (f : ℕ → ℕ) (len : ℕ) → ((n : ℕ) → f n ≤ len) → (ns : List ℕ) → largest (map f ns) ≤ len
largest-fits f len each [] = omega arith
largest-fits f len each (n ∷ ns) = let one = each n in let rest = largest-fits f len each ns in omega arith

-- no more pass than there are
pub fewer-pass : (p : ℕ → Bool) (ns : List ℕ) → length (filter p ns) ≤ length ns
fewer-pass p ns = rw (length-filter p ns) (count_by-le-length p ns)

-- the same of a part of the sum
pub part-fits : (part rest whole len : ℕ) → part + rest ≡ whole → whole + len < 18446744073709551616 → part + len < 18446744073709551616
part-fits part rest whole len e h = omega arith

pub term-fits : (part rest whole len : ℕ) → part + rest ≡ whole → whole + len < 18446744073709551616 → part < 18446744073709551616
term-fits part rest whole len e h = omega arith

-- a step of a sum over those of a list that pass
pub drop-step : (p : ℕ → Bool) (f : ℕ → ℕ) (xs : List ℕ) (i : ℕ) → i < length xs → (done add whole : ℕ) → add ≡ cond (p (get_or xs i 0)) (f (get_or xs i 0)) 0
    → done + sum_by f (filter p (drop i xs)) ≡ whole → (done + add) + sum_by f (filter p (drop (i + 1) xs)) ≡ whole
drop-step p f xs i h done add whole e k =
    let n = get_or xs i 0 in
    let rest = drop (i + 1) xs in
    let next : sum_by f (filter p (drop i xs)) ≡ cond (p n) (f n) 0 + sum_by f (filter p rest) = ap (λ ns. sum_by f (filter p ns)) (drop_more xs i 0 h) ∙ sum-next p f n rest in
    added done add (cond (p n) (f n) 0) (sum_by f (filter p (drop i xs))) (sum_by f (filter p rest)) whole e next k

pub not-more : (part rest whole len : ℕ) → max part rest ≡ whole → whole ≤ len → part ≤ len
not-more part rest whole len e h = omega arith
