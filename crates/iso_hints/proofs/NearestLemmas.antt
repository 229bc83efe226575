-- Near words, one candidate after another.
use Rattle.std.proofs.Common.{◌≡◌, ℕ, zero, suc, ◌+◌, ◌<◌, List, [], ◌∷◌, ◌++◌, Bool, true, false, cond, not, nat_le, nat_lt, filter, fold, get_or, insert, length, map, take, Option, Some, None, refl, ap, ap₂, sym, subst, ◌∙◌, arith}
use Rattle.std.proofs.lemmas.Bool.Decides.{nat_tests}
use Rattle.std.proofs.lemmas.List.{get_or-map, length-map, take-map, take_more}
use Rattle.std.proofs.lemmas.List.Elements.{filter-append}
use Rattle.std.proofs.lemmas.List.Sums.{fold-append}
use Rattle.std.specs.Borrow.{Bor}
use Rattle.std.specs.List.{prefix_len}
use Rattle.iso_hints.specs.Nearest.{distance, is_near, near_words, put_by_distance}
use Rattle.iso_hints.specs.Ranks.{AreMeasured, IsRanked, kept, put_near}
use Rattle.iso_hints.specs.declared.nearest.Near.{Near}

insert-further : (x : Near) (xs : List Near) (n : ℕ) (new : Near) → insert (x ∷ xs) (1 + n) new ≡ x ∷ insert xs n new
insert-further x xs n new = let e : 1 + n ≡ suc n = omega arith in rw e refl

-- where a word is put in
pub put-insert : (near : List Near) (new : Near) → insert near (prefix_len (λ x. nat_le x.distance new.distance) near) new ≡ put_near near new
put-insert [] new = refl
put-insert (x ∷ xs) new = by (nat_lt new.distance x.distance) (nat_le x.distance new.distance) (grind (arith, nat_tests)) (put-insert xs new)
  where
    by : (lt le : Bool) → le ≡ not lt → insert xs (prefix_len (λ y. nat_le y.distance new.distance) xs) new ≡ put_near xs new
        → insert (x ∷ xs) (cond le (1 + prefix_len (λ y. nat_le y.distance new.distance) xs) 0) new ≡ cond lt (new ∷ x ∷ xs) (x ∷ put_near xs new)
    by true false e more = refl
    by false true e more = insert-further x xs (prefix_len (λ y. nat_le y.distance new.distance) xs) new ∙ ap (λ (ns : List Near). x ∷ ns) more
    by true true e more = absurd (cc)
    by false false e more = absurd (cc)

-- the words, where each is as far as it says
pub put-words : (word : List ℕ) (near : List Near) (new : Near) → new.distance ≡ distance word new.word.now → AreMeasured word near
    → map (λ n. n.word.now) (put_near near new) ≡ put_by_distance word (map (λ n. n.word.now) near) new.word.now
put-words word [] new e all = refl
put-words word (x ∷ xs) new e all =
    by (nat_lt new.distance x.distance) (nat_lt (distance word new.word.now) (distance word x.word.now)) (ap₂ nat_lt e all.0) (put-words word xs new e all.1)
  where
    by : (b d : Bool) → b ≡ d → map (λ n. n.word.now) (put_near xs new) ≡ put_by_distance word (map (λ n. n.word.now) xs) new.word.now
        → map (λ n. n.word.now) (cond b (new ∷ x ∷ xs) (x ∷ put_near xs new)) ≡ cond d (new.word.now ∷ x.word.now ∷ map (λ n. n.word.now) xs)
        (x.word.now ∷ put_by_distance word (map (λ n. n.word.now) xs) new.word.now)
    by true true same more = refl
    by false false same more = ap (λ (ws : List (List ℕ)). x.word.now ∷ ws) more
    by true false same more = absurd (cc)
    by false true same more = absurd (cc)

pub put-measured : (word : List ℕ) (near : List Near) (new : Near) → new.distance ≡ distance word new.word.now → AreMeasured word near → AreMeasured word (put_near near new)
put-measured word [] new e all = (e, tt)
put-measured word (x ∷ xs) new e all = by (nat_lt new.distance x.distance) (put-measured word xs new e all.1)
  where
    by : (b : Bool) → AreMeasured word (put_near xs new) → AreMeasured word (cond b (new ∷ x ∷ xs) (x ∷ put_near xs new))
    by true more = (e, all)
    by false more = (all.0, more)

pub take-measured : (word : List ℕ) (n : ℕ) (near : List Near) → AreMeasured word near → AreMeasured word (take n near)
take-measured word zero near all = tt
take-measured word (suc n) [] all = tt
take-measured word (suc n) (x ∷ xs) all = (all.0, take-measured word n xs all.1)

take-cut : (n : ℕ) (ys : List (List ℕ)) → take n (take (suc n) ys) ≡ take n ys
take-cut zero ys = refl
take-cut (suc n) [] = refl
take-cut (suc n) (y ∷ ys) = ap (λ (zs : List (List ℕ)). y ∷ zs) (take-cut n ys)

take-front : (n : ℕ) (y : List ℕ) (ys : List (List ℕ)) → take n (y ∷ take n ys) ≡ take n (y ∷ ys)
take-front zero y ys = refl
take-front (suc n) y ys = ap (λ (zs : List (List ℕ)). y ∷ zs) (take-cut n ys)

-- of a list that was cut the first are the same, with one more word
pub take-put : (word : List ℕ) (n : ℕ) (xs : List (List ℕ)) (x : List ℕ) → take n (put_by_distance word (take n xs) x) ≡ take n (put_by_distance word xs x)
take-put word zero xs x = refl
take-put word (suc n) [] x = refl
take-put word (suc n) (y ∷ ys) x = by (nat_lt (distance word x) (distance word y)) (take-put word n ys x)
  where
    by : (b : Bool) → take n (put_by_distance word (take n ys) x) ≡ take n (put_by_distance word ys x)
        → take (suc n) (cond b (x ∷ y ∷ take n ys) (y ∷ put_by_distance word (take n ys) x)) ≡ take (suc n) (cond b (x ∷ y ∷ ys) (y ∷ put_by_distance word ys x))
    by true more = ap (λ (zs : List (List ℕ)). x ∷ zs) (take-front n y ys)
    by false more = ap (λ (zs : List (List ℕ)). y ∷ zs) more

-- the list, with the word where it is near
abbrev put_if : Bool → List ℕ → List (List ℕ) → List ℕ → List (List ℕ)
put_if b word xs new = cond b (put_by_distance word xs new) xs

-- one candidate more
pub near-more : (word : List ℕ) (xs : List (List ℕ)) (x : List ℕ) → near_words word (xs ++ x ∷ []) ≡ put_if (is_near word x) word (near_words word xs) x
near-more word xs x =
    ap (fold (put_by_distance word) []) (filter-append (is_near word) xs (x ∷ []))
    ∙ fold-append (put_by_distance word) [] (filter (is_near word) xs) (filter (is_near word) (x ∷ []))
    ∙ by (is_near word x)
  where
    by : (b : Bool) → fold (put_by_distance word) (near_words word xs) (cond b (x ∷ []) []) ≡ put_if b word (near_words word xs) x
    by true = refl
    by false = refl

-- where a word is put in, by the place that was counted
pub put-at : (near seen : List Near) (new : Near) (n : ℕ) → n ≡ prefix_len (λ x. nat_le x.distance new.distance) seen → seen ≡ near
    → insert near n new ≡ put_near near new
put-at near seen new n counted same = rw (counted, same) (put-insert near new)

-- what is kept with a candidate that is near
ranked-put : (word : List ℕ) (xs : List (List ℕ)) (count : ℕ) (near : List Near) (new : Near) → new.distance ≡ distance word new.word.now → IsRanked word xs count near
    → map (λ n. n.word.now) (take count (put_near near new)) ≡ take count (put_by_distance word (near_words word xs) new.word.now)
ranked-put word xs count near new e ranked =
    sym (take-map (λ (n : Near). n.word.now) count (put_near near new))
    ∙ ap (take count) (put-words word near new e ranked.measured ∙ ap (λ (ws : List (List ℕ)). put_by_distance word ws new.word.now) ranked.words)
    ∙ take-put word count (near_words word xs) new.word.now

-- one candidate more, near or not
ranked-more : (word : List ℕ) (xs : List (List ℕ)) (count : ℕ) (near : List Near) (c : Bor (List ℕ)) (d : Option ℕ)
    → d ≡ cond (is_near word c.now) (Some (distance word c.now)) None → IsRanked word xs count near → IsRanked word (xs ++ c.now ∷ []) count (kept count near c d)
ranked-more word xs count near c d answered ranked =
    subst (λ (o : Option ℕ). IsRanked word (xs ++ c.now ∷ []) count (kept count near c o)) (sym answered)
    (by (is_near word c.now) (near-more word xs c.now)
    (ranked-put word xs count near (record { word = c; distance = distance word c.now }) refl ranked)
    (take-measured word count _ (put-measured word near (record { word = c; distance = distance word c.now }) refl ranked.measured)) ranked)
  where
    by : (b : Bool) → near_words word (xs ++ c.now ∷ []) ≡ put_if b word (near_words word xs) c.now
        → map (λ n. n.word.now) (take count (put_near near (record { word = c; distance = distance word c.now }))) ≡ take count (put_by_distance word (near_words word xs) c.now)
        → AreMeasured word (take count (put_near near (record { word = c; distance = distance word c.now })))
        → IsRanked word xs count near
        → IsRanked word (xs ++ c.now ∷ []) count (kept count near c (cond b (Some (distance word c.now)) None))
    by true more words measured before = record { words = words ∙ ap (take count) (sym more); measured = measured }
    by false more words measured before = record { words = before.words ∙ ap (take count) (sym more); measured = before.measured }

pub ranked-next : (word : List ℕ) (cs : List (Bor (List ℕ))) (i : ℕ) (e : Bor (List ℕ)) (count : ℕ) (near : List Near) (d : Option ℕ) → i < length cs
    → d ≡ cond (is_near word (get_or cs i e).now) (Some (distance word (get_or cs i e).now)) None
    → IsRanked word (take i (map (λ c. c.now) cs)) count near
    → IsRanked word (take (i + 1) (map (λ c. c.now) cs)) count (kept count near (get_or cs i e) d)
ranked-next word cs i e count near d here answered ranked =
    let now : Bor (List ℕ) → List ℕ = λ c. c.now in
    let within : i < length (map now cs) = rw (length-map cs now) here in
    let more : take (i + 1) (map now cs) ≡ take i (map now cs) ++ (get_or cs i e).now ∷ [] =
    take_more (map now cs) i (now e) within ∙ ap (λ (x : List ℕ). take i (map now cs) ++ x ∷ []) (get_or-map now cs i e (now e) here) in
    subst (λ (xs : List (List ℕ)). IsRanked word xs count (kept count near (get_or cs i e) d)) (sym more) (ranked-more word (take i (map now cs)) count near (get_or cs i e) d answered ranked)

-- the words without their distances, as texts
pub texts-of : (near : List Near) → map (λ (w : Bor (List ℕ)). w.now) (map (λ (n : Near). n.word) near) ≡ map (λ (n : Near). n.word.now) near
texts-of [] = refl
texts-of (n ∷ ns) = ap (λ (ws : List (List ℕ)). n.word.now ∷ ws) (texts-of ns)
