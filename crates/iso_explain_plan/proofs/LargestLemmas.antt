-- The largest classes, one class after another.
use Rattle.std.proofs.Common.{◌≡◌, ℕ, zero, suc, ◌+◌, ◌<◌, List, [], ◌∷◌, ◌++◌, Bool, true, false, cond, not, nat_le, nat_lt, fold, get_or, insert, length, take, refl, ap, sym, ◌∙◌, arith}
use Rattle.std.proofs.lemmas.Bool.Decides.{nat_tests}
use Rattle.std.proofs.lemmas.List.{take_more}
use Rattle.std.proofs.lemmas.List.Sums.{fold-append}
use Rattle.std.specs.List.{prefix_len}
use Rattle.iso_explain_plan.specs.Largest.{by_size, put_by_size}
use Rattle.iso_explain_plan.specs.declared.size.Size.{Size}

insert-further : (x : Size) (xs : List Size) (n : ℕ) (new : Size) → insert (x ∷ xs) (1 + n) new ≡ x ∷ insert xs n new
insert-further x xs n new = let e : 1 + n ≡ suc n = omega arith in rw e refl

-- where a size is put in
pub put-insert : (sizes : List Size) (new : Size) → insert sizes (prefix_len (λ s. nat_le new.count s.count) sizes) new ≡ put_by_size sizes new
put-insert [] new = refl
put-insert (x ∷ xs) new = by (nat_lt x.count new.count) (nat_le new.count x.count) (grind (arith, nat_tests)) (put-insert xs new)
  where
    by : (lt le : Bool) → le ≡ not lt → insert xs (prefix_len (λ s. nat_le new.count s.count) xs) new ≡ put_by_size xs new
        → insert (x ∷ xs) (cond le (1 + prefix_len (λ s. nat_le new.count s.count) xs) 0) new ≡ cond lt (new ∷ x ∷ xs) (x ∷ put_by_size xs new)
    by true false e more = refl
    by false true e more = insert-further x xs (prefix_len (λ s. nat_le new.count s.count) xs) new ∙ ap (λ (ns : List Size). x ∷ ns) more
    by true true e more = absurd (cc)
    by false false e more = absurd (cc)

-- where it is put in, by the place that was counted
pub put-at : (sizes seen : List Size) (new : Size) (n : ℕ) → n ≡ prefix_len (λ s. nat_le new.count s.count) seen → seen ≡ sizes
    → insert sizes n new ≡ put_by_size sizes new
put-at sizes seen new n counted same = rw (counted, same) (put-insert sizes new)

take-cut : (n : ℕ) (ys : List Size) → take n (take (suc n) ys) ≡ take n ys
take-cut zero ys = refl
take-cut (suc n) [] = refl
take-cut (suc n) (y ∷ ys) = ap (λ (zs : List Size). y ∷ zs) (take-cut n ys)

take-front : (n : ℕ) (y : Size) (ys : List Size) → take n (y ∷ take n ys) ≡ take n (y ∷ ys)
take-front zero y ys = refl
take-front (suc n) y ys = ap (λ (zs : List Size). y ∷ zs) (take-cut n ys)

-- of a list that was cut the first are the same, with one more size
take-put : (n : ℕ) (xs : List Size) (x : Size) → take n (put_by_size (take n xs) x) ≡ take n (put_by_size xs x)
take-put zero xs x = refl
take-put (suc n) [] x = refl
take-put (suc n) (y ∷ ys) x = by (nat_lt y.count x.count) (take-put n ys x)
  where
    by : (b : Bool) → take n (put_by_size (take n ys) x) ≡ take n (put_by_size ys x)
        → take (suc n) (cond b (x ∷ y ∷ take n ys) (y ∷ put_by_size (take n ys) x)) ≡ take (suc n) (cond b (x ∷ y ∷ ys) (y ∷ put_by_size ys x))
    by true more = ap (λ (zs : List Size). x ∷ zs) (take-front n y ys)
    by false more = ap (λ (zs : List Size). y ∷ zs) more

-- one size more
pub largest-next : (sizes : List Size) (i : ℕ) (e : Size) (largest : List Size) → i < length sizes → largest ≡ take 3 (by_size (take i sizes))
    → take 3 (put_by_size largest (get_or sizes i e)) ≡ take 3 (by_size (take (i + 1) sizes))
largest-next sizes i e largest here before =
    let x = get_or sizes i e in
    ap (λ (l : List Size). take 3 (put_by_size l x)) before
    ∙ take-put 3 (by_size (take i sizes)) x
    ∙ ap (take 3) (sym (fold-append put_by_size [] (take i sizes) (x ∷ [])))
    ∙ ap (λ (l : List Size). take 3 (by_size l)) (sym (take_more sizes i e here))
