-- What a pattern takes in, step by step of a search that goes back to the last star alone.
use Rattle.std.proofs.Common.{◌≡◌, ℕ, zero, suc, ◌+◌, ◌-◌, ◌<◌, ◌≤◌, List, [], ◌∷◌, length, drop, get_or, Bool, true, false, ◌||◌, ◌&&◌, ◌==◌, cond, refl, sym, ap, ap₂, ◌∙◌, arith, add-one}
use Rattle.std.proofs.lemmas.Bool.Decides.{nat_tests}
use Rattle.std.proofs.Common.{length-drop}
use Rattle.std.proofs.lemmas.List.{drop_more, drop-drop, drop_all}
use Rattle.iso_selection.specs.Patterns.{begins, is_match, some_end, star}

or-true : (a b : Bool) → b ≡ true → (a || b) ≡ true
or-true true b e = refl
or-true false b e = e

or-left : (a b : Bool) → a ≡ true → (a || b) ≡ true
or-left true b e = refl
or-left false b e = absurd (cc)

-- what passes itself has an end that passes
end-whole : (r : List ℕ → Bool) (xs : List ℕ) → r xs ≡ true → some_end r xs ≡ true
end-whole r [] e = e
end-whole r (c ∷ cs) e = or-left (r (c ∷ cs)) (some_end r cs) e

-- an end of an end is an end
end-drop : (r : List ℕ → Bool) (k : ℕ) (xs : List ℕ) → some_end r (drop k xs) ≡ true → some_end r xs ≡ true
end-drop r zero xs e = e
end-drop r (suc k) [] e = e
end-drop r (suc k) (c ∷ cs) e = or-true (r (c ∷ cs)) (some_end r cs) (end-drop r k cs e)

either : (a b : Bool) {P : Type 0} → (a || b) ≡ true → (a ≡ true → P) → (b ≡ true → P) → P
either true b e f g = f refl
either false b e f g = g e

end-end : (r : List ℕ → Bool) (xs : List ℕ) → some_end (some_end r) xs ≡ true → some_end r xs ≡ true
end-end r [] e = e
end-end r (c ∷ cs) e = either (some_end r (c ∷ cs)) (some_end (some_end r) cs) e (λ h. h) (λ h. or-true (r (c ∷ cs)) (some_end r cs) (end-end r cs h))

-- whether an end of a text but the whole passes
abbrev pub some_later : (List ℕ → Bool) → List ℕ → Bool
some_later passes [] = false
some_later passes (c ∷ cs) = some_end passes cs

or-false : (a : Bool) → a ≡ (a || false)
or-false true = refl
or-false false = refl

pub end-split : (r : List ℕ → Bool) (xs : List ℕ) → some_end r xs ≡ (r xs || some_later r xs)
end-split r [] = or-false (r [])
end-split r (c ∷ cs) = refl

-- what q takes in begins with n bytes, and r takes in the rest
pub record GoesOn (q r : List ℕ → Bool) (n : ℕ) : Type 0 where
  pub goes : (xs : List ℕ) → q xs ≡ true → (n ≤ length xs) × (r (drop n xs) ≡ true)

pub goes-none : (q : List ℕ → Bool) → GoesOn q q 0
goes-none q = record { goes = λ xs e. (omega arith, e) }

-- then what has an end that q takes in has one after n bytes that r takes in
drop-one : (n c : ℕ) (cs : List ℕ) → drop n cs ≡ drop 1 (drop n (c ∷ cs))
drop-one n c cs = ap (λ (k : ℕ). drop k (c ∷ cs)) (sym (add-one n)) ∙ sym (drop-drop 1 n (c ∷ cs))

ends-go : (q r : List ℕ → Bool) (n : ℕ) → GoesOn q r n → (xs : List ℕ) → some_end q xs ≡ true → (n ≤ length xs) × (some_end r (drop n xs) ≡ true)
ends-go q r n g [] e = let h = g.goes [] e in (h.0, end-whole r (drop n []) h.1)
ends-go q r n g (c ∷ cs) e =
    either (q (c ∷ cs)) (some_end q cs) e
    (λ h. let k = g.goes (c ∷ cs) h in (k.0, end-whole r (drop n (c ∷ cs)) k.1))
    (λ h. let k = ends-go q r n g cs h in let low = k.0 in (omega arith, end-drop r 1 (drop n (c ∷ cs)) (rw (sym (drop-one n c cs)) k.1)))

eq-from : (m n : ℕ) → (m == n) ≡ true → m ≡ n
eq-from m n e = grind (arith, nat_tests)

-- where a pattern goes on with a byte that is no star
go-byte : (b : ℕ) (bs xs : List ℕ) → (b == star) ≡ false → is_match (b ∷ bs) xs ≡ true → (1 ≤ length xs) × (is_match bs (drop 1 xs) ≡ true)
go-byte b bs [] plain e = let no : false ≡ true = sym (ap (λ (t : Bool). cond t (some_end (is_match bs) []) false) plain) ∙ e in absurd (cc)
go-byte b bs (c ∷ cs) plain e =
    let both : ((b == c) && is_match bs cs) ≡ true = sym (ap (λ (t : Bool). cond t (some_end (is_match bs) (c ∷ cs)) ((b == c) && is_match bs cs)) plain) ∙ e in
    (omega arith, and-right (b == c) (is_match bs cs) both)
  where
    and-right : (a t : Bool) → (a && t) ≡ true → t ≡ true
    and-right true t e = e
    and-right false t e = absurd (cc)

module _ (pattern : List ℕ) where
  abbrev rest : ℕ → List ℕ → Bool
  rest at = is_match (drop at pattern)

  pub at-star : (at d : ℕ) → at < length pattern → get_or pattern at d ≡ star → (xs : List ℕ) → rest at xs ≡ some_end (rest (at + 1)) xs
  at-star at d h e xs =
      let is : (get_or pattern at d == star) ≡ true = grind (arith, nat_tests) in
      ap (λ (p : List ℕ). is_match p xs) (drop_more pattern at d h)
      ∙ ap (λ (t : Bool). cond t (some_end (rest (at + 1)) xs) (begins (get_or pattern at d) (rest (at + 1)) xs)) is

  pub at-byte : (at d : ℕ) → at < length pattern → (get_or pattern at d == star) ≡ false → (xs : List ℕ) → rest at xs ≡ begins (get_or pattern at d) (rest (at + 1)) xs
  at-byte at d h e xs =
      ap (λ (p : List ℕ). is_match p xs) (drop_more pattern at d h)
      ∙ ap (λ (t : Bool). cond t (some_end (rest (at + 1)) xs) (begins (get_or pattern at d) (rest (at + 1)) xs)) e

  -- a byte more that is no star
  pub goes-more : (after at n d : ℕ) → at < length pattern → (get_or pattern at d == star) ≡ false → GoesOn (rest after) (rest at) n → GoesOn (rest after) (rest (at + 1)) (n + 1)
  goes-more after at n d h plain g =
      record {
        goes = λ xs e.
            let k = g.goes xs e in
            let low = k.0 in
            let here : is_match (get_or pattern at d ∷ drop (at + 1) pattern) (drop n xs) ≡ true = sym (ap (λ (p : List ℕ). is_match p (drop n xs)) (drop_more pattern at d h)) ∙ k.1 in
            let m = go-byte (get_or pattern at d) (drop (at + 1) pattern) (drop n xs) plain here in
            let one = m.0 in
            let left : length (drop n xs) ≡ length xs - n = length-drop n xs in
            (omega arith, rw (drop-drop 1 n xs) at m.1);
      }

absorb : (a b : Bool) → (b ≡ true → a ≡ true) → (a || b) ≡ a
absorb true b f = refl
absorb false true f = sym (f refl)
absorb false false f = refl

none-after : (a b : Bool) → (b ≡ true → ⊥) → (a || b) ≡ a
none-after true b f = refl
none-after false true f = absurd (f refl)
none-after false false f = refl

later-go : (q r : List ℕ → Bool) (n : ℕ) → GoesOn q r n → (xs : List ℕ) → some_later q xs ≡ true → (n < length xs) × (some_end r (drop (n + 1) xs) ≡ true)
later-go q r n g [] e = absurd (cc)
later-go q r n g (c ∷ cs) e =
    let k = ends-go q r n g cs e in
    let low = k.0 in
    (omega arith, ap (λ (m : ℕ). some_end r (drop m (c ∷ cs))) (add-one n) ∙ k.1)

end-same : (r s : List ℕ → Bool) → ((xs : List ℕ) → r xs ≡ s xs) → (xs : List ℕ) → some_end r xs ≡ some_end s xs
end-same r s same [] = same []
end-same r s same (c ∷ cs) = ap₂ (λ (a b : Bool). a || b) (same (c ∷ cs)) (end-same r s same cs)

module _ (pattern text : List ℕ) where
  abbrev left : ℕ → List ℕ → Bool
  left at = is_match (drop at pattern)

  later-here : (after at from place : ℕ) → GoesOn (left after) (left at) (place - from) → from ≤ place → place ≤ length text → some_later (left after) (drop from text) ≡ true
      → (place < length text) × (some_end (left at) (drop place text) ≡ true)
  later-here after at from place g h p e =
      let k = later-go (left after) (left at) (place - from) g (drop from text) e in
      let low = k.0 in
      let long : length (drop from text) ≡ length text - from = length-drop from text in
      let here : drop (place - from + 1) (drop from text) ≡ drop 1 (drop place text) =
      drop-drop (place - from + 1) from text ∙ ap (λ (m : ℕ). drop m text) (omega arith) ∙ sym (drop-drop 1 place text) in
      (omega arith, end-drop (left at) 1 (drop place text) (rw here at k.1))

  -- a star is met
  pub step-star : (after at from place d : ℕ) → at < length pattern → get_or pattern at d ≡ star → GoesOn (left after) (left at) (place - from) → from ≤ place → place ≤ length text
      → (left at (drop place text) || some_later (left after) (drop from text)) ≡ (left (at + 1) (drop place text) || some_later (left (at + 1)) (drop place text))
  step-star after at from place d h e g low p =
      let next = left (at + 1) in
      let whole : left at (drop place text) ≡ some_end next (drop place text) = at-star pattern at d h e (drop place text) in
      ap (λ (t : Bool). t || some_later (left after) (drop from text)) whole
      ∙ absorb (some_end next (drop place text)) (some_later (left after) (drop from text))
      (λ l. end-end next (drop place text) (sym (end-same (left at) (some_end next) (at-star pattern at d h e) (drop place text)) ∙ (later-here after at from place g low p l).1))
      ∙ end-split next (drop place text)

  -- a byte is met that stands for itself
  pub step-byte : (at place d e : ℕ) → at < length pattern → place < length text → (get_or pattern at d == star) ≡ false
      → get_or pattern at d ≡ get_or text place e → left at (drop place text) ≡ left (at + 1) (drop (place + 1) text)
  step-byte at place d e h p plain same =
      let eq : (get_or pattern at d == get_or text place e) ≡ true = grind (arith, nat_tests) in
      at-byte pattern at d h plain (drop place text) ∙ ap (begins (get_or pattern at d) (left (at + 1))) (drop_more text place e p)
      ∙ ap (λ (t : Bool). t && left (at + 1) (drop (place + 1) text)) eq

  -- another byte is met
  pub other-byte : (at place d e : ℕ) → at < length pattern → place < length text → (get_or pattern at d == star) ≡ false
      → (get_or pattern at d == get_or text place e) ≡ false → left at (drop place text) ≡ false
  other-byte at place d e h p plain apart =
      at-byte pattern at d h plain (drop place text) ∙ ap (begins (get_or pattern at d) (left (at + 1))) (drop_more text place e p)
      ∙ ap (λ (t : Bool). t && left (at + 1) (drop (place + 1) text)) apart

  -- or the pattern is at its end, and the text isn't
  pub pattern-over : (at place : ℕ) → length pattern ≤ at → place < length text → left at (drop place text) ≡ false
  pattern-over at place h p =
      let long : length (drop place text) ≡ length text - place = length-drop place text in
      ap (λ (q : List ℕ). is_match q (drop place text)) (drop_all at pattern h) ∙ some-left (length (drop place text)) (omega arith)
    where
      some-left : (n : ℕ) → 0 < n → (n == 0) ≡ false
      some-left n h = grind (arith, nat_tests)

  pub step-back : (after at from place d : ℕ) → from < length text → left at (drop place text) ≡ false
      → (left at (drop place text) || some_later (left after) (drop from text)) ≡ (left after (drop (from + 1) text) || some_later (left after) (drop (from + 1) text))
  step-back after at from place d h differs =
      ap (λ (t : Bool). t || some_later (left after) (drop from text)) differs ∙ ap (some_later (left after)) (drop_more text from d h)
      ∙ end-split (left after) (drop (from + 1) text)

  -- at the end of the text an earlier star takes in nothing more
  pub at-end : (after at from place : ℕ) → GoesOn (left after) (left at) (place - from) → from ≤ place → place ≡ length text
      → (left at (drop place text) || some_later (left after) (drop from text)) ≡ left at []
  at-end after at from place g low last =
      none-after (left at (drop place text)) (some_later (left after) (drop from text)) (λ l. let k = (later-here after at from place g low (omega arith) l).0 in omega arith)
      ∙ ap (left at) (drop_all place text (omega arith))
