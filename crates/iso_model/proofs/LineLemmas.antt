-- Lines that stand one after another in a list of bytes.
use Rattle.std.proofs.Common.{◌≡◌, ℕ, suc, ◌+◌, ◌/◌, ◌-◌, ◌<◌, ◌≤◌, ◌==◌, Bool, true, false, cond, List, [], ◌∷◌, ◌++◌, length, take, drop, refl, Some, None, sym, ap, subst, ◌∙◌, append_assoc, ⊎_elim, arith, eqb, ltb}
use Rattle.std.proofs.lemmas.Bool.{and_parts, eqb-true, ltb-true, ltb-false, ne_eqb}
use Rattle.std.proofs.lemmas.List.{length-drop, take_all}
use Rattle.std.proofs.lemmas.List.Recursion.{is_position_or_len}
use Rattle.std.specs.List.{onto_first, position, position_or_len}
use Rattle.std.specs.Str.{IsUtf8}
use Rattle.iso_model.specs.Lines.{line_end, lines_of, last_byte, IsEnded}
use lib.Utf8.{encode, encodes, next, scalar, scalars, scalar_cases}

abbrev pub is_end : ℕ → Bool
is_end b = eqb b line_end

-- no byte among these ends a line
abbrev pub HasNoEnd : List ℕ → Type 0
HasNoEnd [] = Unit {0}
HasNoEnd (b ∷ bs) = (is_end b ≡ false) × HasNoEnd bs

HasNoEnd-append : (xs ys : List ℕ) → HasNoEnd xs → HasNoEnd ys → HasNoEnd (xs ++ ys)
HasNoEnd-append [] ys h k = k
HasNoEnd-append (x ∷ xs) ys h k = (h.0, HasNoEnd-append xs ys h.1 k)

low : (b : ℕ) → b < 248 → is_end b ≡ false
low b h = ne_eqb b 255 (λ e. absurd (omega (arith, e)))

either : (x : Bool) (xs ys : List ℕ) → (x ≡ true → HasNoEnd xs) → (x ≡ false → HasNoEnd ys) → HasNoEnd (cond x xs ys)
either true xs ys h k = h refl
either false xs ys h k = k refl

next-low : (bits : ℕ) → is_end (next bits) ≡ false
next-low bits = low _ (omega arith)

-- the bytes of a character
HasNoEnd-encode : (c : ℕ) → c < 1114112 → HasNoEnd (encode c)
unfolding encode
HasNoEnd-encode c h =
    either (ltb c 128) (c ∷ []) _ (λ e. (low c (omega (arith, ltb-true c 128 e)), tt))
    (λ _. either (ltb c 2048) ((192 + c / 64) ∷ next c ∷ []) _ (λ e. (low (192 + c / 64) (omega (arith, ltb-true c 2048 e)), (next-low c, tt)))
    (λ _. either (ltb c 65536) ((224 + c / 4096) ∷ next (c / 64) ∷ next c ∷ []) _ (λ e. (low (224 + c / 4096) (omega (arith, ltb-true c 65536 e)), (next-low (c / 64), (next-low c, tt))))
    (λ _. (low (240 + c / 262144) (omega arith), (next-low (c / 4096), (next-low (c / 64), (next-low c, tt)))))))

HasNoEnd-encodes : (cs : List ℕ) → scalars cs ≡ true → HasNoEnd (encodes cs)
HasNoEnd-encodes [] h = tt
HasNoEnd-encodes (c ∷ cs) h =
    let parts = and_parts (scalar c) (scalars cs) h in
    let bound : c < 1114112 = ⊎_elim (λ l. omega arith) (λ l. l.1) (scalar_cases c parts.0) in
    HasNoEnd-append (encode c) (encodes cs) (HasNoEnd-encode c bound) (HasNoEnd-encodes cs parts.1)

pub HasNoEnd-text : (bs : List ℕ) → IsUtf8 bs → HasNoEnd bs
HasNoEnd-text bs u = subst HasNoEnd u.1.1 (HasNoEnd-encodes u.0 u.1.0)

last_byte-append : (b : ℕ) (xs ys : List ℕ) → last_byte b (xs ++ ys) ≡ last_byte (last_byte b xs) ys
last_byte-append b [] ys = refl
last_byte-append b (x ∷ xs) ys = last_byte-append x xs ys

some_onto : (b : ℕ) (ls : List (List ℕ)) → 0 < length (onto_first b ls)
some_onto b [] = omega arith
some_onto b (l ∷ ls) = omega arith

-- bytes that aren't empty have a line
some_line : (b : ℕ) (bs : List ℕ) → 0 < length (lines_of (b ∷ bs))
some_line b bs = elim (is_end b) as (λ x. 0 < length (cond x ([] ∷ lines_of bs) (onto_first b (lines_of bs)))) [
  | true ↦ omega arith
  | false ↦ some_onto b (lines_of bs)
]

pub no_line : (bs : List ℕ) → (length bs == 0) ≡ (length (lines_of bs) == 0)
no_line [] = refl
no_line (b ∷ bs) =
    let some = some_line b bs in
    ne_eqb (suc (length bs)) 0 (λ e. absurd (omega (arith, e))) ∙ sym (ne_eqb (length (lines_of (b ∷ bs))) 0 (λ e. absurd (omega (arith, e, some))))

onto_first-append : (b : ℕ) (ls ms : List (List ℕ)) → 0 < length ls → onto_first b (ls ++ ms) ≡ onto_first b ls ++ ms
onto_first-append b [] ms h = absurd (omega (arith, h))
onto_first-append b (l ∷ ls) ms h = refl

-- lines after lines that have their ends
pub lines_of-append : (xs ys : List ℕ) → IsEnded xs → lines_of (xs ++ ys) ≡ lines_of xs ++ lines_of ys
lines_of-append [] ys e = refl
lines_of-append (b ∷ []) ys e = rw e refl
lines_of-append (b ∷ c ∷ cs) ys e =
    let rest = lines_of-append (c ∷ cs) ys e in
    elim (is_end b) as (λ x. cond x ([] ∷ lines_of (c ∷ cs ++ ys)) (onto_first b (lines_of (c ∷ cs ++ ys))) ≡ cond x ([] ∷ lines_of (c ∷ cs)) (onto_first b (lines_of (c ∷ cs))) ++ lines_of ys) [
      | true ↦ ap (λ (ls : List (List ℕ)). [] ∷ ls) rest
      | false ↦ ap (onto_first b) rest ∙ onto_first-append b (lines_of (c ∷ cs)) (lines_of ys) (some_line c cs)
    ]

lines_of-line : (l : List ℕ) → HasNoEnd l → lines_of (l ++ line_end ∷ []) ≡ l ∷ []
lines_of-line [] h = refl
lines_of-line (b ∷ bs) h = rw (h.0, lines_of-line bs h.1) refl

pub IsEnded-append : (xs ys : List ℕ) → IsEnded xs → IsEnded ys → IsEnded (xs ++ ys)
IsEnded-append xs ys h k = last_byte-append line_end xs ys ∙ rw h k

-- a line more
pub pushed-lines : (bs l : List ℕ) → IsEnded bs → HasNoEnd l → lines_of ((bs ++ l) ++ line_end ∷ []) ≡ lines_of bs ++ l ∷ []
pushed-lines bs l e h =
    ap lines_of (append_assoc bs l (line_end ∷ [])) ∙ lines_of-append bs (l ++ line_end ∷ []) e
    ∙ ap (λ (ls : List (List ℕ)). lines_of bs ++ ls) (lines_of-line l h)

pub pushed-ended : (bs : List ℕ) → IsEnded (bs ++ line_end ∷ [])
pushed-ended bs = last_byte-append line_end bs (line_end ∷ [])

-- where the first line ends
abbrev first_end : List ℕ → ℕ
first_end [] = 0
first_end (b ∷ bs) = cond (is_end b) 0 (suc (first_end bs))

has_end : (b : ℕ) (bs : List ℕ) → last_byte b bs ≡ line_end → first_end (b ∷ bs) < length (b ∷ bs)
has_end b [] e = rw e (omega arith)
has_end b (c ∷ cs) e =
    let rest = has_end c cs e in
    elim (is_end b) as (λ x. cond x 0 (suc (first_end (c ∷ cs))) < suc (suc (length cs))) [
      | true ↦ omega arith
      | false ↦ omega (arith, rest)
    ]

none_left : (bs : List ℕ) → IsEnded bs → length bs ≤ first_end bs → lines_of bs ≡ []
none_left [] e h = refl
none_left (b ∷ bs) e h = absurd (omega (arith, h, has_end b bs e))

-- the first line, and those after its end
first_line : (bs : List ℕ) → first_end bs < length bs → lines_of bs ≡ take (first_end bs) bs ∷ lines_of (drop (suc (first_end bs)) bs)
first_line [] h = absurd (omega (arith, h))
first_line (b ∷ bs) h =
    let n = first_end bs in
    elim (is_end b) as (λ x. cond x 0 (suc n) < suc (length bs)
    → cond x ([] ∷ lines_of bs) (onto_first b (lines_of bs)) ≡ take (cond x 0 (suc n)) (b ∷ bs) ∷ lines_of (drop (suc (cond x 0 (suc n))) (b ∷ bs))) [
      | true ↦ λ k. refl
      | false ↦ λ k. let less : n < length bs = omega arith in ap (onto_first b) (first_line bs less)
    ] h

rest_ended : (b : ℕ) (bs : List ℕ) → first_end bs < length bs → last_byte b bs ≡ last_byte line_end (drop (suc (first_end bs)) bs)
rest_ended b [] h = absurd (omega (arith, h))
rest_ended b (c ∷ cs) h =
    let n = first_end cs in
    elim (is_end c) as (λ x. is_end c ≡ x → cond x 0 (suc n) < suc (length cs) → last_byte c cs ≡ last_byte line_end (drop (suc (cond x 0 (suc n))) (c ∷ cs))) [
      | true ↦ λ e k. ap (λ (d : ℕ). last_byte d cs) (eqb-true c line_end e)
      | false ↦ λ e k. let less : n < length cs = omega arith in rest_ended c cs less
    ] refl h

ended : (bs : List ℕ) → first_end bs < length bs → IsEnded bs → IsEnded (drop (suc (first_end bs)) bs)
ended bs h e = sym (rest_ended line_end bs h) ∙ e

first_end-is : (bs : List ℕ) → first_end bs ≡ position_or_len is_end bs
first_end-is bs = is_position_or_len first_end is_end refl (λ b bs. ap (cond (is_end b) 0) (omega arith)) bs

nowhere : (x : Bool) (m : ℕ) → None ≡ cond x (Some m) None → x ≡ false
nowhere true m e = cc
nowhere false m e = refl

at_place : (x : Bool) (n m : ℕ) → Some n ≡ cond x (Some m) None → (x ≡ true) × (n ≡ m)
at_place true n m e = (refl, cc)
at_place false n m e = cc

-- bytes in which no line ends have no line
pub position-none : (bs : List ℕ) → None ≡ position is_end bs → IsEnded bs → lines_of bs ≡ []
position-none bs e h = none_left bs h (rw (← first_end-is bs) at (ltb-false _ _ (nowhere _ _ e)))

-- the first line, and those after its end
pub position-some : (bs : List ℕ) (n : ℕ) → Some n ≡ position is_end bs
    → (n < length bs) × (lines_of bs ≡ take n bs ∷ lines_of (take (length bs - (n + 1)) (drop (n + 1) bs))) × (IsEnded bs → IsEnded (take (length bs - (n + 1)) (drop (n + 1) bs)))
position-some bs n e =
    let found = at_place _ _ _ e in
    let here : n ≡ first_end bs = found.1 ∙ sym (first_end-is bs) in
    let within : first_end bs < length bs = rw (← first_end-is bs) at (ltb-true _ _ found.0) in
    let after : n + 1 ≡ suc (first_end bs) = omega (arith, here) in
    let rest : take (length bs - (n + 1)) (drop (n + 1) bs) ≡ drop (suc (first_end bs)) bs =
    take_all _ _ (omega (arith, length-drop (n + 1) bs)) ∙ ap (λ k. drop k bs) after in
    (omega (arith, here, within), rw (rest, here) (first_line bs within), λ h. rw rest (ended bs within h))
