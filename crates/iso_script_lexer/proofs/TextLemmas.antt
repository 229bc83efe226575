-- Texts: `front_of` reads what is spelled.
use Rattle.std.proofs.Common.{◌≡◌, ℕ, zero, suc, ◌+◌, ◌-◌, ◌<◌, ◌≤◌, List, [], ◌∷◌, ◌++◌, length, take, drop, get_or, Bool, true, false, cond, nat_eq, ◌&&◌, not, Option, Some, None, refl, ap, sym, subst, ◌∙◌, add-one, arith, inl, inr}
use Rattle.std.proofs.lemmas.Bool.Decides.{nat_tests}
use Rattle.std.proofs.lemmas.List.{take-append-drop}
use Rattle.std.proofs.Math.Seq.{take-append_seam, drop-append-add}
use Rattle.std.specs.List.{AllByRecursion, list_all}
use Rattle.iso_script_lexer.specs.Piece.{text_at}
use Rattle.iso_script_lexer.specs.Spelling.{is_printable, is_escaped}
use Rattle.iso_script_lexer.specs.Text.{written, decoded, is_quoted, IsQuoted, IsText}
use Rattle.iso_script_lexer.specs.LexicalGrammar.{spells_text}
use Rattle.iso_script_lexer.specs.Scan.{quoted_length, text_piece, front_of}
use Rattle.iso_script_lexer.proofs.Decisions.{chosen, both, equal}
use Rattle.iso_script_lexer.proofs.Texts.{quoted, after_one, after_counted}
use Rattle.iso_script_lexer.proofs.Fronts.{Fronts, a_token, no_front, front_of-quote}
use Rattle.iso_script_lexer.specs.declared.token.Position.{Position}

abbrev AllPrintable : List ℕ → Type 0
AllPrintable t = AllByRecursion (λ c. is_printable c ≡ true) t

-- a text as written has the length that it is written with, and decodes to itself
pub quoted_length-written : (room : ℕ) (t rest : List ℕ) → AllPrintable t → length t ≤ room → quoted_length false room (written t ++ (34 ∷ rest)) ≡ Some (length (written t))
unfolding quoted_length
quoted_length-written room [] rest all short = refl
quoted_length-written room (b ∷ t) rest all short =
    go (is_escaped b) refl (quoted_length-written (room - 1) t rest all.1 (omega arith))
  where
    open_room : nat_eq room 0 ≡ false
    open_room = grind (arith, nat_tests)

    go : (e : Bool) → is_escaped b ≡ e → quoted_length false (room - 1) (written t ++ (34 ∷ rest)) ≡ Some (length (written t)) →
        quoted_length false room (cond e (92 ∷ b ∷ written t) (b ∷ written t) ++ (34 ∷ rest)) ≡ Some (length (cond e (92 ∷ b ∷ written t) (b ∷ written t)))
    go true e h = rw (e, open_room, h) (ap Some (omega arith))
    go false e h =
        let no_quote : nat_eq b 34 ≡ false = grind (arith, nat_tests) in
        let no_slash : nat_eq b 92 ≡ false = grind (arith, nat_tests) in
        rw (no_quote, no_slash, all.0, open_room, h) (ap Some (omega arith))

pub decoded-written : (t : List ℕ) → decoded false (written t) ≡ t
unfolding decoded
decoded-written [] = refl
decoded-written (b ∷ t) = go (is_escaped b) refl (decoded-written t)
  where
    go : (e : Bool) → is_escaped b ≡ e → decoded false (written t) ≡ t → decoded false (cond e (92 ∷ b ∷ written t) (b ∷ written t)) ≡ b ∷ t
    go true e h = ap (λ t. b ∷ t) h
    go false e h = let no_slash : nat_eq b 92 ≡ false = grind (arith, nat_tests) in rw no_slash (ap (λ t. b ∷ t) h)

pub front_of-text : (r : Position) (t rest : List ℕ) → AllPrintable t → length t ≤ 4096 → front_of r (34 ∷ (written t ++ (34 ∷ rest))) ≡ Some (text_at r t, rest)
front_of-text r t rest all short =
    front_of-quote r (written t ++ (34 ∷ rest))
    ∙ ap (λ o. text_piece r o (written t ++ (34 ∷ rest))) (quoted_length-written 4096 t rest all short)
    ∙ rw (take-append_seam (written t) (34 ∷ rest), drop-append-add (written t) (34 ∷ rest) 1, decoded-written t) refl

one_byte : (b n m : ℕ) (bs : List ℕ) → n ≡ suc m → drop m bs ≡ 34 ∷ drop (m + 1) bs → drop n (b ∷ bs) ≡ 34 ∷ drop (n + 1) (b ∷ bs)
one_byte b n m bs is h = rw (is, add-one) (h ∙ rw add-one refl)

-- what is quoted, with its backslash, is how its meaning is written
abbrev after_slash : Bool → List ℕ → List ℕ
after_slash false bs = bs
after_slash true bs = 92 ∷ bs

pub written-decoded : (escaped : Bool) (bs : List ℕ) → is_quoted escaped bs ≡ true → written (decoded escaped bs) ≡ after_slash escaped bs
unfolding decoded is_quoted
written-decoded false [] h = refl
written-decoded true [] h = cc
written-decoded false (b ∷ bs) h =
    elim (chosen (nat_eq b 92) _ _ _ h) [
      | inl w ↦ rw w.0 (written-decoded true bs w.1 ∙ ap (λ c. c ∷ bs) (sym (equal b 92 w.0)))
      | inr w ↦
          let t = both _ (is_quoted false bs) w.1 in
          let u = both (not (nat_eq b 34)) (is_printable b) t.0 in
          let plain : is_escaped b ≡ false = (let q = u.0 in let s = w.0 in grind (arith, nat_tests)) in
          rw (w.0, plain) (ap (λ bs. b ∷ bs) (written-decoded false bs t.1))
    ]
written-decoded true (b ∷ bs) h =
    let t = both (is_escaped b) (is_quoted false bs) h in
    rw t.0 (ap (λ bs. 92 ∷ b ∷ bs) (written-decoded false bs t.1))

escaped-printable : (b : ℕ) → is_escaped b ≡ true → is_printable b ≡ true
escaped-printable b h = grind (arith, nat_tests)

pub decoded-AllPrintable : (escaped : Bool) (bs : List ℕ) → is_quoted escaped bs ≡ true → AllPrintable (decoded escaped bs)
unfolding decoded is_quoted
decoded-AllPrintable escaped [] h = tt
decoded-AllPrintable false (b ∷ bs) h =
    elim (chosen (nat_eq b 92) _ _ _ h) [
      | inl w ↦ rw w.0 (decoded-AllPrintable true bs w.1)
      | inr w ↦
          let t = both _ (is_quoted false bs) w.1 in
          let u = both (not (nat_eq b 34)) (is_printable b) t.0 in
          rw w.0 (u.1, decoded-AllPrintable false bs t.1)
    ]
decoded-AllPrintable true (b ∷ bs) h =
    let t = both (is_escaped b) (is_quoted false bs) h in
    (escaped-printable b t.0, decoded-AllPrintable false bs t.1)

pub quoted_text : (raw : List ℕ) → IsQuoted raw → IsText (decoded false raw)
quoted_text raw h = record { printable = decoded-AllPrintable false raw h.plain; short = h.short }

-- quoted bytes are ASCII
plain_ascii : (b : ℕ) → (not (nat_eq b 34) && is_printable b) ≡ true → b < 128
plain_ascii b h = grind (arith, nat_tests)

escaped_ascii : (b : ℕ) → is_escaped b ≡ true → b < 128
escaped_ascii b h = grind (arith, nat_tests)

is_quoted-ascii : (escaped : Bool) (bs : List ℕ) (i : ℕ) → is_quoted escaped bs ≡ true → get_or bs i 0 < 128
unfolding is_quoted
is_quoted-ascii escaped [] i h = omega arith
is_quoted-ascii false (b ∷ bs) i h =
    elim (chosen (nat_eq b 92) _ _ _ h) [
      | inl w ↦ each i (let e = equal b 92 w.0 in omega arith) (λ i. is_quoted-ascii true bs i w.1)
      | inr w ↦ let t = both _ (is_quoted false bs) w.1 in each i (plain_ascii b t.0) (λ i. is_quoted-ascii false bs i t.1)
    ]
  where
    each : (i : ℕ) → b < 128 → ((i : ℕ) → get_or bs i 0 < 128) → get_or (b ∷ bs) i 0 < 128
    each zero h more = h
    each (suc i) h more = more i
is_quoted-ascii true (b ∷ bs) i h =
    let t = both (is_escaped b) (is_quoted false bs) h in each i (escaped_ascii b t.0) (λ i. is_quoted-ascii false bs i t.1)
  where
    each : (i : ℕ) → b < 128 → ((i : ℕ) → get_or bs i 0 < 128) → get_or (b ∷ bs) i 0 < 128
    each zero h more = h
    each (suc i) h more = more i

pub quoted_ascii : (raw : List ℕ) (i : ℕ) → IsQuoted raw → get_or raw i 0 < 128
quoted_ascii raw i h = is_quoted-ascii false raw i h.plain

-- the closing quote
pub closes : (escaped : Bool) (room n : ℕ) (bs : List ℕ) → quoted_length escaped room bs ≡ Some n → drop n bs ≡ 34 ∷ drop (n + 1) bs
unfolding quoted_length
closes escaped room n [] h = cc
closes false room n (b ∷ bs) h =
    elim (chosen (nat_eq b 34) _ _ (Some n) h) [
      | inl w ↦ let e : 0 ≡ n = cc in subst (λ n. drop n (b ∷ bs) ≡ 34 ∷ drop (n + 1) (b ∷ bs)) e (ap (λ c. c ∷ bs) (equal b 34 w.0))
      | inr q ↦ elim (chosen (nat_eq b 92) _ _ _ q.1) [
        | inl w ↦ let m = after_one n (quoted_length true room bs) w.1 in one_byte b n m.0 bs m.2 (closes true room m.0 bs m.1)
        | inr s ↦ elim (chosen (is_printable b) _ _ _ s.1) [
          | inl w ↦ let m = after_counted n room (λ r. quoted_length false r bs) w.1 in one_byte b n m.0 bs m.2 (closes false (room - 1) m.0 bs m.1)
          | inr w ↦ let e = w.1 in cc
        ]
      ]
    ]
closes true room n (b ∷ bs) h =
    elim (chosen (is_escaped b) _ _ _ h) [
      | inl w ↦ let m = after_counted n room (λ r. quoted_length false r bs) w.1 in one_byte b n m.0 bs m.2 (closes false (room - 1) m.0 bs m.1)
      | inr w ↦ let e = w.1 in cc
    ]

pub text_front : (r : Position) (bs : List ℕ) → Fronts r (34 ∷ bs) (text_piece r (quoted_length false 4096 bs) bs)
text_front r bs = go (quoted_length false 4096 bs) refl
  where
    go : (o : Option ℕ) → quoted_length false 4096 bs ≡ o → Fronts r (34 ∷ bs) (text_piece r o bs)
    go None e = no_front refl
    go (Some n) e =
        let t = quoted false 4096 n bs e in
        a_token (spells_text
        (ap (λ ds. 34 ∷ ds) (sym (take-append-drop n bs) ∙ ap (λ ds. take n bs ++ ds) (closes false 4096 n bs e)
        ∙ ap (λ raw. raw ++ (34 ∷ drop (n + 1) bs)) (sym (written-decoded false (take n bs) t.plain))))
        record { printable = decoded-AllPrintable false (take n bs) t.plain; short = t.short })

-- what has no backslash means itself
pub plain-decoded : (bs : List ℕ) → list_all (λ b. not (nat_eq b 92)) bs ≡ true → decoded false bs ≡ bs
unfolding decoded
plain-decoded [] h = refl
plain-decoded (b ∷ bs) h =
    let t = both (not (nat_eq b 92)) (list_all (λ b. not (nat_eq b 92)) bs) h in
    rw (unmarked (nat_eq b 92) t.0, plain-decoded bs t.1) refl
  where
    unmarked : (s : Bool) → not s ≡ true → s ≡ false
    unmarked false e = refl
    unmarked true e = cc
