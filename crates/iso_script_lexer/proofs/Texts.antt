-- Texts between quotes.
use Rattle.std.proofs.Common.{◌≡◌, ℕ, suc, ◌+◌, ◌-◌, ◌<◌, ◌≤◌, List, [], ◌∷◌, length, take, Option, Some, None, Bool, true, false, refl, sym, arith, option_map, nat_eq, inl, inr, subst}
use Rattle.std.proofs.lemmas.Bool.Decides.{nat_tests}
use Rattle.iso_script_lexer.specs.Scan.{one_more, counted, quoted_length}
use Rattle.iso_script_lexer.specs.Spelling.{is_printable, is_escaped}
use Rattle.iso_script_lexer.specs.Text.{decoded, is_quoted}
use Rattle.iso_script_lexer.proofs.Decisions.{chosen}

-- a length counted from so many bytes before
abbrev pub later : ℕ → Option ℕ → Option ℕ
later k n = option_map (λ m. m + k) n

-- the first n bytes are the rest of a text, with room for what they say, and a byte follows
pub record IsTextRest (escaped : Bool) (room n : ℕ) (bs : List ℕ) : Type 0 where
  pub inside : n < length bs
  pub plain : is_quoted escaped (take n bs) ≡ true
  pub short : length (decoded escaped (take n bs)) ≤ room

pub after_one : (n : ℕ) (o : Option ℕ) → one_more o ≡ Some n → (m : ℕ) × (o ≡ Some m) × (n ≡ suc m)
after_one n None h = cc
after_one n (Some m) h = (m, refl, let e : m + 1 ≡ n = cc in omega arith)

pub after_counted : (n room : ℕ) (f : ℕ → Option ℕ) → counted room f ≡ Some n → (m : ℕ) × (f (room - 1) ≡ Some m) × (n ≡ suc m) × (0 < room)
after_counted n room f h =
    elim (chosen (nat_eq room 0) None (one_more (f (room - 1))) (Some n) h) [
      | inl w ↦ cc
      | inr w ↦ let r = after_one n (f (room - 1)) w.1 in (r.0, r.1, r.2, let e = w.0 in grind (arith, nat_tests))
    ]

pub quoted : (escaped : Bool) (room n : ℕ) (bs : List ℕ) → quoted_length escaped room bs ≡ Some n → IsTextRest escaped room n bs
unfolding quoted_length decoded is_quoted
quoted escaped room n [] h = cc
quoted false room n (b ∷ bs) h =
    elim (chosen (nat_eq b 34) _ _ (Some n) h) [
      | inl w ↦ let e : 0 ≡ n = cc in subst (λ n. IsTextRest false room n (b ∷ bs)) e record { inside = omega arith; plain = refl; short = omega arith }
      | inr q ↦ elim (chosen (nat_eq b 92) _ _ _ q.1) [
        | inl w ↦ let m = after_one n (quoted_length true room bs) w.1 in let t = quoted true room m.0 bs m.1 in
            subst (λ n. IsTextRest false room n (b ∷ bs)) (sym m.2) record { inside = let i = t.inside in omega arith; plain = rw w.0 t.plain; short = rw w.0 t.short }
        | inr s ↦ elim (chosen (is_printable b) _ _ _ s.1) [
          | inl w ↦ let m = after_counted n room (λ r. quoted_length false r bs) w.1 in let t = quoted false (room - 1) m.0 bs m.1 in
              subst (λ n. IsTextRest false room n (b ∷ bs)) (sym m.2)
              record { inside = let i = t.inside in omega arith; plain = rw (s.0, q.0, w.0) t.plain; short = rw s.0 (let i = t.short in let j = m.3 in omega arith) }
          | inr w ↦ let e = w.1 in cc
        ]
      ]
    ]
quoted true room n (b ∷ bs) h =
    elim (chosen (is_escaped b) _ _ _ h) [
      | inl w ↦ let m = after_counted n room (λ r. quoted_length false r bs) w.1 in let t = quoted false (room - 1) m.0 bs m.1 in
          subst (λ n. IsTextRest true room n (b ∷ bs)) (sym m.2) record { inside = let i = t.inside in omega arith; plain = rw w.0 t.plain; short = let i = t.short in let j = m.3 in omega arith }
      | inr w ↦ let e = w.1 in cc
    ]
