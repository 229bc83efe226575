-- What the reader makes of a line is the event that the line writes.
use Rattle.std.proofs.Common.{◌≡◌, ◌∙◌, ℕ, List, [], ◌∷◌, ◌++◌, Some, option_map, Bool, true, false, refl, ap, subst, append-nil, codes}
use Rattle.std.proofs.lemmas.Slice.Eq.{bytes_eq-Decides}
use Rattle.std.specs.Str.{bytes_eq}
use Rattle.iso_script_lexer.specs.LexicalGrammar.{Ends}
use Rattle.iso_schedule.specs.Lines.{Written, enter, step, leave, shut, IsGap, IsNumeral, Writes, writes_enter, writes_step, writes_leave, writes_shut}
use Rattle.iso_schedule.specs.Scan.{in_word, then_try, word_at, numeral_at, last_numeral, with_one, with_two, after_verb, scanned}
use Rattle.iso_schedule.proofs.Fronts.{AllPass, word_at-append, word_at-parts, numeral_at-append, last_numeral-append, numeral_at-parts, last_numeral-parts, then_try-steps, option_map-mapped}

gap-ends_word : (gap rest : List ℕ) → IsGap gap → Ends in_word (gap ++ rest)
gap-ends_word [] rest g = absurd (g.0 refl)
gap-ends_word (b ∷ bs) rest g = rw g.1.0 refl

-- a line that begins with a word and a gap
scanned-at : (line verb gap rest : List ℕ) → line ≡ verb ++ (gap ++ rest) → AllPass in_word verb → IsGap gap → scanned line ≡ after_verb verb (gap ++ rest)
scanned-at line verb gap rest e all g =
    ap scanned e ∙ ap (λ f. after_verb f.0 f.1) (word_at-append verb (gap ++ rest) all (gap-ends_word gap rest g))

one : (form : List ℕ → Written) (gap w : List ℕ) → IsGap gap → IsNumeral w → with_one form (gap ++ w) ≡ Some (form w)
one form gap w g n = ap (option_map form) (last_numeral-append gap w g n)

two : (form : List ℕ → List ℕ → Written) (gap w mid n : List ℕ) → IsGap gap → IsNumeral w → IsGap mid → IsNumeral n → with_two form (gap ++ (w ++ (mid ++ n))) ≡ Some (form w n)
two form gap w mid n g i h j =
    ap (λ o. then_try o (λ w. with_one (form w.0) w.1)) (numeral_at-append gap w (mid ++ n) g i (gap-ends_word mid n h))
    ∙ one (form w) mid n h j

pub scanned-written : (line : List ℕ) (x : Written) → Writes line x → scanned line ≡ Some x
scanned-written line _ (writes_enter {w = w} {n = n} g h e a b c d) = scanned-at line (codes "enter") g (w ++ (h ++ n)) e (refl, (refl, (refl, (refl, (refl, tt))))) a ∙ two enter g w h n a b c d
scanned-written line _ (writes_step {w = w} g e a b) = scanned-at line (codes "step") g w e (refl, (refl, (refl, (refl, tt)))) a ∙ one step g w a b
scanned-written line _ (writes_leave {w = w} g e a b) = scanned-at line (codes "leave") g w e (refl, (refl, (refl, (refl, (refl, tt))))) a ∙ one leave g w a b
scanned-written line _ (writes_shut {w = w} {n = n} g h e a b c d) = scanned-at line (codes "shut") g (w ++ (h ++ n)) e (refl, (refl, (refl, (refl, tt)))) a ∙ two shut g w h n a b c d

-- one numeral
record One (form : List ℕ → Written) (bs : List ℕ) (x : Written) : Type 0 where
  worker : List ℕ
  gap : List ℕ
  is_gap : IsGap gap
  is_numeral : IsNumeral worker
  parts : bs ≡ gap ++ worker
  is : form worker ≡ x

one-parts : (form : List ℕ → Written) (bs : List ℕ) (x : Written) → with_one form bs ≡ Some x → One form bs x
one-parts form bs x e =
    let m = option_map-mapped form (last_numeral bs) x e in
    let n = last_numeral-parts bs m.value m.from in
    record {
      worker = m.value;
      gap = n.gap;
      is_gap = n.is_gap;
      is_numeral = n.is_numeral;
      parts = n.parts ∙ ap (λ cs. n.gap ++ cs) (append-nil m.value);
      is = m.is;
    }

-- two numerals
record Two (form : List ℕ → List ℕ → Written) (bs : List ℕ) (x : Written) : Type 0 where
  worker : List ℕ
  node : List ℕ
  gap : List ℕ
  mid : List ℕ
  is_gap : IsGap gap
  is_worker : IsNumeral worker
  is_mid : IsGap mid
  is_node : IsNumeral node
  parts : bs ≡ gap ++ (worker ++ (mid ++ node))
  is : form worker node ≡ x

two-parts : (form : List ℕ → List ℕ → Written) (bs : List ℕ) (x : Written) → with_two form bs ≡ Some x → Two form bs x
two-parts form bs x e =
    let s = then_try-steps (numeral_at bs) (λ w. with_one (form w.0) w.1) x e in
    let n = numeral_at-parts bs s.value s.first in
    let o = one-parts (form s.value.0) s.value.1 x s.second in
    record {
      worker = s.value.0;
      node = o.worker;
      gap = n.gap;
      mid = o.gap;
      is_gap = n.is_gap;
      is_worker = n.is_numeral;
      is_mid = o.is_gap;
      is_node = o.is_numeral;
      parts = n.parts ∙ ap (λ cs. n.gap ++ (s.value.0 ++ cs)) o.parts;
      is = o.is;
    }

after_verb-written : (line verb bs : List ℕ) (x : Written) → line ≡ verb ++ bs → after_verb verb bs ≡ Some x → Writes line x
after_verb-written line verb bs x parts e = go (bytes_eq verb (codes "enter")) (bytes_eq verb (codes "step")) (bytes_eq verb (codes "leave")) (bytes_eq verb (codes "shut")) refl refl refl refl
  where
    joined : (word cs : List ℕ) → bytes_eq verb word ≡ true → bs ≡ cs → line ≡ word ++ cs
    joined word cs t f = parts ∙ (λ i. (bytes_eq-Decides verb word).0 t i ++ f i)

    go : (a b c d : Bool) → bytes_eq verb (codes "enter") ≡ a → bytes_eq verb (codes "step") ≡ b → bytes_eq verb (codes "leave") ≡ c → bytes_eq verb (codes "shut") ≡ d → Writes line x
    go true b c d p q r s =
        let t = two-parts enter bs x (rw p at e) in
        subst (Writes line) t.is (writes_enter t.gap t.mid (joined (codes "enter") _ p t.parts) t.is_gap t.is_worker t.is_mid t.is_node)
    go false true c d p q r s =
        let t = one-parts step bs x (rw (p, q) at e) in
        subst (Writes line) t.is (writes_step t.gap (joined (codes "step") _ q t.parts) t.is_gap t.is_numeral)
    go false false true d p q r s =
        let t = one-parts leave bs x (rw (p, q, r) at e) in
        subst (Writes line) t.is (writes_leave t.gap (joined (codes "leave") _ r t.parts) t.is_gap t.is_numeral)
    go false false false true p q r s =
        let t = two-parts shut bs x (rw (p, q, r, s) at e) in
        subst (Writes line) t.is (writes_shut t.gap t.mid (joined (codes "shut") _ s t.parts) t.is_gap t.is_worker t.is_mid t.is_node)
    go false false false false p q r s = let h = rw (p, q, r, s) at e in cc

pub written-scanned : (line : List ℕ) (x : Written) → scanned line ≡ Some x → Writes line x
written-scanned line x e = after_verb-written line (word_at line).0 (word_at line).1 x (word_at-parts line) e
