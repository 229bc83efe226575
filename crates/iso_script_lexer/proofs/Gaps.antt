-- What is skipped is a gap, or a comment that a byte breaks off.
use Rattle.std.proofs.Common.{◌≡◌, ℕ, List, [], ◌∷◌, ◌++◌, true, false, nat_eq, ◌&&◌, refl, ap, subst, ◌∙◌, sym, arith}
use Rattle.std.proofs.lemmas.Bool.Decides.{nat_tests}
use Rattle.std.specs.List.{AllByRecursion}
use Rattle.iso_script_lexer.specs.Spelling.{is_blank, in_comment, begins}
use Rattle.iso_script_lexer.specs.Positions.{Line, line_after}
use Rattle.iso_script_lexer.specs.Scan.{gap_from, after_gap}
use Rattle.iso_script_lexer.specs.LexicalGrammar.{EndsLine, IsGap, no_gap, a_blank, a_line, a_comment}
use Rattle.iso_script_lexer.proofs.Decisions.{by_test, equal, both}

abbrev pub InComment : List ℕ → Type 0
InComment text = AllByRecursion (λ c. in_comment c ≡ true) text

-- a byte that is not allowed
pub record Stops (b : ℕ) : Type 0 where
  pub outside : in_comment b ≡ false
  pub no_line : nat_eq b 10 ≡ false

-- from a line and its bytes `after_gap` leads to these: over a gap, or over a gap and a comment that is broken off
pub data Skip : Line → List ℕ → Line → List ℕ → Type 0 where
  skips : {r q : Line} {bs cs : List ℕ} → IsGap r bs q cs → Skip r bs q cs
  breaks : {r q : Line} {stop : ℕ} {bs cs : List ℕ} (text more : List ℕ) → IsGap r bs q (47 ∷ 47 ∷ (text ++ (stop ∷ more))) → InComment text → Stops stop → cs ≡ stop ∷ more → Skip r bs q cs

-- the same inside a comment
pub data Comment : Line → List ℕ → Line → List ℕ → Type 0 where
  comment_ends : {r q : Line} {bs cs : List ℕ} (text rest : List ℕ) → bs ≡ text ++ rest → InComment text → EndsLine rest → Skip r rest q cs → Comment r bs q cs
  comment_breaks : {r q : Line} {stop : ℕ} {bs cs : List ℕ} (text more : List ℕ) → bs ≡ text ++ (stop ∷ more) → InComment text → Stops stop → cs ≡ stop ∷ more → q ≡ r → Comment r bs q cs

blank_more : {r q : Line} {b : ℕ} {bs cs : List ℕ} → is_blank b ≡ true → Skip r bs q cs → Skip r (b ∷ bs) q cs
blank_more e (skips g) = skips (a_blank e g)
blank_more e (breaks text more g all stop is) = breaks text more (a_blank e g) all stop is

line_more : {r q : Line} {b : ℕ} {bs cs : List ℕ} → b ≡ 10 → Skip (line_after r bs) bs q cs → Skip r (b ∷ bs) q cs
line_more e (skips g) = skips (a_line e g)
line_more e (breaks text more g all stop is) = breaks text more (a_line e g) all stop is

byte_more : {r q : Line} {b : ℕ} {bs cs : List ℕ} → in_comment b ≡ true → Comment r bs q cs → Comment r (b ∷ bs) q cs
byte_more {b = b} e (comment_ends text rest is all end more) = comment_ends (b ∷ text) rest (ap (λ bs. b ∷ bs) is) (e, all) end more
byte_more {b = b} e (comment_breaks text more is all stop at row) = comment_breaks (b ∷ text) more (ap (λ bs. b ∷ bs) is) (e, all) stop at row

-- a comment without its second slash
slash_less : {r q : Line} {b : ℕ} {bs cs : List ℕ} → b ≡ 47 → Comment r (b ∷ bs) q cs → Comment r bs q cs
slash_less s (comment_ends [] [] is all end more) = cc
slash_less s (comment_ends [] (c ∷ rest) is all end more) = let e : c ≡ 47 = cc in absurd (omega arith)
slash_less s (comment_ends (c ∷ text) rest is all end more) = comment_ends text rest (cc) all.1 end more
slash_less {b = b} s (comment_breaks {stop = c} [] more is all stop at row) =
    let same : b ≡ c = cc in
    let out : true ≡ false = subst (λ x. in_comment x ≡ false) (sym same ∙ s) stop.outside in cc
slash_less s (comment_breaks (c ∷ text) more is all stop at row) = comment_breaks text more (cc) all.1 stop at row

two_slashes : {r q : Line} {a b : ℕ} {bs cs : List ℕ} → a ≡ 47 → b ≡ 47 → Comment r bs q cs → Skip r (a ∷ b ∷ bs) q cs
two_slashes e s (comment_ends text rest is all end (skips g)) = skips (a_comment text rest e s is all end g)
two_slashes e s (comment_ends text rest is all end (breaks more_text more g more_all stop at)) = breaks more_text more (a_comment text rest e s is all end g) more_all stop at
two_slashes {r = r} {q = q} {a = a} {b = b} {bs = bs} e s (comment_breaks {stop = c} text more is all stop at row) =
    let start : a ∷ b ∷ bs ≡ 47 ∷ 47 ∷ (text ++ (c ∷ more)) = cc in
    breaks text more (subst (λ y. IsGap r (a ∷ b ∷ bs) y (47 ∷ 47 ∷ (text ++ (c ∷ more)))) (sym row) (subst (λ ys. IsGap r (a ∷ b ∷ bs) r ys) start no_gap)) all stop at

pub starts : (c : ℕ) (bs : List ℕ) → begins c bs ≡ true → (b : ℕ) × (more : List ℕ) × (bs ≡ b ∷ more) × (b ≡ c)
starts c [] h = cc
starts c (b ∷ more) h = (b, more, refl, equal b c h)

comment_begins : (r : Line) (b : ℕ) (q : Line) (bs cs : List ℕ) → nat_eq b 47 && begins 47 bs ≡ true → Comment r bs q cs → Skip r (b ∷ bs) q cs
comment_begins r b q bs cs e h =
    let t = both (nat_eq b 47) (begins 47 bs) e in
    let s = starts 47 bs t.1 in
    subst (λ bs. Skip r (b ∷ bs) q cs) (sym s.2) (two_slashes (equal b 47 t.0) s.3 (slash_less s.3 (subst (λ bs. Comment r bs q cs) s.2 h)))

line_ends : (r : Line) (b : ℕ) (q : Line) (bs cs : List ℕ) → nat_eq b 10 ≡ true → Skip (line_after r bs) bs q cs → Comment r (b ∷ bs) q cs
line_ends r b q bs cs e h = comment_ends [] (b ∷ bs) refl tt (equal b 10 e) (line_more (equal b 10 e) h)

mutual
  unfolding gap_from

  pub skipped : (r : Line) (bs : List ℕ) → Skip r bs (after_gap false r bs).0 (after_gap false r bs).1
  skipped r [] = skips no_gap
  skipped r (b ∷ bs) =
      let P : Line × List ℕ → Type 0 = λ x. Skip r (b ∷ bs) x.0 x.1 in
      by_test P (nat_eq b 10) _ _ (λ e. line_more (equal b 10 e) (skipped (line_after r bs) bs)) (λ n.
      by_test P (is_blank b) _ _ (λ e. blank_more e (skipped r bs)) (λ m.
      by_test P (nat_eq b 47 && begins 47 bs) _ _ (λ e. comment_begins r b _ bs _ e (comment_skipped r bs)) (λ k. skips no_gap)))

  pub comment_skipped : (r : Line) (bs : List ℕ) → Comment r bs (after_gap true r bs).0 (after_gap true r bs).1
  comment_skipped r [] = comment_ends [] [] refl tt tt (skips no_gap)
  comment_skipped r (b ∷ bs) =
      let P : Line × List ℕ → Type 0 = λ x. Comment r (b ∷ bs) x.0 x.1 in
      by_test P (nat_eq b 10) _ _ (λ e. line_ends r b _ bs _ e (skipped (line_after r bs) bs)) (λ n.
      by_test P (in_comment b) _ _ (λ e. byte_more e (comment_skipped r bs)) (λ m.
      comment_breaks [] bs refl tt record { outside = m; no_line = n } refl refl))

-- over a gap nothing else is skipped
comment_passed : (r : Line) (text rest : List ℕ) → InComment text → EndsLine rest → after_gap true r (text ++ rest) ≡ after_gap false r rest
unfolding gap_from
comment_passed r [] [] all end = refl
comment_passed r [] (b ∷ rest) all end = let e : nat_eq b 10 ≡ true = rw end refl in rw e refl
comment_passed r (b ∷ text) rest all end =
    let n : nat_eq b 10 ≡ false = (let e = all.0 in grind (arith, nat_tests)) in
    rw (n, all.0) (comment_passed r text rest all.1 end)

pub gap_passed : {r q : Line} {bs cs : List ℕ} → IsGap r bs q cs → after_gap false r bs ≡ after_gap false q cs
unfolding gap_from
gap_passed no_gap = refl
gap_passed {r = r} {bs = b ∷ bs} (a_blank e g) =
    let n : nat_eq b 10 ≡ false = grind (arith, nat_tests) in
    rw (n, e) (gap_passed g)
gap_passed {bs = b ∷ bs} (a_line e g) = let t : nat_eq b 10 ≡ true = rw e refl in rw t (gap_passed g)
gap_passed {r = r} {bs = a ∷ b ∷ bs} (a_comment text rest e s is all end g) =
    rw (e, s, is) (comment_passed r text rest all end ∙ gap_passed g)
