use Rattle.std.proofs.Common.{◌≡◌, ◌≢◌, ◌==◌, ◌+◌, ◌-◌, ◌<◌, ◌∷◌, [], ◌++◌, ℕ, List, Bool, true, false, take, drop, filter, get_or, length, refl, ap, sym, ◌∙◌, append_assoc, arith}
use Rattle.std.proofs.lemmas.Bool.Decides.{nat_tests}
use Rattle.std.proofs.lemmas.List.{get_or_default, take_rest}
use Rattle.std.specs.Str.Lines.{lines, strip_carriage_return}
use Rattle.iso_plan.specs.KeptNodes.{texts_of}
use Rattle.iso_selection.proofs.LineLemmas.{IsLine, kept-first, kept-last, lines-at, lines-last}
use Rattle.iso_selection.specs.Lists.{has_bytes}
use Rattle.iso_selection.proofs.list.listed.Goals as goal
use Rattle.iso_selection.proofs.list.listed.Goals.{then-file-at-eq10+in_ok-add, else-file-at-eq10}

-- a line begins after a line feed, and goes on with a byte that is none
new_line : (file : List ℕ) (at : ℕ) → IsLine file (at + 1) (at + 1)
new_line file at = record { plain = λ k d low less. absurd (omega arith) }

line-more : (file : List ℕ) (begin at : ℕ) → at < length file → IsLine file begin at → get_or file at 0 ≢ 10 → IsLine file begin (at + 1)
line-more file begin at h line other =
    record {
      plain = λ k d low less.
          elim (k == at) as (λ (b : Bool). (k == at) ≡ b → (get_or file k d == 10) ≡ false) [
            | true ↦ λ e.
                let same : k ≡ at = grind (arith, nat_tests) in
                let here : get_or file k d ≡ get_or file at 0 = ap (λ (j : ℕ). get_or file j d) same ∙ get_or_default file at d 0 h in
                apart (get_or file k d) (λ feed. other (sym here ∙ feed))
            | false ↦ λ e. line.plain k d low (grind (arith, nat_tests))
          ] refl;
    }
  where
    apart : (n : ℕ) → n ≢ 10 → (n == 10) ≡ false
    apart n h = grind (arith, nat_tests)

-- a line more is kept
kept-more : (before : List (List ℕ)) (line : List ℕ) (rest : List (List ℕ)) → (before ++ filter has_bytes (line ∷ [])) ++ filter has_bytes rest ≡ before ++ filter has_bytes (line ∷ rest)
kept-more before line rest = append_assoc before (filter has_bytes (line ∷ [])) (filter has_bytes rest) ∙ ap (λ (ls : List (List ℕ)). before ++ ls) (sym (kept-first line rest))

pub bytes-preserved : goal.bytes-preserved
bytes-preserved c =
    let file = c.args.file.now in
    let at = c.bytes.at in
    let begin = c.bytes.begin in
    let i = c.bytes.invariant in
    elim c.if-file-at-eq10.branch [
      | then-file-at-eq10+in_ok-add w ↦
          let line = strip_carriage_return (take (at - begin) (drop begin file)) in
          let old = texts_of c.bytes.paths.items in
          record {
            within = let e = w.begin-is in omega arith;
            line = rw w.begin-is (new_line file at);
            same =
                rw (w.begin-is, w.paths-is) (
                ap (λ (ps : List (List ℕ)). ps ++ filter has_bytes (lines (drop (at + 1) file))) (w.in_ok-add.ensures ∙ ap (λ (l : List ℕ). old ++ filter has_bytes (l ∷ [])) w.without_return.ensures)
                ∙ kept-more old line (lines (drop (at + 1) file))
                ∙ ap (λ (ls : List (List ℕ)). old ++ filter has_bytes ls) (sym (lines-at file begin at 0 i.within (omega arith) i.line w.if-file-at-eq10.true)) ∙ i.same);
          }
      | else-file-at-eq10 w ↦
          record {
            within = let e = w.begin-is in let low = i.within in omega arith;
            line = rw w.begin-is (line-more file begin at (omega arith) i.line w.if-file-at-eq10.false);
            same = rw (w.begin-is, w.paths-is) i.same;
          }
    ]

pub returns : goal.returns
returns c =
    let file = c.args.file.now in
    let begin = c.bytes.begin in
    let i = c.bytes.invariant in
    let low = i.within in
    let last : c.bytes.at ≡ length file = omega arith in
    let rest = drop begin file in
    let old = texts_of c.bytes.paths.items in
    c.in_ok-add-2.ensures ∙ ap (λ (l : List ℕ). old ++ filter has_bytes (l ∷ [])) (take_rest file begin)
    ∙ ap (λ (ls : List (List ℕ)). old ++ ls) (sym (kept-last rest))
    ∙ ap (λ (ls : List (List ℕ)). old ++ filter has_bytes ls) (sym (lines-last file begin (rw last at i.line) (omega arith))) ∙ i.same
